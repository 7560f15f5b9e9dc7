use Rattle.std.proofs.Common.{length, take, sym, ◌∙◌, ap}
use Rattle.sequencer.proofs.Parties.{entered_begins, entered_first, entered_new, entered_next}
use Rattle.sequencer.proofs.names.NameTable.enter_listed.Goals as goal

pub grantees-init : goal.grantees-init
grantees-init c =
    let parts = sym c.all-left.ensures.all ∙ (rw c.unwrap-first.ensures at c.next.ensures) in
    let entered = c.in_ok-enter_grantee.ensures in
    rw c.of-found.ensures
    (entered_first c.args.self.now c.enter_grantee.new.self c.args.grantees.now c.next.new.self c.unwrap-first.result parts entered.entered
    c.in_ok-enter_grantee.field-0 c.all-left.ensures.grammar entered.grantee)

pub push-requires-clause-is_new : goal.push-requires-clause-is_new
push-requires-clause-is_new c =
    let h = rw c.in-Some.ensures at c.grantees.invariant in
    entered_new _ c.grantees.self c.args.grantees.now _ c.next-in-grantees.new.self c.in-Some.grantee c.in_ok-enter_grantee-2.field-0 c.grantees.found h
    c.in_ok-enter_grantee-2.ensures.grantee

pub grantees-preserved : goal.grantees-preserved
grantees-preserved c =
    let h = rw c.in-Some.ensures at c.grantees.invariant in
    let entered = c.in_ok-enter_grantee-2.ensures in
    entered_next _ c.grantees.self c.args.grantees.now _ c.next-in-grantees.new.self c.in-Some.grantee c.in_ok-enter_grantee-2.field-0 c.grantees.found h
    entered.grantee _ _ entered.entered entered.passes c.push.ensures

pub returns-in_err-enter_grantee-2-clause-begins :
    goal.returns-in_err-enter_grantee-2-clause-begins
returns-in_err-enter_grantee-2-clause-begins c =
    let parts = sym c.all-left.ensures.all ∙ (rw c.unwrap-first.ensures at c.next.ensures) in
    let old = c.args.self.now in
    ap (λ names. take (length old) names) c.in_err-enter_grantee-2.ensures.err
    ∙ entered_begins old c.enter_grantee.new.self c.args.grantees.now c.next.new.self c.unwrap-first.result parts c.in_ok-enter_grantee.ensures.entered
    c.grantees.self c.grantees.left c.grantees.found c.grantees.invariant

pub returns-clause-begins : goal.returns-clause-begins
returns-clause-begins c =
    let parts = sym c.all-left.ensures.all ∙ (rw c.unwrap-first.ensures at c.next.ensures) in
    entered_begins c.args.self.now c.enter_grantee.new.self c.args.grantees.now c.next.new.self c.unwrap-first.result parts c.in_ok-enter_grantee.ensures.entered
    c.grantees.self c.grantees.left c.grantees.found c.grantees.invariant
