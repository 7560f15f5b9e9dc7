use Rattle.std.proofs.Common.{sym, ◌∙◌}
use Rattle.sequencer.proofs.Parties.{taken_first, taken_new, taken_next}
use Rattle.sequencer.proofs.catalog.Catalog.foretold_grantees.Goals as goal

pub grantees-init : goal.grantees-init
grantees-init c =
    let parts = sym c.all-left.ensures.all ∙ (rw c.unwrap-first.ensures at c.next.ensures) in
    let found = c.in_ok-foretold_grantee.ensures in
    record {
      taken = rw (c.of-found.ensures, found.number) (taken_first c.args.self.now.users c.args.grantees.now c.unwrap-first.result c.next.new.self c.all-left.ensures.grammar parts);
      known = λ rest. rw parts (found.known, rest);
    }

pub push-requires-clause-is_new : goal.push-requires-clause-is_new
push-requires-clause-is_new c =
    let taken = rw c.in-Some.ensures at c.grantees.invariant.taken in
    let found = c.in_ok-foretold_grantee-2.ensures in
    rw found.number
    (taken_new c.args.self.now.users c.args.grantees.now c.in-Some.grantee c.next-in-grantees.new.self c.grantees.found taken found.known)

pub grantees-preserved : goal.grantees-preserved
grantees-preserved c =
    let taken = rw c.in-Some.ensures at c.grantees.invariant.taken in
    let known = rw c.in-Some.ensures at c.grantees.invariant.known in
    let found = c.in_ok-foretold_grantee-2.ensures in
    record {
      taken = rw (c.push.ensures, found.number)
          (taken_next c.args.self.now.users c.args.grantees.now c.in-Some.grantee c.next-in-grantees.new.self c.grantees.found taken);
      known = λ rest. known (found.known, rest);
    }
