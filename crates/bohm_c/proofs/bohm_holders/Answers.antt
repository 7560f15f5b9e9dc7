use Rattle.std.proofs.Common.{◌≡◌, ◌<◌, ◌≤◌, ℕ, List, Option, Some, length, rules, subst, sym, take}
use Rattle.std.specs.Prelude.{IfSome, IsUtf8}
use Rattle.fed_run.specs.Stands.{TextLacksTable}
use Rattle.fed_run.specs.declared.fed.FedRun.{FedRun}
use Rattle.bohm_c.specs.Asked.{TextListsAsked}
use Rattle.bohm_c.specs.declared.TheConstants.{DONE, NO_TABLE, ROOM}
use Rattle.bohm_c.proofs.bohm_holders.Goals as goal

pub returns-clause-told : goal.returns-clause-told
returns-clause-told c = λ is.
    let done : c.write_asked-status.result ≡ DONE = search rules in
    let P : FedRun → Type 0 = λ run. TextListsAsked run c.args.kind.now c.args.table.now (take c.write_asked-status.new.made c.write_asked-status.new.out)
    × (c.write_asked-status.new.made ≤ length c.args.out.now) in
    subst (λ (kept : Option FedRun). IfSome kept P) (sym c.in-Some.ensures.some) (subst P c.deref.ensures (c.write_asked-status.ensures.told done))

pub returns-clause-room : goal.returns-clause-room
returns-clause-room c = λ is.
    let room : c.write_asked-status.result ≡ ROOM = search rules in
    let P : FedRun → Type 0 = λ run. (length c.args.out.now < c.write_asked-status.new.made)
    × ((text : List ℕ) × (TextListsAsked run c.args.kind.now c.args.table.now text × (length text ≡ c.write_asked-status.new.made))) in
    subst (λ (kept : Option FedRun). IfSome kept P) (sym c.in-Some.ensures.some) (subst P c.deref.ensures (c.write_asked-status.ensures.room room))

pub returns-clause-lacks : goal.returns-clause-lacks
returns-clause-lacks c = λ is.
    let none : c.write_asked-status.result ≡ NO_TABLE = search rules in
    let P : FedRun → Type 0 = λ run. IsUtf8 c.args.table.now → TextLacksTable run (Some c.args.table.now) in
    subst (λ (kept : Option FedRun). IfSome kept P) (sym c.in-Some.ensures.some) (subst P c.deref.ensures (c.write_asked-status.ensures.lacks none))
