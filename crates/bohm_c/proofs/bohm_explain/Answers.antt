use Rattle.std.proofs.Common.{◌≡◌, ◌<◌, ◌≤◌, ℕ, List, Option, length, rules, subst, sym, take}
use Rattle.std.specs.Prelude.{IfSome}
use Rattle.fed_run.specs.Stands.{TextExplains}
use Rattle.fed_run.specs.declared.fed.FedRun.{FedRun}
use Rattle.bohm_c.specs.declared.TheConstants.{DONE, ROOM}
use Rattle.bohm_c.proofs.bohm_explain.Goals as goal

pub returns-clause-told : goal.returns-clause-told
returns-clause-told c = λ is.
    let done : c.write_explanation-status.result ≡ DONE = search rules in
    let P : FedRun → Type 0 = λ run. TextExplains run c.args.place (take c.write_explanation-status.new.made c.write_explanation-status.new.out)
    × (c.write_explanation-status.new.made ≤ length c.args.out.now) in
    subst (λ (kept : Option FedRun). IfSome kept P) (sym c.in-Some.ensures.some) (subst P c.deref.ensures (c.write_explanation-status.ensures.told done))

pub returns-clause-room : goal.returns-clause-room
returns-clause-room c = λ is.
    let room : c.write_explanation-status.result ≡ ROOM = search rules in
    let P : FedRun → Type 0 = λ run. (length c.args.out.now < c.write_explanation-status.new.made)
    × ((text : List ℕ) × (TextExplains run c.args.place text × (length text ≡ c.write_explanation-status.new.made))) in
    subst (λ (kept : Option FedRun). IfSome kept P) (sym c.in-Some.ensures.some) (subst P c.deref.ensures (c.write_explanation-status.ensures.room room))
