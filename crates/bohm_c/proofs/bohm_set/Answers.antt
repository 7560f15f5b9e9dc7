use Rattle.std.proofs.Common.{◌≡◌, Option, rules, subst, sym}
use Rattle.std.specs.Prelude.{IfSome, MatchOption}
use Rattle.fed_run.specs.Stands.{KeepsLast}
use Rattle.fed_run.specs.declared.fed.FedRun.{FedRun}
use Rattle.bohm_c.specs.declared.TheConstants.{DONE, KEEP}
use Rattle.bohm_c.proofs.bohm_set.Goals as goal

pub returns-clause-done : goal.returns-clause-done
returns-clause-done c = λ is.
    let done : c.set-status.result ≡ DONE = search rules in
    let set = c.set-status.ensures.done done in
    let P : FedRun → Type 0 = λ old. (c.args.option ≡ KEEP) × MatchOption c.put.new.handle.run ⊥ (KeepsLast c.args.value old) in
    subst (λ (kept : Option FedRun). IfSome kept P) (sym c.in-Some.ensures.some) (subst P c.deref_mut.ensures.value (
      set.0,
      subst (λ (kept : Option FedRun). MatchOption kept ⊥ (KeepsLast c.args.value c.deref_mut.result.now)) (sym c.put.ensures) set.1,
    ))
