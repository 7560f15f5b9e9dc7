use Rattle.std.proofs.Common.{Bool, ◌++◌, ◌∷◌, [], List, ap, subst}
use Rattle.std.specs.Prelude.{Ok}
use Rattle.model_base.specs.declared.deed.Record.{Record}
use Rattle.grants_base.specs.Book.{unended}
use Rattle.grants_base.specs.Force.{IsGranted}
use Rattle.grants_base.specs.InForce.{IsChanged, KeepsInForce}
use Rattle.grants_base.specs.Sides.{to_side}
use Rattle.grants_base.specs.declared.grantor_set.Granted.{Granted}
use Rattle.grants_base.specs.declared.index.HolderKey.{HolderKey}
use Rattle.grants_base.proofs.Indexing.{on_err}
use Rattle.grants_base.proofs.Keeping.{keeps_granted, keeps_same}
use Rattle.grants_base.proofs.in_force.GranteeIndex.push.Goals as goal

pub returns-in_err-is_kept-clause-err_kept : goal.returns-in_err-is_kept-clause-err_kept
returns-in_err-is_kept-clause-err_kept c =
    on_err c.from_residual.result ((entries : List Record) → KeepsInForce c.args.self.now entries → KeepsInForce c.put.new.self entries)
    (keeps_same c.args.self.now c.put.new.self c.in_err-is_kept.ensures.whole c.in_err-is_kept.ensures.err)

pub returns-then-not-is_kept-clause-kept : goal.returns-then-not-is_kept-clause-kept
returns-then-not-is_kept-clause-kept c = λ entries last keeps. c.forget.ensures.kept (entries ++ unended c.args.grant.now ∷ [])

pub returns-else-not-is_kept-clause-kept : goal.returns-else-not-is_kept-clause-kept
returns-else-not-is_kept-clause-kept c = λ entries last keeps.
    let grant = c.args.grant.now in
    keeps_granted c.args.self.now c.put.new.self c.in_ok-is_kept.ensures.whole entries keeps grant c.args.slot last
    (subst (λ (granted : Granted). IsChanged (to_side grant) (IsGranted granted grant.option) c.args.self.now c.put.new.self) c.granted_at.ensures
    (subst (λ (key : HolderKey). IsChanged key (IsGranted c.granted_at.result grant.option) c.args.self.now c.put.new.self) c.to_side.ensures
    (c.in_ok-is_kept.ensures.kept (ap (λ (b : Bool). Ok b) c.if-not-is_kept.false))))
