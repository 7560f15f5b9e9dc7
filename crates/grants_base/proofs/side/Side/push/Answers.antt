use Rattle.std.proofs.Common.{◌++◌, ◌∷◌, [], ◌∙◌, ap, sym, subst}
use Rattle.grants_base.specs.Force.{IsGranted}
use Rattle.grants_base.specs.Kept.{several_of_one}
use Rattle.grants_base.specs.declared.side.Several.{Several}
use Rattle.grants_base.proofs.KeptLaws.{first_granted, first_only, nothing_kept}
use Rattle.grants_base.proofs.side.Side.push.Goals as goal

pub returns : goal.returns
returns c =
    let told = c.in_ok-widen.ensures in
    let granted = c.args.granted in
    let option = c.args.option in
    let empty = nothing_kept c.widen.new.kept c.args.self.now (told.same ∙ c.self.view_is) told.wide c.in_default.not-Many in
    record {
      made = ap (λ (side : Several). side.made ++ granted.slot ∷ []) (sym empty);
      kept = λ is. subst (λ (side : Several). IsGranted granted option side.privilege (several_of_one (first_only granted option)).privilege) (sym empty) (first_granted granted option);
      err = tt;
    }
