use Rattle.std.proofs.Common.{◌≡◌, ◌<◌, length, get_or, add-one, sym, subst, ◌∙◌, refl}
use Rattle.std.proofs.lemmas.List.{get_or_default}
use Rattle.bohm_core_base.specs.Machine.{State as Contents}
use Rattle.bohm_core.proofs.Vectors.{lists-set}
use Rattle.bohm_core.proofs.state.State.place_next.Goals as goal

pub returns : goal.returns
returns c =
    let is = c.self.view_is in
    let within : c.args.partition < length c.self.inside.fronts.items =
    subst (λ (contents : Contents). c.args.partition < length contents.fronts) (sym is) c.requires.front in
    let front : c.index-front.result.now ≡ get_or c.self.inside.fronts.items c.args.partition 0 =
    c.index-front.ensures ∙ get_or_default c.self.inside.fronts.items c.args.partition c.index-front.result.now 0 within in
    rw (← is, lists-set, add-one, ← front) refl
