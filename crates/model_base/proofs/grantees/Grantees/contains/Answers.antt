use Rattle.std.proofs.Common.{◌≡◌, ◌<◌, ◌+◌, ◌∷◌, ◌||◌, Bool, true, false, length, drop, sym, ◌∙◌, ap, arith}
use Rattle.std.specs.Prelude.{List}
use Rattle.std.proofs.lemmas.List.{drop_more}
use Rattle.std.proofs.lemmas.Option.{get_or_from_slice_get}
use Rattle.model_base.specs.declared.deed.Grantee.{Grantee}
use Rattle.model_base.specs.Privileges.{has_grantee, same_grantee}
use Rattle.model_base.proofs.grantees.Grantees.contains.Goals as goal

pub returns-then-is_same : goal.returns-then-is_same
returns-then-is_same c =
    let gs = c.args.self.now in
    let grantee = c.args.grantee.now in
    let i = c.loop-index.index in
    let one = c.at.result in
    let here : i < length gs = omega (arith, c.loop-index-test.true, c.len-index-end.ensures.length) in
    let same : true ≡ same_grantee one grantee = sym c.if-is_same.true ∙ c.is_same.ensures in
    ap (λ (b : Bool). b || has_grantee (drop (i + 1) gs) grantee) same
    ∙ ap (λ (g : Grantee). has_grantee (g ∷ drop (i + 1) gs) grantee) (sym (get_or_from_slice_get gs i one one c.at.ensures))
    ∙ ap (λ (others : List Grantee). has_grantee others grantee) (sym (drop_more gs i one here))
    ∙ c.loop-index.invariant

pub loop-index-preserved : goal.loop-index-preserved
loop-index-preserved c =
    let gs = c.args.self.now in
    let grantee = c.args.grantee.now in
    let i = c.loop-index.index in
    let one = c.at.result in
    let here : i < length gs = omega (arith, c.loop-index-test.true, c.len-index-end.ensures.length) in
    let other : false ≡ same_grantee one grantee = sym c.if-is_same.false ∙ c.is_same.ensures in
    ap (λ (b : Bool). b || has_grantee (drop (i + 1) gs) grantee) other
    ∙ ap (λ (g : Grantee). has_grantee (g ∷ drop (i + 1) gs) grantee) (sym (get_or_from_slice_get gs i one one c.at.ensures))
    ∙ ap (λ (others : List Grantee). has_grantee others grantee) (sym (drop_more gs i one here))
    ∙ c.loop-index.invariant
