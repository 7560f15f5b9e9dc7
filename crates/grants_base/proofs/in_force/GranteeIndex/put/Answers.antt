use Rattle.std.proofs.Common.{◌≡◌, ◌++◌, ◌∷◌, [], List, ℕ, ◌∙◌, ap, arith, subst}
use Rattle.std.specs.Prelude.{unwrap_or}
use Rattle.std.specs.HashMap.{get}
use Rattle.std.specs.HashMap.Entry.{map_with_value}
use Rattle.grants_base.specs.Force.{IsGranted}
use Rattle.grants_base.specs.Kept.{no_side}
use Rattle.grants_base.specs.Sides.{same_side}
use Rattle.grants_base.specs.declared.side.Several.{Several}
use Rattle.grants_base.proofs.Keeping.{changed_in, made_in, put_into, same_in, when_ok}
use Rattle.grants_base.proofs.SideLaws.{on_err_from, side_true}
use Rattle.grants_base.proofs.in_force.GranteeIndex.put.Goals as goal

pub returns-clause-made : goal.returns-clause-made
returns-clause-made c =
    when_ok c.push.result _ _ c.push.ensures.made
    (λ given other.
    let was = c.args.self.now.sides in
    let key = c.args.key in
    let value = c.push.new.self in
    let now = get same_side (map_with_value c.in_ok-self.field-0 value) other in
    let held : c.or_insert-side.result.now ≡ unwrap_or (get same_side was key) no_side =
    c.or_insert-side.ensures.value ∙ ap (λ found. unwrap_or found c.new.result) c.in_ok-self.ensures.value ∙ ap (unwrap_or (get same_side was key)) c.new.ensures in
    let put =
    put_into (same_side key other) no_side value (λ (old new : Several). new.made ≡ old.made ++ c.args.granted.slot ∷ []) (get same_side was key) (get same_side was other) now
    (subst (λ (old : Several). value.made ≡ old.made ++ c.args.granted.slot ∷ []) held given)
    (λ here. ap (get same_side was) (side_true key other here))
    ((c.in_ok-self.ensures.update.0 value).0 other) in
    let is = made_in (same_side key other) (λ (slots : List ℕ). slots ++ c.args.granted.slot ∷ []) (unwrap_or (get same_side was other) no_side) (unwrap_or now no_side) put in
    grind (arith, is))

pub returns-clause-kept : goal.returns-clause-kept
returns-clause-kept c = λ is other.
    let was = c.args.self.now.sides in
    let key = c.args.key in
    let value = c.push.new.self in
    let now = get same_side (map_with_value c.in_ok-self.field-0 value) other in
    let held : c.or_insert-side.result.now ≡ unwrap_or (get same_side was key) no_side =
    c.or_insert-side.ensures.value ∙ ap (λ found. unwrap_or found c.new.result) c.in_ok-self.ensures.value ∙ ap (unwrap_or (get same_side was key)) c.new.ensures in
    let put =
    put_into (same_side key other) no_side value (λ (old new : Several). IsGranted c.args.granted c.args.option old.privilege new.privilege) (get same_side was key) (get same_side was other) now
    (subst (λ (old : Several). IsGranted c.args.granted c.args.option old.privilege value.privilege) held (c.push.ensures.kept is))
    (λ here. ap (get same_side was) (side_true key other here))
    ((c.in_ok-self.ensures.update.0 value).0 other) in
    let changed = changed_in (λ (side : Several). side.privilege) (same_side key other) _ (unwrap_or (get same_side was other) no_side) (unwrap_or now no_side) put in
    grind (arith, changed)

pub returns-clause-err : goal.returns-clause-err
returns-clause-err c =
    on_err_from c.push.result _ _
    (λ same other.
    let was = c.args.self.now.sides in
    let key = c.args.key in
    let value = c.push.new.self in
    let now = get same_side (map_with_value c.in_ok-self.field-0 value) other in
    let held : c.or_insert-side.result.now ≡ unwrap_or (get same_side was key) no_side =
    c.or_insert-side.ensures.value ∙ ap (λ found. unwrap_or found c.new.result) c.in_ok-self.ensures.value ∙ ap (unwrap_or (get same_side was key)) c.new.ensures in
    let put =
    put_into (same_side key other) no_side value (λ (old new : Several). new ≡ old) (get same_side was key) (get same_side was other) now
    (same ∙ held)
    (λ here. ap (get same_side was) (side_true key other here))
    ((c.in_ok-self.ensures.update.0 value).0 other) in
    let is = same_in (λ (side : Several). side) (same_side key other) (unwrap_or (get same_side was other) no_side) (unwrap_or now no_side) put in
    grind (arith, is))
    c.push.ensures.err
