use Rattle.std.proofs.Common.{◌≡◌, ◌++◌, ◌∷◌, [], ℕ, List, ◌∙◌, ap, arith}
use Rattle.std.specs.Prelude.{unwrap_or}
use Rattle.std.specs.HashMap.{get}
use Rattle.std.specs.HashMap.Entry.{map_with_value}
use Rattle.grants_base.specs.Sides.{same_side}
use Rattle.grants_base.proofs.Keeping.{when_ok}
use Rattle.grants_base.proofs.SideLaws.{on_err_from, put_by, put_same, side_true}
use Rattle.grants_base.proofs.index.Index.push.Goals as goal

pub returns-clause-ok : goal.returns-clause-ok
returns-clause-ok c =
    when_ok c.push.result _ _ c.push.ensures.ok
    (λ given other.
    let was = c.args.self.now.sides in
    let side = c.args.side in
    let value = c.push.new.self in
    let held : c.or_insert-slots.result.now ≡ unwrap_or (get same_side was side) [] =
    c.or_insert-slots.ensures.value ∙ ap (λ found. unwrap_or found c.new.result) c.in_ok-self.ensures.value ∙ ap (unwrap_or (get same_side was side)) c.new.ensures in
    let put =
    put_by side other (λ (slots : List ℕ). slots ++ c.args.slot ∷ []) value (get same_side was side) (get same_side was other) (get same_side (map_with_value c.in_ok-self.field-0 value) other)
    (given ∙ ap (λ (slots : List ℕ). slots ++ c.args.slot ∷ []) held)
    (λ here. ap (get same_side was) (side_true side other here))
    ((c.in_ok-self.ensures.update.0 value).0 other) in
    grind (arith, put))

pub returns-clause-err : goal.returns-clause-err
returns-clause-err c =
    on_err_from c.push.result _ _
    (λ same other.
    let was = c.args.self.now.sides in
    let side = c.args.side in
    let value = c.push.new.self in
    let held : c.or_insert-slots.result.now ≡ unwrap_or (get same_side was side) [] =
    c.or_insert-slots.ensures.value ∙ ap (λ found. unwrap_or found c.new.result) c.in_ok-self.ensures.value ∙ ap (unwrap_or (get same_side was side)) c.new.ensures in
    let put =
    put_same side other value (get same_side was side) (get same_side was other) (get same_side (map_with_value c.in_ok-self.field-0 value) other) (same ∙ held)
    (λ here. ap (get same_side was) (side_true side other here))
    ((c.in_ok-self.ensures.update.0 value).0 other) in
    grind (arith, put))
    c.push.ensures.err
