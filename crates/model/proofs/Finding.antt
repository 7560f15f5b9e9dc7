-- The first need that isn't held, need by need.
use Rattle.std.proofs.Common.{◌≡◌, Bool, true, false, true≢false, List, [], ◌∷◌, Option, Some, None, refl, sym, ap, ◌∙◌}
use Rattle.std.specs.Prelude.{is_some}
use Rattle.std.specs.List.{find}
use Rattle.model_base.specs.declared.deed.Need.{Need}
use Rattle.model_base.proofs.Replay.{by_cases}

-- it is the one before the others, or else one of these
pub find-here : (p : Need → Bool) (need : Need) (later : List Need) (found : Option Need) → found ≡ find p (need ∷ []) → is_some found ≡ true → found ≡ find p (need ∷ later)
find-here p need later found is some =
    by_cases (p need)
    (λ yes. is ∙ rw yes refl)
    (λ no. let none : found ≡ None = is ∙ rw no refl in absurd (true≢false (sym some ∙ ap is_some none)))

pub find-later : (p : Need → Bool) (need : Need) (later : List Need) (found : Option Need) → found ≡ find p (need ∷ []) → is_some found ≡ false → find p later ≡ find p (need ∷ later)
find-later p need later found is none =
    by_cases (p need)
    (λ yes. let some : found ≡ Some need = is ∙ rw yes refl in absurd (true≢false (sym (ap is_some some) ∙ none)))
    (λ no. rw no refl)
