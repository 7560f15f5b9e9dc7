-- Places that are read from words one after another, and what `explain` asks for by them.
use Rattle.std.proofs.Common.{◌≡◌, ℕ, Bool, false, true, List, [], ◌∷◌, ◌++◌, Option, None, Some, refl, ap, append_assoc, append-nil, ◌∙◌, sym}
use Rattle.std.specs.Prelude.{option_and_then, option_map}
use Rattle.clap.specs.Words.{Text}
use Rattle.command_line.specs.Options.{number_within}
use Rattle.command_line.specs.Places.{places_told}
use Rattle.command_line.specs.Words.{explain, explained_by}

-- what is read so far, and then the rest
abbrev pub after : List ℕ → Option (List ℕ) → Option (List ℕ)
after places rest = option_map (λ (more : List ℕ). places ++ more) rest

pub after_none : (rest : Option (List ℕ)) → after [] rest ≡ rest
after_none None = refl
after_none (Some more) = refl

after_more : (places : List ℕ) (place : ℕ) (rest : Option (List ℕ))
    → after (places ++ place ∷ []) rest ≡ after places (option_map (λ (more : List ℕ). place ∷ more) rest)
after_more places place None = refl
after_more places place (Some more) = ap (λ (found : List ℕ). Some found) (append_assoc places (place ∷ []) more)

-- one more word is a place
pub after_place : (places : List ℕ) (place : ℕ) (word : Text) (words : List Text) (whole : Option (List ℕ))
    → Some place ≡ number_within 0 4294967294 word → after places (places_told (word ∷ words)) ≡ whole
    → after (places ++ place ∷ []) (places_told words) ≡ whole
after_place places place word words whole is so =
    after_more places place (places_told words)
    ∙ ap (λ (found : Option ℕ). after places (option_and_then (λ (it : ℕ). option_map (λ (more : List ℕ). it ∷ more) (places_told words)) found)) is
    ∙ so

-- or it isn't
pub after_other : (places : List ℕ) (word : Text) (words : List Text) (whole : Option (List ℕ)) → None ≡ number_within 0 4294967294 word
    → after places (places_told (word ∷ words)) ≡ whole → None ≡ whole
after_other places word words whole is so =
    ap (λ (found : Option ℕ). after places (option_and_then (λ (it : ℕ). option_map (λ (more : List ℕ). it ∷ more) (places_told words)) found)) is
    ∙ so

-- all are read
pub after_all : (places : List ℕ) (words : List Text) (whole : Option (List ℕ)) → words ≡ [] → after places (places_told words) ≡ whole → Some places ≡ whole
after_all places words whole none so =
    ap (λ (found : List ℕ). Some found) (sym (append-nil places)) ∙ ap (λ (left : List Text). after places (places_told left)) (sym none) ∙ so

-- what `explain` asks for by one place or more
pub explained_places : (path : Option Text) (checked : Bool) (places : List ℕ) → (places ≡ [] → ⊥) → Some (explain path checked places) ≡ explained_by path checked false (Some places)
explained_places path checked [] some = absurd (some refl)
explained_places path checked (place ∷ places) some = refl

-- and not by these and the flag
pub explained_both : (path : Option Text) (checked : Bool) (places : List ℕ) → (places ≡ [] → ⊥) → None ≡ explained_by path checked true (Some places)
explained_both path checked [] some = absurd (some refl)
explained_both path checked (place ∷ places) some = refl
