-- What is after accesses, and after a step: nothing, or a bar and more.
use Rattle.std.proofs.Common.{◌≡◌, ℕ, true, false, List, [], ◌∷◌, ◌++◌, Option, Some, None, refl, ap, sym, ◌∙◌, append_assoc}
use Rattle.std.specs.Prelude.{codes}
use Rattle.std.specs.List.{flat_map}
use Rattle.line_words.specs.Words.{first_word}
use Rattle.log_text.specs.Fault.{is_deed}
use Rattle.log_text.specs.Statement.{body_words, deed_words, further_step, last_deed, step_words}
use Rattle.log_text.specs.declared.statement.RawDeed.{RawDeed}
use Rattle.log_text.specs.declared.statement.RawDeed.TheVariants.{Grant, Revoke}
use Rattle.log_text.specs.declared.statement.RawStep.{RawStep}
use Rattle.log_text.specs.declared.statement.RawStep.TheVariants.{Const, Compute, Has, Load, Store, Insert, Delete, Check, Skip, Out}
use Rattle.log_text.proofs.OperationWords.{begins_no_deed}

-- no word, or a bar first
abbrev pub IsTail : List (List ℕ) → Type 0
IsTail [] = Unit {0}
IsTail (w ∷ ws) = w ≡ codes "|"

-- further steps and a deed are a tail
pub body_is_tail : (steps : List RawStep) (deed : Option RawDeed) → IsTail (body_words steps deed)
body_is_tail [] None = tt
body_is_tail [] (Some deed) = refl
body_is_tail (step ∷ steps) deed = refl

-- the first step, and the others with the deed
pub body_more : (step : RawStep) (steps : List RawStep) (deed : Option RawDeed) → body_words (step ∷ steps) deed ≡ codes "|" ∷ (step_words step ++ body_words steps deed)
body_more step steps deed = append_assoc (further_step step) (flat_map further_step steps) (last_deed deed)

-- a word that is no bar doesn't begin a tail
pub no_tail : (tail : List (List ℕ)) (w : List ℕ) (ws : List (List ℕ)) → IsTail tail → (w ≡ codes "|" → ⊥) → tail ≡ w ∷ ws → ⊥
no_tail [] w ws is ne e = cc
no_tail (v ∷ vs) w ws is ne e = let f : v ≡ w = cc in ne (sym f ∙ is)

-- the word of a step begins no deed
pub step_begins : (step : RawStep) (ws : List (List ℕ)) → is_deed (first_word (step_words step ++ ws)) ≡ false
step_begins (Const to value) ws = refl
step_begins (Compute operation to left right) ws = begins_no_deed operation
step_begins (Has to table row) ws = refl
step_begins (Load to table row column) ws = refl
step_begins (Store table row column from) ws = refl
step_begins (Insert table row from) ws = refl
step_begins (Delete table row) ws = refl
step_begins (Check of) ws = refl
step_begins (Skip of steps) ws = refl
step_begins (Out of) ws = refl

pub deed_begins : (deed : RawDeed) → is_deed (first_word (deed_words deed)) ≡ true
deed_begins (Grant kind table grantee option) = refl
deed_begins (Revoke kind table grantee) = refl

-- so the words of a deed are not those of a step
pub no_step : (deed : RawDeed) (step : RawStep) (ws : List (List ℕ)) → deed_words deed ≡ step_words step ++ ws → ⊥
no_step deed step ws e = let f : true ≡ false = sym (deed_begins deed) ∙ ap (λ v. is_deed (first_word v)) e ∙ step_begins step ws in cc
