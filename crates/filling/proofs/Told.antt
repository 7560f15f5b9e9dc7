-- The own words of a place of a log tell its outcome.
use Rattle.std.proofs.Common.{◌≡◌, ◌<◌, ◌++◌, ◌^◌, ℕ, zero, suc, List, [], ◌∷◌, Option, Some, get_or, length, ap, sym, ◌∙◌, subst, arith}
use Rattle.std.specs.Prelude.{All, slice_get}
use Rattle.std.specs.Option.{option_map, option_map_or}
use Rattle.std.proofs.lemmas.Option.{slice_get-get_or}
use Rattle.std.proofs.lemmas.List.Elements.{All-head, All-tail, All-weaker}
use Rattle.model_base.specs.declared.outcome.Outcome.{Outcome}
use Rattle.model_base.specs.declared.statement.Statement.{Statement}
use Rattle.model_base.specs.Outcomes.{World, at_place, outcome, owners, world_before}
use Rattle.body.specs.Shape.{FormFits}
use Rattle.body.specs.Steps.{steps_of}
use Rattle.own_words.specs.Places.{cells, own_words, words_at}
use Rattle.own_words.specs.Words.{FitsForm, ended_in, header, outcome_from}
use Rattle.evaluation.proofs.Fitting.{outcome_fits, words_tell}
use Rattle.sequencer.specs.Log.{Accepted}
use Rattle.sequencer.specs.Whole.{IsAccepted, IsWhole, columns_by}

pub got : {A : Type 0} (P : A → Type 0) (xs : List A) (i : ℕ) (x : A) → All P xs → slice_get xs i ≡ Some x → P x
got P [] i x all at = absurd (cc)
got P (y ∷ xs) zero x all at = let same : y ≡ x = cc in subst P same (All-head P y xs all)
got P (y ∷ xs) (suc i) x all at = got P xs i x (All-tail P y xs all) at

module _ (log : Accepted) (whole : IsWhole log) (place : ℕ) (statement : Statement) (at : slice_get log.statements place ≡ Some statement) where
  abbrev pub found : Outcome
  found = (at_place (owners log.statements) place (world_before log.statements place) statement).0

  abbrev pub left : World
  left = (at_place (owners log.statements) place (world_before log.statements place) statement).1

  pub comes : outcome log.statements place ≡ Some found
  comes = ap (option_map (λ s. (at_place (owners log.statements) place (world_before log.statements place) s).0)) at

  pub words-are : words_at (columns_by log.names) log.statements place ≡ header statement.form found ++ cells (columns_by log.names) statement.form left.rows
  words-are = ap (λ (s : Option Statement). option_map_or (λ one. own_words (columns_by log.names) one.form (at_place (owners log.statements) place (world_before log.statements place) one)) s []) at

  pub all-fit : All (λ (other : Statement). FormFits (columns_by log.names) other.form) log.statements
  all-fit = All-weaker (IsAccepted log.names) (λ (other : Statement). FormFits (columns_by log.names) other.form) (λ other taken. taken.fits) log.statements whole.taken

  pub taken : IsAccepted log.names statement
  taken = got (IsAccepted log.names) log.statements place statement whole.taken at

  pub short : length (steps_of statement.form) < 2 ^ 64
  short = omega (arith, taken.steps)

  pub fits : place < 2 ^ 64 → FitsForm statement.form found
  fits low = outcome_fits (columns_by log.names) log.statements place statement found at comes all-fit taken.runnable short low

-- so the words tell the outcome
pub outcome_told : (log : Accepted) (place : ℕ) (statement : Statement) (own ended : List ℕ) → IsWhole log → slice_get log.statements place ≡ Some statement
    → place < 2 ^ 64 → own ≡ words_at (columns_by log.names) log.statements place
    → ((one : Outcome) → outcome log.statements place ≡ Some one → ended ≡ ended_in one)
    → outcome log.statements place ≡ Some (outcome_from statement.form own ended)
outcome_told log place statement own ended whole at low words ends =
    let is = found log whole place statement at in
    let here = comes log whole place statement at in
    let columns = columns_by log.names in
    here
    ∙ ap Some (sym
    (ap (λ ws. outcome_from statement.form ws ended) words
    ∙ ap (outcome_from statement.form (words_at columns log.statements place)) (ends is here)
    ∙ words_tell columns log.statements place statement is at here (all-fit log whole place statement at) (taken log whole place statement at).runnable
    (short log whole place statement at) low))

-- what is looked up in the statements of a log is there
pub looked : (statements all : List Statement) (place : ℕ) (statement : Statement) → statements ≡ all → place < length all
    → statement ≡ get_or statements place statement → slice_get all place ≡ Some statement
looked statements all place statement same low is =
    slice_get-get_or all place statement low ∙ ap Some (sym (is ∙ ap (λ (xs : List Statement). get_or xs place statement) same))
