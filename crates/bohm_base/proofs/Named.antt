-- An outcome names tables of its statement alone.
use Rattle.std.proofs.Common.{◌≡◌, ℕ, zero, suc, ◌<◌, Bool, true, false, cond, List, [], ◌∷◌, length, get_or, Option, Some, None, ap, sym, ◌∙◌, subst}
use Rattle.std.specs.Prelude.{All, IfSome, slice_get}
use Rattle.std.specs.List.{find}
use Rattle.std.specs.Option.{option_map}
use Rattle.std.proofs.lemmas.List.Elements.{All-head, All-tail, All-weaker}
use Rattle.std.proofs.lemmas.Option.{slice_get-get_or}
use Rattle.model_base.specs.declared.deed.Deed.{Deed}
use Rattle.model_base.specs.declared.deed.Need.{Need}
use Rattle.model_base.specs.declared.outcome.Outcome.{Outcome}
use Rattle.model_base.specs.declared.statement.Form.{Form}
use Rattle.model_base.specs.declared.statement.Statement.{Statement}
use Rattle.model_base.specs.Body.{Ending, completed, aborted, undeclared}
use Rattle.model_base.specs.Outcomes.{World, at_place, ended, judged, missing, needs, outcome, owners, step_form, world_before}
use Rattle.sequencer.specs.Log.{Accepted}
use Rattle.sequencer.specs.Whole.{IsAccepted, IsWhole}
use Rattle.report.specs.Text.{IsNamed}

-- the needs are of no table but the first this many
abbrev pub AreWithin : ℕ → List Need → Type 0
AreWithin tables needed = All (λ (need : Need). need.table < tables) needed

-- the statement needs nothing of a table but the first this many
abbrev pub IsWithin : ℕ → Statement → Type 0
IsWithin tables statement = AreWithin tables (needs statement.form)

-- what holds of each element holds of the one that is found
found_if : {A : Type 0} (P : A → Type 0) (b : Bool) (x : A) (rest : Option A) → P x → IfSome rest P → IfSome (cond b (Some x) rest) P
found_if P true x rest here later = here
found_if P false x rest here later = later

found : {A : Type 0} (P : A → Type 0) (test : A → Bool) (xs : List A) → All P xs → IfSome (find test xs) P
found P test [] all = tt
found P test (x ∷ xs) all = found_if P (test x) x (find test xs) (All-head P x xs all) (found P test xs (All-tail P x xs all))

pub got : {A : Type 0} (P : A → Type 0) (xs : List A) (i : ℕ) → All P xs → IfSome (slice_get xs i) P
got P [] i all = tt
got P (x ∷ xs) zero all = All-head P x xs all
got P (x ∷ xs) (suc i) all = got P xs i (All-tail P x xs all)

module _ (tables : ℕ) (own : List ℕ) (place : ℕ) (world : World) where
  ended-named : (deeds : List Deed) (end : Ending) → IsNamed tables (ended own world deeds end)
  ended-named deeds (completed rows outputs) = tt
  ended-named deeds (aborted step reason) = tt
  ended-named deeds (undeclared step) = tt

  judged-named : (statement : Statement) (need : Option Need) → IfSome need (λ n. n.table < tables) → IsNamed tables (judged own place world statement need).0
  judged-named statement (Some need) low = low
  judged-named statement None low = ended-named _ _

  form-named : (statement : Statement) (form : Form) → AreWithin tables (needs form) → IsNamed tables (step_form own place world statement form).0
  form-named statement (Form.Create table columns) within = tt
  form-named statement form within =
      judged-named statement (missing own world statement.user form)
      (found (λ (need : Need). need.table < tables) _ (needs form) within)

  some-named : (statement : Option Statement) → IfSome statement (IsWithin tables)
      → IfSome (option_map (λ (s : Statement). (at_place own place world s).0) statement) (IsNamed tables)
  some-named None within = tt
  some-named (Some statement) within = form-named statement statement.form within

-- the outcome of each place of the log names a table of the log
pub outcome-named : (log : Accepted) (place : ℕ) (found_is : Outcome) → IsWhole log → outcome log.statements place ≡ Some found_is → IsNamed (length log.names.tables) found_is
outcome-named log place found_is whole is =
    let P : Option Outcome → Type 0 = λ o. IfSome o (IsNamed (length log.names.tables)) in
    let within : All (IsWithin (length log.names.tables)) log.statements =
    All-weaker (IsAccepted log.names) (IsWithin (length log.names.tables)) (λ statement taken. taken.needs) log.statements whole.taken in
    subst P is
    (some-named (length log.names.tables) (owners log.statements) place (world_before log.statements place) (slice_get log.statements place)
    (got (IsWithin (length log.names.tables)) log.statements place within))

-- the element that a look-up answered
pub looked_up : {A : Type 0} (xs : List A) (i : ℕ) (x : A) → i < length xs → ((d : A) → x ≡ get_or xs i d) → slice_get xs i ≡ Some x
looked_up xs i x low is = slice_get-get_or xs i x low ∙ ap Some (sym (is x))
