-- The outcome that own words tell.
use Rattle.std.proofs.Common.{◌≡◌, ◌<◌, ◌+◌, ◌^◌, ◌==◌, ℕ, Some, None, List, [], ◌∷◌, length, get_or, map, min, refl, sym, ap, ◌∙◌, arith}
use Rattle.std.specs.Prelude.{All, slice_get, slice_index}
use Rattle.std.proofs.lemmas.Bool.{eq-eqb, eqb-true}
use Rattle.model_base.specs.declared.deed.Deed.TheVariants.{Granting, Revoking}
use Rattle.model_base.specs.declared.deed.Grant.{Grant}
use Rattle.model_base.specs.declared.deed.Revocation.{Revocation}
use Rattle.model_base.specs.declared.outcome.DeedDone.{DeedDone}
use Rattle.model_base.specs.declared.outcome.Outcome.{Outcome}
use Rattle.model_base.specs.declared.statement.DeedForm.{DeedForm}
use Rattle.model_base.specs.declared.statement.Form.{Form}
use Rattle.model_base.specs.declared.statement.Statement.{Statement}
use Rattle.model_base.specs.Outcomes.{deeds_of, grants_at, kinds_in, outcome}
use Rattle.model_base.proofs.Replay.{by_cases}
use Rattle.body.specs.Premises.{IsRunnable}
use Rattle.body.specs.Shape.{FormFits}
use Rattle.body.specs.Steps.{steps_of}
use Rattle.own_words.specs.Places.{words_at}
use Rattle.own_words.specs.Words.{deeds_told, done_from, ended_in, numbers_from, outcome_from}
use Rattle.sequencer.specs.Whole.{IsAccepted, columns_by}
use Rattle.bohm_core_base.specs.Batch.{was_done}
use Rattle.bohm_core_base.specs.Serial.{serial_words}
use Rattle.log_batch.specs.Laws.{IsOfLog}
use Rattle.log_batch.specs.Supplied.{LogRange, batch_of, range_of}
use Rattle.log_batch.proofs.SerialRuns.{serial_words_are}
use Rattle.filling.specs.Outcomes.{IsEndedList, outcome_in}
use Rattle.filling.proofs.Endings.{comes, outcome-there}

-- nothing ended by grants
granted-any : (ended other : List ℕ) (grants : List Grant) → deeds_told ended (map Granting grants) ≡ deeds_told other (map Granting grants)
granted-any ended other [] = refl
granted-any ended other (grant ∷ grants) = refl

-- what a revocation ended counts only where the words say that it was done
done-any : (place user : ℕ) (form : Form) (words ended other : List ℕ) → ((revocation : Revocation) → deeds_of place user form ≡ Revoking revocation ∷ [] → ended ≡ other)
    → done_from form words ended ≡ done_from form words other
done-any place user (Form.Create table columns) words ended other same = refl
done-any place user (Form.Run accesses steps None) words ended other same = refl
done-any place user (Form.Run accesses steps (Some (DeedForm.Grant kinds table grantees option))) words ended other same =
    ap (Outcome.Done (numbers_from 4 (min (slice_index words 3) 8) words)) (granted-any ended other (grants_at 0 0 table option grantees (kinds_in kinds)))
done-any place user (Form.Run accesses steps (Some (DeedForm.Revoke kinds table grantees))) words ended other same =
    ap (λ list. Outcome.Done (numbers_from 4 (min (slice_index words 3) 8) words) (DeedDone.Revoked list)) (same _ refl)
done-any place user (Form.Deed (DeedForm.Grant kinds table grantees option)) words ended other same =
    ap (Outcome.Done (numbers_from 4 (min (slice_index words 3) 8) words)) (granted-any ended other (grants_at 0 0 table option grantees (kinds_in kinds)))
done-any place user (Form.Deed (DeedForm.Revoke kinds table grantees)) words ended other same =
    ap (λ list. Outcome.Done (numbers_from 4 (min (slice_index words 3) 8) words) (DeedDone.Revoked list)) (same _ refl)

told-any : (place user : ℕ) (form : Form) (words ended other : List ℕ)
    → (slice_index words 0 ≡ 1 → (revocation : Revocation) → deeds_of place user form ≡ Revoking revocation ∷ [] → ended ≡ other)
    → outcome_from form words ended ≡ outcome_from form words other
told-any place user form words ended other same =
    by_cases (slice_index words 0 == 1)
    (λ one. rw one (done-any place user form words ended other (same (eqb-true (slice_index words 0) 1 one))))
    (λ otherwise. rw otherwise refl)

-- the words of a place tell its outcome in the log
pub told-outcome : (ranged : LogRange) (is : IsOfLog (range_of ranged)) (index : ℕ) (within : index < ranged.size) (statement : Statement)
    (at : slice_get ranged.log.statements (ranged.first + index) ≡ Some statement) → IsAccepted ranged.log.names statement → ranged.first + index < 2 ^ 64
    → ((columns : ℕ → ℕ) (log : List Statement) (place : ℕ) (statement : Statement) (found : Outcome)
    → slice_get log place ≡ Some statement → outcome log place ≡ Some found → All (λ (one : Statement). FormFits columns one.form) log → IsRunnable statement
    → length (steps_of statement.form) < 2 ^ 64 → place < 2 ^ 64 → outcome_from statement.form (words_at columns log place) (ended_in found) ≡ found)
    → (own ended : List ℕ) → own ≡ serial_words (batch_of ranged) index → IsEndedList ranged index ended
    → outcome_in ranged index ≡ Some (outcome_from statement.form own ended)
unfolding was_done
told-outcome ranged is index within statement at taken small law own ended same right =
    let place = ranged.first + index in
    let log = ranged.log.statements in
    let found : Outcome = comes ranged is index within statement at in
    let there : outcome_in ranged index ≡ Some found = outcome-there ranged is index within statement at in
    let few = taken.steps in
    let words : own ≡ words_at (columns_by ranged.log.names) log place = same ∙ serial_words_are (range_of ranged) is index statement at in
    let told = law (columns_by ranged.log.names) log place statement found at there is.fits taken.runnable (omega arith) small in
    let any = told-any place statement.user statement.form own ended (ended_in found)
    (λ one revocation deed.
    right found there (eq-eqb (get_or (serial_words (batch_of ranged) index) 0 0) 1 (ap (λ (list : List ℕ). get_or list 0 0) (sym same) ∙ one)) (revocation, rw at deed)) in
    there ∙ ap Some (sym (any ∙ ap (λ (list : List ℕ). outcome_from statement.form list (ended_in found)) words ∙ told))
