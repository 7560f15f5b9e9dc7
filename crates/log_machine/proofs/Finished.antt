-- What holds of a place of a log's batch that is done, in a state that some events reach.
use Rattle.std.proofs.Common.{◌≡◌, ◌≢◌, ◌<◌, ◌≤◌, ◌+◌, ◌^◌, ◌++◌, ◌∷◌, ℕ, zero, suc, Bool, true, List, [], Option, Some, None, add-one, append_assoc, drop, get_or, length, refl, sym, ap, ◌∙◌, subst, arith}
use Rattle.std.specs.Prelude.{Err, Ok, OnErr, Result, slice_get, if◌then◌else◌}
use Rattle.std.specs.Option.{option_map}
use Rattle.std.proofs.lemmas.Option.{slice_get-get_or}
use Rattle.model_base.specs.declared.deed.Grant.{Grant}
use Rattle.model_base.specs.declared.outcome.Outcome.{Outcome}
use Rattle.model_base.specs.declared.statement.Statement.{Statement}
use Rattle.model_base.specs.Ranks.{rank}
use Rattle.model_base.specs.Outcomes.{at_place, outcome, owners, world_before}
use Rattle.model_base.proofs.Replay.{by_cases}
use Rattle.body.specs.Steps.{steps_of}
use Rattle.own_words.specs.Places.{words_at}
use Rattle.own_words.specs.Words.{ended_in, outcome_from}
use Rattle.evaluation.proofs.Fitting.{words_tell}
use Rattle.sequencer.specs.Whole.{IsAccepted, columns_by}
use Rattle.bohm_core_base.specs.declared.hold.Hold.{Hold}
use Rattle.bohm_core_base.specs.declared.hold.Hold.TheVariants.{Done, Free}
use Rattle.bohm_core_base.specs.Batch.{batch_slots}
use Rattle.bohm_core_base.specs.Machine.{State, hold_of, own_of, reach}
use Rattle.bohm_core_base.specs.Serial.{is_end}
use Rattle.bohm_core_base.proofs.Reach.{done-right, has-references}
use Rattle.bohm_core.specs.Running.{IsReached}
use Rattle.log_batch.specs.Laws.{IsOfLog, ended_ranks}
use Rattle.log_batch.proofs.LogsEnded.{ended_tells}
use Rattle.log_batch.proofs.LogsRight.{done_tells}
use Rattle.log_batch.specs.Supplied.{LogRange, batch_of, range_of}

-- a place below the length is there
some-there : {A : Type 0} (xs : List A) (index : ℕ) → index < length xs → slice_get xs index ≢ None
some-there [] index low = absurd (omega arith)
some-there (x ∷ xs) zero low = λ gone. cc
some-there (x ∷ xs) (suc index) low = some-there xs index (omega arith)

-- a place that is done isn't free
done-busy : (hold : Hold) → hold ≡ Done → hold ≢ Free
done-busy hold is = λ free. let both : Done ≡ Free = sym is ∙ free in cc

module _ (ranged : LogRange) (is : IsOfLog (range_of ranged)) (within : ranged.first + ranged.size ≤ length ranged.log.statements) (state : State) (reached : IsReached (batch_of ranged) state) where
  -- it is in the batch
  pub done-within : (index : ℕ) → hold_of state index ≡ Done → index < ranged.size
  done-within index done =
      let there : hold_of (reach (batch_of ranged) reached.events) index ≡ Done = subst (λ s. hold_of s index ≡ Done) reached.reached done in
      (has-references (batch_of ranged) reached.sound reached.events index (done-busy _ there)).within

  -- the ranks of slots whose records ended at it are those that its revocation ended
  pub ends-done : (index : ℕ) (found : Outcome) → hold_of state index ≡ Done → outcome ranged.log.statements (ranged.first + index) ≡ Some found
      → ended_ranks (batch_slots (batch_of ranged)) state.ends (ranged.first + index) ≡ ended_in found
  ends-done index found done comes =
      let there : hold_of (reach (batch_of ranged) reached.events) index ≡ Done = subst (λ s. hold_of s index ≡ Done) reached.reached done in
      ap (λ (s : State). ended_ranks (batch_slots (batch_of ranged)) s.ends (ranged.first + index)) reached.reached
      ∙ ended_tells (range_of ranged) is reached.events index there found comes

  -- its own words are those of its place in the log
  pub words-done : (index : ℕ) → hold_of state index ≡ Done
      → own_of state index ≡ words_at (columns_by ranged.log.names) ranged.log.statements (ranged.first + index)
  words-done index done =
      let batch = batch_of ranged in
      let there : hold_of (reach batch reached.events) index ≡ Done = subst (λ s. hold_of s index ≡ Done) reached.reached done in
      let placed = has-references batch reached.sound reached.events index (done-busy _ there) in
      let size = placed.within in
      let low : ranged.first + index < length ranged.log.statements = omega arith in
      ap (λ s. own_of s index) reached.reached ∙ by_statement (slice_get ranged.log.statements (ranged.first + index)) refl low there
    where
      by_statement : (found : Option Statement) → slice_get ranged.log.statements (ranged.first + index) ≡ found → ranged.first + index < length ranged.log.statements
          → hold_of (reach (batch_of ranged) reached.events) index ≡ Done
          → own_of (reach (batch_of ranged) reached.events) index ≡ words_at (columns_by ranged.log.names) ranged.log.statements (ranged.first + index)
      by_statement None at low there = absurd (some-there ranged.log.statements (ranged.first + index) low at)
      by_statement (Some statement) at low there =
          done_tells (range_of ranged) is reached.events index statement
          (done-right (batch_of ranged) reached.sound reached.events index there) at

  -- it has an outcome
  outcome-there : (index : ℕ) → hold_of state index ≡ Done → (found : Outcome) × (outcome ranged.log.statements (ranged.first + index) ≡ Some found)
  outcome-there index done =
      let inside = done-within index done in
      by_statement (slice_get ranged.log.statements (ranged.first + index)) refl (omega arith)
    where
      by_statement : (one : Option Statement) → slice_get ranged.log.statements (ranged.first + index) ≡ one → ranged.first + index < length ranged.log.statements
          → (found : Outcome) × (outcome ranged.log.statements (ranged.first + index) ≡ Some found)
      by_statement None at low = absurd (some-there ranged.log.statements (ranged.first + index) low at)
      by_statement (Some statement) at low = (
        _,
        ap (option_map (λ (one : Statement). (at_place (owners ranged.log.statements) (ranged.first + index) (world_before ranged.log.statements (ranged.first + index)) one).0)) at,
      )

  -- where some slot's record ended at it, its revocation ended some
  pub ended-done : (index : ℕ) → hold_of state index ≡ Done → ended_ranks (batch_slots (batch_of ranged)) state.ends (ranged.first + index) ≢ []
      → (found : Outcome) × (outcome ranged.log.statements (ranged.first + index) ≡ Some found) × (ended_in found ≢ [])
  ended-done index done some =
      let there = outcome-there index done in
      (there.0, there.1, λ none. some (ends-done index there.0 done there.1 ∙ none))

  -- and its own words, with the ranks of the records that its revocation ended, tell its outcome
  pub outcome-done : (index : ℕ) (statement : Statement) (ended : List ℕ) → hold_of state index ≡ Done
      → slice_get ranged.log.statements (ranged.first + index) ≡ Some statement → IsAccepted ranged.log.names statement → ranged.first + ranged.size ≤ 4294967295
      → ((found : Outcome) → outcome ranged.log.statements (ranged.first + index) ≡ Some found → ended ≡ ended_in found)
      → outcome ranged.log.statements (ranged.first + index) ≡ Some (outcome_from statement.form (own_of state index) ended)
  outcome-done index statement ended done at taken few ends =
      let there = outcome-there index done in
      let inside = done-within index done in
      let short : length (steps_of statement.form) < 2 ^ 64 = omega (arith, taken.steps) in
      let low : ranged.first + index < 2 ^ 64 = omega arith in
      let words = words_at (columns_by ranged.log.names) ranged.log.statements (ranged.first + index) in
      let told : outcome_from statement.form (own_of state index) ended ≡ there.0 =
      ap (λ own. outcome_from statement.form own ended) (words-done index done) ∙ ap (outcome_from statement.form words) (ends there.0 there.1)
      ∙ words_tell (columns_by ranged.log.names) ranged.log.statements (ranged.first + index) statement there.0 at there.1 is.fits taken.runnable short low in
      there.1 ∙ ap Some (sym told)

-- the ranks that slots tell, one slot more
pub ended_step : (grants : List Grant) (ends : List (Option ℕ)) (place slot : ℕ) (other : Grant) (past : Option ℕ) → slot < length grants → slot < length ends
    → ended_ranks (drop slot grants) (drop slot ends) place
    ≡ (if is_end place (get_or ends slot past) then rank (get_or grants slot other) ∷ [] else []) ++ ended_ranks (drop (suc slot) grants) (drop (suc slot) ends) place
ended_step [] ends place slot other past a b = absurd (omega arith)
ended_step (grant ∷ grants) [] place slot other past a b = absurd (omega arith)
ended_step (grant ∷ grants) (end ∷ ends) place zero other past a b =
    by_cases (is_end place end) (λ here. rw here refl) (λ away. rw away refl)
ended_step (grant ∷ grants) (end ∷ ends) place (suc slot) other past a b = ended_step grants ends place slot other past (omega arith) (omega arith)

-- past the last slot there is none
pub ended_past : (grants : List Grant) (ends : List (Option ℕ)) (place slot : ℕ) → (slot < length grants → length ends ≤ slot)
    → ended_ranks (drop slot grants) (drop slot ends) place ≡ []
ended_past [] ends place zero past = refl
ended_past [] ends place (suc slot) past = refl
ended_past (grant ∷ grants) [] place zero past = refl
ended_past (grant ∷ grants) [] place (suc slot) past = by_drop (drop slot grants)
  where
    by_drop : (rest : List Grant) → ended_ranks rest [] place ≡ []
    by_drop [] = refl
    by_drop (one ∷ rest) = refl
ended_past (grant ∷ grants) (end ∷ ends) place zero past = absurd (let low = past (omega arith) in omega arith)
ended_past (grant ∷ grants) (end ∷ ends) place (suc slot) past = ended_past grants ends place slot (λ low. let more = past (omega arith) in omega arith)

-- one slot more, after those that ended at the place
pub ended_more : (grants : List Grant) (ends : List (Option ℕ)) (place slot : ℕ) (ranks : List ℕ) (grant : Grant) (ended : Bool) → slot < length grants → slot < length ends
    → slice_get grants slot ≡ Some grant → ended ≡ is_end place (get_or ends slot None)
    → (ranks ++ (if ended then rank grant ∷ [] else [])) ++ ended_ranks (drop (slot + 1) grants) (drop (slot + 1) ends) place
    ≡ ranks ++ ended_ranks (drop slot grants) (drop slot ends) place
ended_more grants ends place slot ranks grant ended a b at is =
    let found : Some (get_or grants slot grant) ≡ Some grant = sym (slice_get-get_or grants slot grant a) ∙ at in
    let same : get_or grants slot grant ≡ grant = cc in
    rw add-one
    (append_assoc ranks (if ended then rank grant ∷ [] else []) _
    ∙ ap (λ rest. ranks ++ rest)
    (ap (λ hit. (if hit then rank grant ∷ [] else []) ++ ended_ranks (drop (suc slot) grants) (drop (suc slot) ends) place) is
    ∙ ap (λ (one : Grant). (if is_end place (get_or ends slot None) then rank one ∷ [] else []) ++ ended_ranks (drop (suc slot) grants) (drop (suc slot) ends) place) (sym same)
    ∙ sym (ended_step grants ends place slot grant None a b)))

-- a slot that ended at the place is one of them
nonempty : (front : List ℕ) (ranked : ℕ) (rest : List ℕ) → front ++ ranked ∷ rest ≢ []
nonempty [] ranked rest = λ gone. cc
nonempty (first ∷ front) ranked rest = λ gone. cc

pub ended_some : (grants : List Grant) (ends : List (Option ℕ)) (place slot : ℕ) (ranks : List ℕ) (grant : Grant) → slot < length grants → slot < length ends
    → is_end place (get_or ends slot None) ≡ true → ranks ++ ended_ranks (drop slot grants) (drop slot ends) place ≢ []
ended_some grants ends place slot ranks grant a b is =
    let rest : List ℕ = ended_ranks (drop (suc slot) grants) (drop (suc slot) ends) place in
    let own : ℕ = rank (get_or grants slot grant) in
    let more : ended_ranks (drop slot grants) (drop slot ends) place ≡ own ∷ rest =
    ended_step grants ends place slot grant None a b ∙ ap (λ hit. (if hit then own ∷ [] else []) ++ rest) is in
    λ gone. nonempty ranks own rest (ap (λ later. ranks ++ later) (sym more) ∙ gone)

-- what holds anyway holds of an error
pub on_err : {T E P : Type 0} (result : Result T E) → P → OnErr result P
on_err (Ok value) holds = tt
on_err (Err error) holds = holds
