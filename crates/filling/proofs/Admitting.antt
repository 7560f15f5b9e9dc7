-- What own words tell of a body.
use Rattle.std.proofs.Common.{◌≡◌, ◌<◌, ◌+◌, ◌==◌, ◌-◌, ◌^◌, ℕ, min, Bool, true, false, Option, Some, List, [], refl, sym, ap, ◌∙◌, add-one}
use Rattle.std.specs.Prelude.{◌&&◌, not, slice_get, if◌then◌else◌}
use Rattle.std.specs.Option.{option_map_or}
use Rattle.model_base.specs.declared.outcome.Outcome.{Outcome}
use Rattle.model_base.specs.declared.statement.Statement.{Statement}
use Rattle.model_base.specs.Outcomes.{at_place, owners, world_before}
use Rattle.own_words.specs.Places.{own_words}
use Rattle.own_words.specs.Words.{outcome_word}
use Rattle.bohm_core_base.specs.Serial.{serial_words}
use Rattle.log_batch.specs.Laws.{IsOfLog}
use Rattle.log_batch.specs.Supplied.{LogRange, batch_of, range_of}
use Rattle.log_batch.proofs.SerialRuns.{serial_words_are}
use Rattle.words.specs.Passes.{PassState, counted}
use Rattle.filling_base.specs.Counting.{counted_more}
use Rattle.filling.specs.Bodies.{has_body, is_denied, runs_at, runs_for, says_denied}
use Rattle.filling.proofs.Endings.{comes}

-- the word of a denial is that of no other outcome
denied-word : (found : Outcome) → (outcome_word found == 3) ≡ is_denied found
denied-word (Outcome.Done outputs deed) = refl
denied-word Outcome.Created = refl
denied-word (Outcome.Denied need cause) = refl
denied-word (Outcome.Aborted step reason) = refl
denied-word (Outcome.Undeclared step) = refl

module _ (ranged : LogRange) (is : IsOfLog (range_of ranged)) (index : ℕ) (within : index < ranged.size) (statement : Statement)
    (at : slice_get ranged.log.statements (ranged.first + index) ≡ Some statement) where
  -- the words of the serial run tell whether the place is denied
  denied-told : says_denied (serial_words (batch_of ranged) index) ≡ is_denied (comes ranged is index within statement at)
  denied-told =
      let log = ranged.log.statements in
      let place = ranged.first + index in
      let words : Option Statement → List ℕ =
      λ one. option_map_or (λ (s : Statement). own_words (range_of ranged).columns s.form (at_place (owners log) place (world_before log place) s)) one [] in
      ap says_denied (serial_words_are (range_of ranged) is index statement at) ∙ ap (λ (one : Option Statement). says_denied (words one)) at
      ∙ denied-word (comes ranged is index within statement at)

  -- and so how many bodies are run for it
  pub runs-told : (own : List ℕ) → own ≡ serial_words (batch_of ranged) index
      → runs_at ranged index ≡ (if has_body statement.form && not (says_denied own) then 1 else 0)
  runs-told own same =
      let log = ranged.log.statements in
      let place = ranged.first + index in
      let runs : Option Statement → ℕ =
      λ one. option_map_or (λ (s : Statement). runs_for s.form (at_place (owners log) place (world_before log place) s).0) one 0 in
      ap runs at ∙ ap (λ (denied : Bool). if has_body statement.form && not denied then 1 else 0) (sym (ap says_denied same ∙ denied-told))

-- one more is counted where a body is run, and else none
pub counted-run : (p q : PassState) (n : ℕ) (runs : Bool) → n ≡ (if runs then 1 else 0) → runs ≡ true → q ≡ counted p → q.bodies ≡ counted_more p.bodies n
counted-run p q n runs is run done =
    let one : n ≡ 1 = is ∙ ap (λ (b : Bool). if b then 1 else 0) run in
    ap (λ (x : PassState). x.bodies) done ∙ ap (λ (m : ℕ). min m (2 ^ 64 - 1)) (sym (add-one p.bodies)) ∙ ap (counted_more p.bodies) (sym one)

pub counted-none : (p q : PassState) (n : ℕ) (runs : Bool) → n ≡ (if runs then 1 else 0) → runs ≡ false → q.bodies ≡ p.bodies → q.bodies ≡ counted_more p.bodies n
counted-none p q n runs is run done =
    let none : n ≡ 0 = is ∙ ap (λ (b : Bool). if b then 1 else 0) run in
    done ∙ ap (counted_more p.bodies) (sym none)
