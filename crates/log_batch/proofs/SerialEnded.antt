-- What a revocation of a log ended is given by the ends of the serial run.
use Rattle.std.proofs.Common.{◌≡◌, ◌==◌, ◌<◌, ◌+◌, ℕ, suc, Bool, true, false, Option, Some, None, List, [], ◌∷◌, filter, get_or, length, map, refl, sym, ap, ◌∙◌, subst, arith, zero-add}
use Rattle.std.specs.Prelude.{slice_get}
use Rattle.std.specs.Option.{option_map, option_map_or}
use Rattle.std.proofs.lemmas.Bool.{true≢false}
use Rattle.std.proofs.lemmas.List.{get_or-map}
use Rattle.model_base.specs.declared.deed.Deed.{Deed}
use Rattle.model_base.specs.declared.deed.Deed.TheVariants.{Granting, Revoking}
use Rattle.model_base.specs.declared.deed.Grant.{Grant}
use Rattle.model_base.specs.declared.deed.Revocation.{Revocation}
use Rattle.model_base.specs.declared.outcome.Outcome.{Outcome}
use Rattle.model_base.specs.declared.statement.Statement.{Statement}
use Rattle.model_base.specs.Outcomes.{at_place, deeds_of, outcome, owners, world_before}
use Rattle.model_base.specs.Ranks.{rank}
use Rattle.model_base.specs.DeedsLeft.{revocation_of}
use Rattle.model_base.specs.Laws.{AreGrantsOrRevocation}
use Rattle.model_base.specs.Privileges.{ended_by}
use Rattle.model_base.proofs.Made.{deeds_of-one}
use Rattle.model_base.proofs.Ends.{is_ended}
use Rattle.model_base.proofs.Replay.{by_cases}
use Rattle.own_words.specs.Places.{own_words}
use Rattle.own_words.specs.Words.{ended_in, outcome_word}
use Rattle.bohm_core_base.specs.Batch.{Batch, IsSoundBatch, rank_at, batch_slots, was_done}
use Rattle.bohm_core_base.specs.Serial.{serial_ends, serial_words, batch_world_before}
use Rattle.bohm_core_base.proofs.Whole.{IsEnder, no_grant, serial-at, serial-only}
use Rattle.log_batch.specs.Laws.{IsOfLog, ranks_that}
use Rattle.log_batch.specs.LogBatch.{StatementRange, batch_of_statements}
use Rattle.log_batch.proofs.LogsEnded.{ended-form, ended_of, revoked-alone}
use Rattle.log_batch.proofs.SerialRuns.{serial_runs_agree, serial_words_are}
use Rattle.log_batch.proofs.SlotsEnded.{same_test, slots-lost}
use Rattle.log_batch.proofs.Sound.{batches_are_sound}

-- where a test of slots says of each what another says of its grant, the ranks that are found are those of the grants that pass
that-filter : (by : ℕ → Bool) (test : Grant → Bool) (slot : ℕ) (grants : List Grant)
    → ((k : ℕ) → k < length grants → by (slot + k) ≡ test (get_or grants k no_grant))
    → ranks_that by slot grants ≡ map rank (filter test grants)
that-filter by test slot [] told = refl
that-filter by test slot (grant ∷ grants) told =
    let first : slot ≡ slot + 0 = omega arith in
    let here : by slot ≡ test grant = ap by first ∙ told 0 (omega arith) in
    let rest =
    that-filter by test (suc slot) grants
    (λ k less. let next : suc slot + k ≡ slot + suc k = omega arith in ap by next ∙ told (suc k) (omega arith)) in
    by_cases (test grant)
    (λ passes. rw (here, passes) (ap (λ ranks. rank grant ∷ ranks) rest))
    (λ fails. rw (here, fails) rest)

-- where no slot passes, there is none
that-none : (by : ℕ → Bool) (slot : ℕ) (grants : List Grant) → ((k : ℕ) → k < length grants → by (slot + k) ≡ false)
    → ranks_that by slot grants ≡ []
that-none by slot [] none = refl
that-none by slot (grant ∷ grants) none =
    let first : slot ≡ slot + 0 = omega arith in
    let here : by slot ≡ false = ap by first ∙ none 0 (omega arith) in
    rw here
    (that-none by (suc slot) grants
    (λ k less. let next : suc slot + k ≡ slot + suc k = omega arith in ap by next ∙ none (suc k) (omega arith)))

module _ (b : Batch) (sound : IsSoundBatch b) (n : ℕ) where
  -- where the serial run ends none at the place, none is given
  none-ended : ((k : ℕ) → IsEnder b sound n k → ⊥) → ranks_that (serial_ends b n) 0 (batch_slots b) ≡ []
  none-ended none =
      that-none (serial_ends b n) 0 (batch_slots b)
      (λ k slot. ap (serial_ends b n) (zero-add k) ∙ by_cases (serial_ends b n k)
      (λ ends. absurd (none k (serial-only b sound n k slot ends)))
      (λ stays. stays))

  -- at a place that makes its revocation those end that the revocation takes out of force
  revoked-ended : (revocation : Revocation) → n < b.size → was_done (serial_words b n) ≡ true → b.deeds n ≡ Revoking revocation ∷ []
      → ranks_that (serial_ends b n) 0 (batch_slots b) ≡ ended_by b.owners (batch_world_before b n).deeds revocation
  revoked-ended revocation within made is =
      that-filter (serial_ends b n) (λ grant. is_ended b.owners (batch_world_before b n).deeds (Revoking revocation) (rank grant)) 0 (batch_slots b) each
      ∙ slots-lost b sound n revocation (omega arith)
    where
      each : (k : ℕ) → k < length (batch_slots b)
          → serial_ends b n (0 + k) ≡ is_ended b.owners (batch_world_before b n).deeds (Revoking revocation) (rank (get_or (batch_slots b) k no_grant))
      each k slot =
          let deeds = (batch_world_before b n).deeds in
          let at : rank_at b k ≡ rank (get_or (batch_slots b) k no_grant) = get_or-map rank (batch_slots b) k no_grant 0 slot in
          ap (serial_ends b n) (zero-add k)
          ∙ same_test (serial_ends b n k) (is_ended b.owners deeds (Revoking revocation) (rank (get_or (batch_slots b) k no_grant)))
          (λ ends.
          let ender = serial-only b sound n k slot ends in
          let same : ender.revocation ≡ revocation = revoking-same ender.revocation (sym ender.deed ∙ is) in
          subst (λ p. is_ended b.owners deeds (Revoking revocation) p ≡ true) at
          (subst (λ (r : Revocation). is_ended b.owners deeds (Revoking r) (rank_at b k) ≡ true) same ender.ended))
          (λ ended.
          serial-at b sound n k revocation within made is
          (subst (λ p. is_ended b.owners deeds (Revoking revocation) p ≡ true) (sym at) ended))
        where
          revoking-same : (other : Revocation) → Revoking other ∷ [] ≡ Revoking revocation ∷ [] → other ≡ revocation
          revoking-same other same = let found : Some other ≡ Some revocation = ap revocation_of same in cc

module _ (range : StatementRange) (is : IsOfLog range) (index : ℕ) (within : index < range.size) where
  abbrev place : ℕ
  place = range.first + index

  abbrev seen : List ℕ
  seen = ranks_that (serial_ends (batch_of_statements range) index) 0 (batch_slots (batch_of_statements range))

  module _ (statement : Statement) (at : slice_get range.log place ≡ Some statement) where
    abbrev found : Outcome
    found = (at_place (owners range.log) place (world_before range.log place) statement).0

    abbrev made : List Deed
    made = deeds_of place statement.user statement.form

    -- the serial run says that the place is done if its outcome does
    done-told : was_done (serial_words (batch_of_statements range) index) ≡ (outcome_word found == 1)
    unfolding was_done
    done-told =
        let words : Option Statement → List ℕ =
        λ one. option_map_or (λ (s : Statement). own_words range.columns s.form (at_place (owners range.log) place (world_before range.log place) s)) one [] in
        ap was_done (serial_words_are range is index statement at) ∙ ap (λ (one : Option Statement). was_done (words one)) at

    -- its deeds are the statement's
    deeds-told : (batch_of_statements range).deeds index ≡ made
    deeds-told = ap (λ (one : Option Statement). option_map_or (λ (s : Statement). deeds_of place s.user s.form) one []) at

    -- the ends are those of its deeds
    by_deeds : (deeds : List Deed) → made ≡ deeds → (outcome_word found == 1) ≡ true
        → seen ≡ ended_of (owners range.log) (world_before range.log place).deeds deeds
    by_deeds [] same counts =
        none-ended (batch_of_statements range) (batches_are_sound range is) index
        (λ k ender. let no : None ≡ Some ender.revocation = ap revocation_of (sym (deeds-told ∙ same) ∙ ender.deed) in absurd (cc))
    by_deeds (Granting grant ∷ later) same counts =
        none-ended (batch_of_statements range) (batches_are_sound range is) index
        (λ k ender. let no : None ≡ Some ender.revocation = ap revocation_of (sym (deeds-told ∙ same) ∙ ender.deed) in absurd (cc))
    by_deeds (Revoking revocation ∷ later) same counts =
        let one = subst AreGrantsOrRevocation same (deeds_of-one place statement.user statement.form) in
        revoked-ended (batch_of_statements range) (batches_are_sound range is) index revocation within (done-told ∙ counts)
        (deeds-told ∙ same ∙ revoked-alone revocation later one)
        ∙ ap (λ (deeds : List Deed). ended_by (owners range.log) deeds revocation) (serial_runs_agree range is index).deeds

    ends_tell : seen ≡ ended_in found
    ends_tell =
        let told = ended-form (owners range.log) place (world_before range.log place) statement statement.form in
        by_cases (outcome_word found == 1)
        (λ counts. by_deeds made refl counts ∙ sym (told ∙ rw counts refl))
        (λ not_done.
        none-ended (batch_of_statements range) (batches_are_sound range is) index
        (λ k ender. true≢false (sym ender.done ∙ done-told ∙ not_done))
        ∙ sym (told ∙ rw not_done refl))

  -- what the ends tell is what the outcome of the place says
  pub serial_ended_tells : (comes : Outcome) → outcome range.log place ≡ Some comes → seen ≡ ended_in comes
  serial_ended_tells comes is_outcome = by_statement (slice_get range.log place) refl
    where
      by_statement : (one : Option Statement) → slice_get range.log place ≡ one → seen ≡ ended_in comes
      by_statement None at =
          let no : None ≡ Some comes = sym (ap (option_map (λ (s : Statement). (at_place (owners range.log) place (world_before range.log place) s).0)) at) ∙ is_outcome in absurd (cc)
      by_statement (Some statement) at =
          let all : Some (found statement at) ≡ Some comes =
          sym (ap (option_map (λ (s : Statement). (at_place (owners range.log) place (world_before range.log place) s).0)) at) ∙ is_outcome in
          let same : found statement at ≡ comes = cc in
          ends_tell statement at ∙ ap ended_in same
