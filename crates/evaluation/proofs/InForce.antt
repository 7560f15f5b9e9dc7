-- What was in force as a batch began, and what a place of the batch is shown of it.
use Rattle.std.proofs.Common.{◌≡◌, ℕ, ◌+◌, ◌&&◌, ◌<◌, Bool, true, false, List, [], Option, Some, None, is_none, refl, sym, ◌∙◌, ap, arith}
use Rattle.std.specs.Prelude.{◌*◌, nat_lt, slice_get}
use Rattle.std.proofs.lemmas.Bool.{lt-ltb, true≢false}
use Rattle.model_base.specs.declared.deed.Deed.{Deed}
use Rattle.model_base.specs.declared.deed.Grant.{Grant}
use Rattle.model_base.specs.declared.deed.Record.{Record}
use Rattle.model_base.specs.declared.statement.Statement.{Statement}
use Rattle.model_base.specs.Ranks.{place_of_rank, rank}
use Rattle.model_base.specs.Outcomes.{deeds_before, owners}
use Rattle.model_base.specs.Records.{end_below, grants_of}
use Rattle.model_base.proofs.Ends.{end-above, end-within}
use Rattle.model_base.proofs.Growth.{deeds_before-stands}
use Rattle.model_base.proofs.Ranked.{rank-place}
use Rattle.model_base.proofs.Replay.{by_cases}
use Rattle.grants_base.specs.Force.{end_if, is_in_force}
use Rattle.grants_base.specs.View.{View, slot_at}
use Rattle.bohm_core_base.specs.Batch.{Batch, batch_slots, is_listed}
use Rattle.bohm_core_base.specs.Serial.{whole_end}
use Rattle.bohm_core_base.proofs.Reach.{ends-right}
use Rattle.log_batch.specs.Earlier.{earlier_count, records_before}
use Rattle.log_batch.specs.Laws.{IsOfLog}
use Rattle.log_batch.specs.Supplied.{LogRange, batch_of, range_of}
use Rattle.log_batch.proofs.AtStart.{Made, count-records, end-before, low-before, made-before, record-before, slot-before}
use Rattle.log_batch.proofs.Sound.{batches_are_sound}
use Rattle.evaluation.specs.Seen.{seen_at, seen_view, slot_seen}
use Rattle.evaluation.specs.Sought.{slot_end}
use Rattle.evaluation.specs.ReadSource.{made_whole}
use Rattle.evaluation.proofs.Slots.{made-early, slot-shown}

and-none : (a : Bool) → (a && false) ≡ false
and-none true = refl
and-none false = refl

below-stays : (place end : ℕ) → end < place → end_below place (Some end) ≡ Some end
below-stays place end low = rw (lt-ltb end place low) refl

module _ (ranged : LogRange) (of_log : IsOfLog (range_of ranged)) (index : ℕ) where
  abbrev batch : Batch
  batch = batch_of ranged

  abbrev view : View
  view = seen_view (seen_at ranged index)

  abbrev log : List Statement
  log = ranged.log.statements

  abbrev deeds : List Deed
  deeds = deeds_before log ranged.first

  module _ (k : ℕ) (entry : Record) (at : slice_get (records_before batch) k ≡ Some entry) where
    made : Made (owners log) deeds (grants_of deeds) k entry
    made = made-before (range_of ranged) k entry at

    slot : slice_get (batch_slots batch) k ≡ Some entry.grant
    slot = slot-before (range_of ranged) k entry at

    -- an end before the batch stays, and lies below its first place
    early : (end : ℕ) → entry.end ≡ Some end → end < ranged.first
    early end is = end-within (owners log) (λ p. p < ranged.first) [] deeds (rank entry.grant) end (deeds_before-stands log ranged.first).below (sym made.end ∙ is)

    stays : (end : ℕ) → entry.end ≡ Some end → end_below (ranged.first + index) (whole_end batch k) ≡ Some end
    stays end is =
        let first = end-before (range_of ranged) k entry at in
        let whole : whole_end batch k ≡ Some end = ends-right batch (batches_are_sound (range_of ranged) of_log) [] k end (sym first ∙ is) in
        let below = early end is in
        ap (end_below (ranged.first + index)) whole ∙ below-stays (ranged.first + index) end (omega arith)

    abbrev is_seen : Bool
    is_seen = is_listed (batch.tables index) entry.grant.table && (nat_lt entry.grant.place (ranged.first + index) && made_whole batch entry.grant.place)

    shown : slot_at view k ≡ slot_seen (batch.tables index) (ranged.first + index) (made_whole batch) entry.grant (whole_end batch k)
    shown = slot-shown ranged of_log index k entry.grant slot

    shown-some : is_seen ≡ true → slot_at view k ≡ Some (record { grant = entry.grant; end = end_below (ranged.first + index) (whole_end batch k) })
    shown-some seen = shown ∙ rw seen refl

    shown-none : is_seen ≡ false → slot_at view k ≡ None
    shown-none other = shown ∙ rw other refl

    -- what wasn't in force as the batch began isn't
    stays-out : (passes : Grant → Bool) → is_in_force passes (Some entry) ≡ false → is_in_force passes (slot_at view k) ≡ false
    stays-out passes out =
        by_cases is_seen
        (λ seen. ap (is_in_force passes) (shown-some seen) ∙ by_end entry.end refl)
        (λ other. ap (is_in_force passes) (shown-none other))
      where
        by_end : (end : Option ℕ) → entry.end ≡ end → (is_none (end_below (ranged.first + index) (whole_end batch k)) && passes entry.grant) ≡ false
        by_end None is =
            let never : passes entry.grant ≡ false = sym (ap (λ end. is_none end && passes entry.grant) is) ∙ out in
            ap (λ b. is_none (end_below (ranged.first + index) (whole_end batch k)) && b) never ∙ and-none _
        by_end (Some end) is = ap (λ found. is_none found && passes entry.grant) (stays end is)

    -- and an end of it is that before the batch
    stays-ended : (passes : Grant → Bool) (place : ℕ) → is_in_force passes (Some entry) ≡ false → slot_end passes (slot_at view k) ≡ Some place
        → slot_end passes (Some entry) ≡ Some place
    stays-ended passes place out is =
        by_cases is_seen
        (λ seen. by_pass (sym (ap (slot_end passes) (shown-some seen)) ∙ is))
        (λ other. let none : None ≡ Some place = sym (ap (slot_end passes) (shown-none other)) ∙ is in absurd (cc))
      where
        by_end : (end : Option ℕ) → entry.end ≡ end → passes entry.grant ≡ true → end_below (ranged.first + index) (whole_end batch k) ≡ Some place → entry.end ≡ Some place
        by_end None none passed found =
            absurd (true≢false (sym (ap (λ end. is_none end && passes entry.grant) none ∙ passed) ∙ out))
        by_end (Some end) some passed found = some ∙ sym (stays end some) ∙ found

        by_pass : end_if passes (record { grant = entry.grant; end = end_below (ranged.first + index) (whole_end batch k) }) ≡ Some place → end_if passes entry ≡ Some place
        by_pass found =
            by_cases (passes entry.grant)
            (λ yes. (let end : end_below (ranged.first + index) (whole_end batch k) ≡ Some place = rw yes at found in rw yes (by_end entry.end refl yes end)))
            (λ no. (let none : None ≡ Some place = rw no at found in absurd (cc)))

    -- on a table of the place an end before the batch is shown
    shows-ended : (passes : Grant → Bool) (place : ℕ) → is_listed (batch.tables index) entry.grant.table ≡ true
        → slot_end passes (Some entry) ≡ Some place → slot_end passes (slot_at view k) ≡ Some place
    shows-ended passes place listed is =
        by_cases (passes entry.grant)
        (λ yes.
        let end : entry.end ≡ Some place = rw yes at is in
        let below = early place end in
        let above : rank entry.grant < place * 32 = end-above (owners log) [] deeds (rank entry.grant) place (deeds_before-stands log ranged.first).proper (sym made.end ∙ end) in
        let here : place_of_rank (rank entry.grant) ≡ entry.grant.place = rank-place entry.grant in
        let first : entry.grant.place < ranged.first = omega arith in
        let seen : is_seen ≡ true = rw (listed, lt-ltb entry.grant.place (ranged.first + index) (omega arith), made-early ranged of_log entry.grant.place first) refl in
        ap (slot_end passes) (shown-some seen) ∙ rw yes (stays place end))
        (λ no. (let none : None ≡ Some place = rw no at is in absurd (cc)))

  -- the same by slots
  pub out-at : (passes : Grant → Bool) (k : ℕ) → k < earlier_count batch → is_in_force passes (slice_get (records_before batch) k) ≡ false
      → is_in_force passes (slot_at view k) ≡ false
  out-at passes k less out = (let at = record-before (range_of ranged) k less in stays-out k _ at passes (sym (ap (is_in_force passes) at) ∙ out))

  pub ended-at : (passes : Grant → Bool) (k place : ℕ) → k < earlier_count batch → is_in_force passes (slice_get (records_before batch) k) ≡ false
      → slot_end passes (slot_at view k) ≡ Some place → slot_end passes (slice_get (records_before batch) k) ≡ Some place
  ended-at passes k place less out is =
      (let at = record-before (range_of ranged) k less in ap (slot_end passes) at ∙ stays-ended k _ at passes place (sym (ap (is_in_force passes) at) ∙ out) is)

  pub shown-at : (passes : Grant → Bool) → ((grant : Grant) → passes grant ≡ true → is_listed (batch.tables index) grant.table ≡ true)
      → (k place : ℕ) → slot_end passes (slice_get (records_before batch) k) ≡ Some place → slot_end passes (slot_at view k) ≡ Some place
  shown-at passes on k place is = by_record (slice_get (records_before batch) k) refl
    where
      by_record : (found : Option Record) → slice_get (records_before batch) k ≡ found → slot_end passes (slot_at view k) ≡ Some place
      by_record None none = absurd (let never : None ≡ Some place = sym (ap (slot_end passes) none) ∙ is in cc)
      by_record (Some entry) some =
          let end : end_if passes entry ≡ Some place = sym (ap (slot_end passes) some) ∙ is in
          by_cases (passes entry.grant)
          (λ yes. shows-ended k entry some passes place (on entry.grant yes) end)
          (λ no. (let never : None ≡ Some place = rw no at end in absurd (cc)))

  -- one in force as the batch began lies before it
  pub in-force-low : (passes : Grant → Bool) (k : ℕ) → is_in_force passes (slice_get (records_before batch) k) ≡ true → k < earlier_count batch
  in-force-low passes k is = by_record (slice_get (records_before batch) k) refl
    where
      by_record : (found : Option Record) → slice_get (records_before batch) k ≡ found → k < earlier_count batch
      by_record None none = absurd (true≢false (sym is ∙ ap (is_in_force passes) none))
      by_record (Some entry) some = (let low = low-before (range_of ranged) k entry some in let count = count-records (range_of ranged) in omega arith)
