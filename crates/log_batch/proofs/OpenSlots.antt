-- The next grant in force before a batch.
use Rattle.std.proofs.Common.{◌≡◌, ℕ, ◌&&◌, ◌<◌, Bool, true, false, Option, Some, None, get_or, is_none, refl, sym, ◌∙◌, ap, arith}
use Rattle.std.specs.Prelude.{slice_get}
use Rattle.std.specs.Option.{option_map_or}
use Rattle.std.proofs.lemmas.Bool.{and_parts, true≢false}
use Rattle.model_base.specs.declared.deed.Grant.{Grant}
use Rattle.model_base.specs.declared.deed.Record.{Record}
use Rattle.grants_base.specs.Force.{is_in_force}
use Rattle.grants_base.specs.Index.{IsFirst, passes_at}
use Rattle.bohm_core_base.specs.Batch.{batch_slots}
use Rattle.bohm_core_base.proofs.Whole.{no_grant}
use Rattle.log_batch.specs.Earlier.{earlier_count, records_before}
use Rattle.log_batch.specs.LogBatch.{StatementRange, batch_of_statements}
use Rattle.log_batch.proofs.AtStart.{count-records, end-before, low-before, record-before, slot-before}
use Rattle.log_batch.specs.Listing.{is_open}
use Rattle.log_batch.specs.Reach.{IsNextOpen}
use Rattle.log_batch.proofs.Reaching.{passes-earlier}

-- it lies before those whose records have no end at first
module _ (range : StatementRange) (passes : Grant → Bool) where
  abbrev within : ℕ → Bool
  within k = is_in_force passes (slice_get (records_before (batch_of_statements range)) k)

  -- a slot with an open record that doesn't pass
  open-out : (k : ℕ) → k < earlier_count (batch_of_statements range) → is_open (batch_of_statements range) k ≡ true → within k ≡ false → passes_at passes (batch_slots (batch_of_statements range)) k ≡ false
  open-out k less open_k out =
      let at = record-before range k less in
      let entry = get_or (records_before (batch_of_statements range)) k (record { grant = no_grant; end = None }) in
      let end : is_none entry.end ≡ true = ap is_none (end-before range k entry at) ∙ open_k in
      ap (λ found. option_map_or passes found false) (slot-before range k entry at)
      ∙ sym (ap (λ b. b && passes entry.grant) end) ∙ sym (ap (is_in_force passes) at) ∙ out

  within-low : (k : ℕ) → within k ≡ true → (k < earlier_count (batch_of_statements range)) × (passes_at passes (batch_slots (batch_of_statements range)) k ≡ true)
  within-low k is = by_record (slice_get (records_before (batch_of_statements range)) k) refl
    where
      by_record : (found : Option Record) → slice_get (records_before (batch_of_statements range)) k ≡ found
          → (k < earlier_count (batch_of_statements range)) × (passes_at passes (batch_slots (batch_of_statements range)) k ≡ true)
      by_record None none = absurd (true≢false (sym is ∙ ap (is_in_force passes) none))
      by_record (Some entry) some =
          let low = low-before range k entry some in
          let count = count-records range in
          let both = and_parts (is_none entry.end) (passes entry.grant) (sym (ap (is_in_force passes) some) ∙ is) in
          (omega arith, ap (λ found. option_map_or passes found false) (slot-before range k entry some) ∙ both.1)

  pub open-first : (from : ℕ) (found : Option ℕ) → IsFirst within from found → IsNextOpen (batch_of_statements range) passes from found
  open-first from None first = record {
    there = tt;
    passed = λ k low less before open_k. open-out k less open_k (first k low);
  }
  open-first from (Some i) first =
      let found = within-low i first.1 in record {
        there = (first.0, passes-earlier (batch_of_statements range) passes i found.0 ∙ found.1);
        passed = λ k low less before open_k. open-out k less open_k (first.2 k low before);
      }
