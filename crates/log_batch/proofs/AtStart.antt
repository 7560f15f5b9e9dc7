-- What is in force before a batch, as the book's view at its first place tells it.
use Rattle.std.proofs.Common.{◌≡◌, ◌<◌, ℕ, zero, suc, Bool, List, [], ◌∷◌, Option, Some, None, get_or, length, map, refl, sym, ◌∙◌, ap, subst, arith}
use Rattle.std.specs.Prelude.{All, IfSome, slice_get}
use Rattle.std.specs.List.{flat_map}
use Rattle.std.specs.Option.{option_to_list}
use Rattle.std.proofs.lemmas.Bool.{lt-ltb}
use Rattle.std.proofs.lemmas.List.{length-map}
use Rattle.std.proofs.lemmas.Option.{get_or_from_slice_get, slice_get-get_or, slice_get_within}
use Rattle.std.proofs.lemmas.List.Elements.{All-head, All-map, All-tail, All-weaker}
use Rattle.model_base.specs.declared.deed.Deed.{Deed}
use Rattle.model_base.specs.declared.deed.Grant.{Grant}
use Rattle.model_base.specs.declared.deed.Record.{Record}
use Rattle.model_base.specs.Outcomes.{deeds_before, owners}
use Rattle.model_base.specs.declared.statement.Statement.{Statement}
use Rattle.model_base.specs.Ranks.{rank}
use Rattle.model_base.specs.Privileges.{place_of}
use Rattle.model_base.specs.Records.{end_after, end_below, grants_of, record_of, records}
use Rattle.model_base.proofs.Ends.{end-within}
use Rattle.model_base.proofs.Growth.{deeds_before-stands}
use Rattle.model_base.proofs.Recorded.{All-grants}
use Rattle.grants_base.specs.Book.{Entries, slot_below, view_of}
use Rattle.grants_base.specs.Force.{greatest_end, is_in_force}
use Rattle.grants_base.specs.InForce.{IsNextInForce, ShowsNextInForce}
use Rattle.grants_base.specs.Index.{IsFirst}
use Rattle.grants_base.specs.View.{flatten, slot_at}
use Rattle.grants_base.specs.declared.force.NextBy.{NextBy}
use Rattle.grants_base.specs.declared.force.NextInForce.{NextInForce}
use Rattle.grants_base.proofs.Indexing.{first_as}
use Rattle.grants.proofs.BookLaws.{get_more}
use Rattle.bohm_core_base.specs.Batch.{batch_slots}
use Rattle.bohm_core_base.specs.Machine.{end_of, start}
use Rattle.bohm_core_base.proofs.Whole.{no_grant}
use Rattle.log_batch.specs.Earlier.{earlier_count, records_before}
use Rattle.log_batch.specs.LogBatch.{StatementRange, batch_of_statements}
use Rattle.log_batch.specs.Named.{grants_named}
use Rattle.log_batch.proofs.Before.{first-end}
use Rattle.log_batch.proofs.Named.{slots-split}

-- a record whose grant and whose end lie below a place
abbrev LiesBelow : ℕ → Record → Type 0
LiesBelow place entry = (entry.grant.place < place) × ((end : ℕ) → entry.end ≡ Some end → end < place)

abbrev with : Grant → Option ℕ → Option Record
with grant end = Some (record { grant = grant; end = end })

end-whole : (place : ℕ) (end : Option ℕ) → ((e : ℕ) → end ≡ Some e → e < place) → end_below place end ≡ end
end-whole place None below = refl
end-whole place (Some e) below = rw (lt-ltb e place (below e refl)) refl

slot-whole : (place : ℕ) (entry : Record) → LiesBelow place entry → slot_below place entry ≡ Some entry
slot-whole place entry below = rw (lt-ltb entry.grant.place place below.0) (ap (with entry.grant) (end-whole place entry.end below.1))

slots-whole : (place : ℕ) (entries : List Record) → All (LiesBelow place) entries → map (slot_below place) entries ≡ map (λ (entry : Record). Some entry) entries
slots-whole place [] all = refl
slots-whole place (entry ∷ entries) all =
    ap (λ slot. slot ∷ map (slot_below place) entries) (slot-whole place entry (All-head (LiesBelow place) entry entries all))
    ∙ ap (λ rest. Some entry ∷ rest) (slots-whole place entries (All-tail (LiesBelow place) entry entries all))

pub at-whole : (entries : List Record) (k : ℕ) → flatten (slice_get (map (λ (entry : Record). Some entry) entries) k) ≡ slice_get entries k
at-whole [] k = refl
at-whole (entry ∷ entries) zero = refl
at-whole (entry ∷ entries) (suc k) = at-whole entries k

pub entries-whole : (entries : List Record) → flat_map option_to_list (map (λ (entry : Record). Some entry) entries) ≡ entries
entries-whole [] = refl
entries-whole (entry ∷ entries) = ap (λ rest. entry ∷ rest) (entries-whole entries)

module _ (book : Entries) (place : ℕ) (below : All (LiesBelow place) book.records) where
  at-same : (k : ℕ) → slot_at (view_of book place) k ≡ slice_get book.records k
  at-same k = ap (λ (slots : List (Option Record)). flatten (slice_get slots k)) (slots-whole place book.records below) ∙ at-whole book.records k

  first-same : (passes : Grant → Bool) (from : ℕ) (found : Option ℕ) → IsFirst (λ k. is_in_force passes (slot_at (view_of book place) k)) from found
      → IsFirst (λ k. is_in_force passes (slice_get book.records k)) from found
  first-same passes from found is =
      first_as (λ k. is_in_force passes (slot_at (view_of book place) k)) (λ k. is_in_force passes (slice_get book.records k))
      (λ k. ap (is_in_force passes) (at-same k)) from found is

  next-same : (passes : Grant → Bool) (from : ℕ) (found : Option NextInForce) → IfSome found (λ next. ShowsNextInForce passes (view_of book place) from next)
      → IfSome found (λ next. IsNextInForce passes book.records from next)
  next-same passes from None is = tt
  next-same passes from (Some next) is = record {
    slot = first-same passes from next.slot is.slot;
    lost = is.lost ∙ ap (greatest_end passes) (ap (λ (slots : List (Option Record)). flat_map option_to_list slots) (slots-whole place book.records below) ∙ entries-whole book.records);
  }

  by-same : (passes : Grant → Bool) (from : ℕ) (found : Option NextBy) → IfSome found (λ next. IsFirst (λ k. is_in_force passes (slot_at (view_of book place) k)) from next.slot)
      → IfSome found (λ next. IsFirst (λ k. is_in_force passes (slice_get book.records k)) from next.slot)
  by-same passes from None is = tt
  by-same passes from (Some next) is = first-same passes from next.slot is

-- the records of deeds below a place lie below it
records-below : (users : List ℕ) (place : ℕ) (deeds : List Deed) → All (λ deed. place_of deed < place) deeds → All (LiesBelow place) (records users deeds)
records-below users place deeds all =
    All-map (LiesBelow place) (record_of users deeds) (grants_of deeds)
    (All-weaker (λ (grant : Grant). grant.place < place) (λ (grant : Grant). LiesBelow place (record_of users deeds grant))
    (λ grant low. (low, λ end is. end-within users (λ p. p < place) [] deeds (rank grant) end all is)) (grants_of deeds) (All-grants (λ deed. place_of deed < place) deeds all))

-- a book of the deeds before a place shows there the records of these deeds
module _ (book : Entries) (log : List Statement) (place : ℕ) (same : book.records ≡ records (owners log) (deeds_before log place)) where
  below : All (LiesBelow place) book.records
  below = rw same (records-below (owners log) place (deeds_before log place) (deeds_before-stands log place).below)

  pub next-at-start : (passes : Grant → Bool) (from : ℕ) (found : Option NextInForce) → IfSome found (λ next. ShowsNextInForce passes (view_of book place) from next)
      → IfSome found (λ next. IsNextInForce passes (records (owners log) (deeds_before log place)) from next)
  next-at-start passes from found is =
      subst (λ (entries : List Record). IfSome found (λ next. IsNextInForce passes entries from next)) same (next-same book place below passes from found is)

  pub by-at-start : (passes : Grant → Bool) (from : ℕ) (found : Option NextBy) → IfSome found (λ next. IsFirst (λ k. is_in_force passes (slot_at (view_of book place) k)) from next.slot)
      → IfSome found (λ next. IsFirst (λ k. is_in_force passes (slice_get (records (owners log) (deeds_before log place)) k)) from next.slot)
  by-at-start passes from found is =
      subst (λ (entries : List Record). IfSome found (λ next. IsFirst (λ k. is_in_force passes (slice_get entries k)) from next.slot)) same (by-same book place below passes from found is)

-- a grant of some deeds, with its record
pub record Made (users : List ℕ) (deeds : List Deed) (grants : List Grant) (k : ℕ) (entry : Record) : Type 0 where
  pub at : slice_get grants k ≡ Some entry.grant
  pub end : entry.end ≡ end_after users [] deeds (rank entry.grant)

made-at : (users : List ℕ) (deeds : List Deed) (grants : List Grant) (k : ℕ) (entry : Record)
    → slice_get (map (record_of users deeds) grants) k ≡ Some entry → Made users deeds grants k entry
made-at users deeds [] k entry is = absurd (cc)
made-at users deeds (grant ∷ grants) zero entry is =
    let same : record_of users deeds grant ≡ entry = cc in
    subst (λ (one : Record). Made users deeds (grant ∷ grants) zero one) same (record { at = refl; end = refl })
made-at users deeds (grant ∷ grants) (suc k) entry is =
    let rest = made-at users deeds grants k entry is in record { at = rest.at; end = rest.end }

module _ (range : StatementRange) where
  -- there is a record for each slot from before the batch
  pub count-records : length (records_before (batch_of_statements range)) ≡ earlier_count (batch_of_statements range)
  count-records = length-map (grants_of (deeds_before range.log range.first)) (record_of (owners range.log) (deeds_before range.log range.first))

  -- the record of a slot has its grant, and the end that it has at first
  module _ (k : ℕ) (entry : Record) (at : slice_get (records_before (batch_of_statements range)) k ≡ Some entry) where
    pub made-before : Made (owners range.log) (deeds_before range.log range.first) (grants_of (deeds_before range.log range.first)) k entry
    made-before = made-at (owners range.log) (deeds_before range.log range.first) (grants_of (deeds_before range.log range.first)) k entry at

    pub slot-before : slice_get (batch_slots (batch_of_statements range)) k ≡ Some entry.grant
    slot-before =
        ap (λ (grants : List Grant). slice_get grants k) (slots-split range)
        ∙ get_more (grants_of (deeds_before range.log range.first)) (grants_named range.log range.first range.size) k entry.grant made-before.at

    pub low-before : k < length (records_before (batch_of_statements range))
    low-before = slice_get_within (records_before (batch_of_statements range)) k entry at

    pub end-before : entry.end ≡ end_of (start (batch_of_statements range)) k
    end-before =
        first-end range k entry low-before
        (sym (get_or_from_slice_get (records_before (batch_of_statements range)) k entry entry at))

  -- there is a record below their count
  pub record-before : (k : ℕ) → k < earlier_count (batch_of_statements range)
      → slice_get (records_before (batch_of_statements range)) k ≡ Some (get_or (records_before (batch_of_statements range)) k (record { grant = no_grant; end = None }))
  record-before k less =
      slice_get-get_or (records_before (batch_of_statements range)) k (record { grant = no_grant; end = None }) (let count = count-records in omega arith)
