-- The book has the grants of the slots that come first.
use Rattle.std.proofs.Common.{◌≡◌, ◌≤◌, ◌++◌, suc, List, [], ◌∷◌, length, length-append, take, drop, refl, sym, ap, ◌∙◌, arith}
use Rattle.model_base.specs.declared.deed.Grant.{Grant}
use Rattle.model_base.specs.declared.deed.Record.{Record}
use Rattle.model_base.specs.Outcomes.{deeds_before, owners}
use Rattle.model_base.specs.Records.{grants_of, recorded, records}
use Rattle.model_base.proofs.Recorded.{recorded-records}
use Rattle.bohm_core_base.specs.Batch.{batch_slots}
use Rattle.grants_base.specs.Book.{Entries}
use Rattle.log_batch.specs.LogBatch.{StatementRange, batch_of_statements}
use Rattle.log_batch.specs.Earlier.{earlier_count, earlier_grants, own_grants}
use Rattle.log_batch.proofs.Named.{slots-split}
use Rattle.log_batch.specs.Named.{grants_named}

take-first : (first more : List Grant) → take (length first) (first ++ more) ≡ first
take-first [] more = refl
take-first (grant ∷ first) more = ap (λ l. grant ∷ l) (take-first first more)

drop-first : (first more : List Grant) → drop (length first) (first ++ more) ≡ more
drop-first [] more = refl
drop-first (grant ∷ first) more = drop-first first more

module _ (range : StatementRange) where
  abbrev before : List Grant
  before = grants_of (deeds_before range.log range.first)

  earlier-before : earlier_grants (batch_of_statements range) ≡ before
  earlier-before =
      ap (λ l. take (length before) l) (slots-split range) ∙ take-first before (grants_named range.log range.first range.size)

  module _ (entries : Entries) (same : entries.records ≡ records (owners range.log) (deeds_before range.log range.first)) where
    pub book-earlier : recorded entries.records ≡ earlier_grants (batch_of_statements range)
    book-earlier = ap recorded same ∙ recorded-records (owners range.log) (deeds_before range.log range.first) ∙ sym earlier-before

    pub book-behind : (named : List Grant) → recorded entries.records ++ named ≡ batch_slots (batch_of_statements range) → named ≡ own_grants (batch_of_statements range)
    book-behind named slots =
        let are = ap recorded same ∙ recorded-records (owners range.log) (deeds_before range.log range.first) in
        sym (drop-first before named) ∙ ap (λ (l : List Grant). drop (length before) l) (ap (λ (l : List Grant). l ++ named) (sym are) ∙ slots)

    pub book-count : length entries.records ≡ earlier_count (batch_of_statements range)
    book-count = sym (long entries.records) ∙ ap (λ (l : List Grant). length l) (ap recorded same ∙ recorded-records (owners range.log) (deeds_before range.log range.first))
      where
        long : (l : List Record) → length (recorded l) ≡ length l
        long [] = refl
        long (entry ∷ l) = ap suc (long l)

  pub count-within : earlier_count (batch_of_statements range) ≤ length (batch_slots (batch_of_statements range))
  count-within =
      let split = ap (λ (l : List Grant). length l) (slots-split range) in
      let both = length-append before (grants_named range.log range.first range.size) in
      omega arith
