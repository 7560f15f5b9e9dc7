-- What the slots that a place is shown ask for.
use Rattle.std.proofs.Common.{◌≡◌, ◌+◌, ◌&&◌, ℕ, zero, suc, Bool, Option, Some, None, List, [], ◌∷◌, sym}
use Rattle.std.specs.Prelude.{nat_lt, slice_get}
use Rattle.model_base.specs.declared.deed.Grant.{Grant}
use Rattle.model_base.proofs.Replay.{by_cases}
use Rattle.grants_base.specs.Index.{AreAsked}
use Rattle.grants_base.specs.View.{flatten, grant_in}
use Rattle.bohm_core_base.specs.Batch.{is_listed, batch_slots}
use Rattle.log_batch.specs.Laws.{IsOfLog}
use Rattle.log_batch.specs.Supplied.{LogRange, batch_of, range_of}
use Rattle.evaluation.specs.Seen.{seen_at, seen_view, slots_seen}
use Rattle.evaluation.specs.ReadSource.{ends_whole, made_whole}
use Rattle.evaluation.proofs.Slots.{slots-all}

-- a slot that shows a grant asks for it
each_asked : (tables : List ℕ) (place : ℕ) (made : ℕ → Bool) (grants : List Grant) (ends : List (Option ℕ)) (i : ℕ) (grant : Grant)
    → grant_in (flatten (slice_get (slots_seen tables place made grants ends) i)) ≡ Some grant → slice_get grants i ≡ Some grant
each_asked tables place made [] ends i grant is = absurd (cc)
each_asked tables place made (first ∷ grants) [] i grant is = absurd (cc)
each_asked tables place made (first ∷ grants) (end ∷ ends) zero grant is =
    by_cases (is_listed tables first.table && (nat_lt first.place place && made first.place))
    (λ shown. rw shown at is)
    (λ other. let none : None ≡ Some grant = rw other at is in absurd (cc))
each_asked tables place made (first ∷ grants) (end ∷ ends) (suc i) grant is = each_asked tables place made grants ends i grant is

-- each slot asks for its grant
pub asked_seen : (ranged : LogRange) (index : ℕ) → IsOfLog (range_of ranged) → AreAsked (seen_view (seen_at ranged index)) (batch_slots (batch_of ranged))
asked_seen ranged index of_log =
    let batch = batch_of ranged in
    record {
      long = sym (slots-all ranged of_log index);
      each = each_asked (batch.tables index) (ranged.first + index) (made_whole batch) (batch_slots batch) (ends_whole batch);
    }
