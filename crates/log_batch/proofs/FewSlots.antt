-- A batch has at most 32 slots for each place of the log up to its end: their ranks rise, and a place has 32 ranks.
use Rattle.std.proofs.Common.{◌≡◌, ◌<◌, ◌≤◌, ◌+◌, ◌*◌, ℕ, zero, suc, false, List, [], ◌∷◌, length, arith, subst, sym}
use Rattle.std.specs.Prelude.{All}
use Rattle.std.proofs.lemmas.List.Elements.{All-append, All-head, All-nil, All-tail, All-weaker}
use Rattle.model_base.specs.declared.deed.Deed.TheVariants.{Granting}
use Rattle.model_base.specs.declared.deed.Grant.{Grant}
use Rattle.model_base.specs.declared.statement.Statement.{Statement}
use Rattle.model_base.specs.Laws.{IsRising}
use Rattle.model_base.specs.Outcomes.{deeds_before, owners}
use Rattle.model_base.specs.Privileges.{place_of}
use Rattle.model_base.specs.Ranks.{rank}
use Rattle.model_base.specs.Records.{grants_of}
use Rattle.model_base.proofs.Growth.{deeds_before-stands}
use Rattle.model_base.proofs.Places.{number-below}
use Rattle.model_base.proofs.Recorded.{All-grants, rising-grants}
use Rattle.bohm_core_base.specs.Batch.{batch_deeds, batch_slots}
use Rattle.bohm_core_base.proofs.Slots.{slots-rise}
use Rattle.log_batch.specs.LogBatch.{StatementRange, batch_of_statements}
use Rattle.log_batch.specs.Named.{deeds_named, grants_named}
use Rattle.log_batch.proofs.Before.{named-at}
use Rattle.log_batch.proofs.Named.{slots-split}
use Rattle.log_batch.proofs.Sound.{deeds_are_placed}

-- ranks that rise from one number on, and stay below another, are no more than the numbers between
few-rising : (low high : ℕ) (grants : List Grant) → low ≤ high → IsRising grants → All (λ grant. low ≤ rank grant) grants → All (λ grant. rank grant < high) grants
    → low + length grants ≤ high
few-rising low high [] order rising from below = omega arith
few-rising low high (grant ∷ grants) order rising from below =
    let first : low ≤ rank grant = All-head (λ x. low ≤ rank x) grant grants from in
    let here : rank grant < high = All-head (λ x. rank x < high) grant grants below in
    let rest =
    few-rising (rank grant + 1) high grants (omega arith) rising.1
    (All-weaker (λ x. rank grant < rank x) (λ x. rank grant + 1 ≤ rank x) (λ x above. omega arith) grants rising.0)
    (All-tail (λ x. rank x < high) grant grants below) in
    omega arith

-- the places of the grants that a range may make lie below its end
named-below : (log : List Statement) (first count : ℕ) → All (λ (grant : Grant). grant.place < first + count) (grants_named log first count)
named-below log first zero = All-nil (λ (grant : Grant). grant.place < first + 0)
named-below log first (suc count) =
    All-append (λ (grant : Grant). grant.place < first + suc count) (grants_named log first count) (grants_of (deeds_named log (first + count)))
    (All-weaker (λ (grant : Grant). grant.place < first + count) (λ (grant : Grant). grant.place < first + suc count) (λ grant low. omega arith)
    (grants_named log first count) (named-below log first count))
    (All-weaker (λ (grant : Grant). grant.place ≡ first + count) (λ (grant : Grant). grant.place < first + suc count) (λ grant at. omega arith)
    (grants_of (deeds_named log (first + count))) (named-at log (first + count)))

module _ (range : StatementRange) where
  abbrev before : List Grant
  before = grants_of (deeds_before range.log range.first)

  abbrev end : ℕ
  end = range.first + range.size

  slots-below : All (λ (grant : Grant). grant.place < end) (batch_slots (batch_of_statements range))
  slots-below =
      subst (λ (grants : List Grant). All (λ (grant : Grant). grant.place < end) grants) (sym (slots-split range))
      (All-append (λ (grant : Grant). grant.place < end) before (grants_named range.log range.first range.size)
      (All-weaker (λ (grant : Grant). grant.place < range.first) (λ (grant : Grant). grant.place < end) (λ grant low. omega arith) before
      (All-grants (λ deed. place_of deed < range.first) (deeds_before range.log range.first) (deeds_before-stands range.log range.first).below))
      (named-below range.log range.first range.size))

  slots-rising : IsRising (batch_slots (batch_of_statements range))
  unfolding batch_slots
  slots-rising =
      slots-rise (batch_deeds (batch_of_statements range) (λ _. false)) (deeds_are_placed range)
      (rising-grants (owners range.log) (deeds_before range.log range.first) (deeds_before-stands range.log range.first).proper) range.size

  pub few-slots : length (batch_slots (batch_of_statements range)) ≤ (range.first + range.size) * 32
  few-slots =
      let slots = batch_slots (batch_of_statements range) in
      let all =
      few-rising 0 (end * 32) slots (omega arith) slots-rising
      (All-weaker (λ (grant : Grant). grant.place < end) (λ grant. 0 ≤ rank grant) (λ grant low. omega arith) slots slots-below)
      (All-weaker (λ (grant : Grant). grant.place < end) (λ grant. rank grant < end * 32) (λ grant low. number-below (Granting grant) end low) slots slots-below) in
      omega arith
