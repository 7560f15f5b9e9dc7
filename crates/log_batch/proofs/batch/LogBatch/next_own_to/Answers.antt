use Rattle.std.proofs.Common.{◌-◌, ◌+◌, ℕ, None, Some, arith, ap, sym, subst}
use Rattle.grants_base.specs.Index.{IsNext, is_to}
use Rattle.bohm_core_base.specs.Batch.{batch_slots}
use Rattle.log_batch.specs.Earlier.{earlier_count, own_grants}
use Rattle.log_batch.specs.Supplied.{batch_of}
use Rattle.log_batch.proofs.Passed.{first-behind, none-behind, taken-past}
use Rattle.log_batch.proofs.batch.LogBatch.next_own_to.Goals as goal

pub returns-in-Some : goal.returns-in-Some
returns-in-Some c =
    let batch = batch_of c.args.self.now in
    let passes = is_to c.args.holder.now.grantee c.args.holder.now.kind c.args.holder.now.table in
    let low = c.requires in
    let from = ap (λ (count : ℕ). c.args.from - count) c.earlier_count-earlier.ensures.value in
    subst (λ (count : ℕ). IsNext passes (batch_slots batch) c.args.from (Some (count + c.in-Some.slot))) (sym c.earlier_count-earlier.ensures.value)
    (first-behind passes (batch_slots batch) (earlier_count batch) c.args.from c.in-Some.slot
    (λ k above. taken-past passes (batch_slots batch) (earlier_count batch) k (omega arith))
    (subst (λ (first : ℕ). IsNext passes (own_grants batch) first (Some c.in-Some.slot)) from c.in-Some.ensures.next))

pub returns-in-None : goal.returns-in-None
returns-in-None c =
    let batch = batch_of c.args.self.now in
    let passes = is_to c.args.holder.now.grantee c.args.holder.now.kind c.args.holder.now.table in
    let low = c.requires in
    let from = ap (λ (count : ℕ). c.args.from - count) c.earlier_count-earlier.ensures.value in
    none-behind passes (batch_slots batch) (earlier_count batch) c.args.from
    (λ k above. taken-past passes (batch_slots batch) (earlier_count batch) k (omega arith))
    (subst (λ (first : ℕ). IsNext passes (own_grants batch) first None) from c.in-None.ensures.next)
