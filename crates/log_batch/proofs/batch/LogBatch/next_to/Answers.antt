use Rattle.std.proofs.Common.{◌-◌, ◌+◌, ℕ, Option, None, Some, ap, sym, subst, ◌∙◌}
use Rattle.grants_base.specs.Index.{IsNext, is_to}
use Rattle.bohm_core_base.specs.Batch.{batch_slots}
use Rattle.log_batch.specs.Earlier.{earlier_count, earlier_grants, own_grants}
use Rattle.log_batch.specs.Supplied.{batch_of}
use Rattle.log_batch.proofs.Passed.{first-behind, first-taken, none-behind}
use Rattle.log_batch.proofs.batch.LogBatch.next_to.Goals as goal

pub returns-in-Some : goal.returns-in-Some
returns-in-Some c =
    let batch = batch_of c.args.self.now in
    first-taken (is_to c.args.holder.now.grantee c.args.holder.now.kind c.args.holder.now.table) (batch_slots batch) (earlier_count batch) c.args.from c.in-Some.slot c.in-Some.ensures

pub returns-in-None : goal.returns-in-None
returns-in-None c =
    let batch = batch_of c.args.self.now in
    let passes = is_to c.args.holder.now.grantee c.args.holder.now.kind c.args.holder.now.table in
    let none = subst (λ (found : Option ℕ). IsNext passes (earlier_grants batch) c.args.from found) c.in_default.is c.earlier_to.ensures in
    let from = c.saturating_sub.ensures ∙ ap (λ (count : ℕ). c.args.from - count) c.earlier_count-earlier.ensures.value in
    none-behind passes (batch_slots batch) (earlier_count batch) c.args.from none
    (subst (λ (first : ℕ). IsNext passes (own_grants batch) first None) from c.in-None.ensures.next)

pub returns-in-Some-own_to : goal.returns-in-Some-own_to
returns-in-Some-own_to c =
    let batch = batch_of c.args.self.now in
    let passes = is_to c.args.holder.now.grantee c.args.holder.now.kind c.args.holder.now.table in
    let none = subst (λ (found : Option ℕ). IsNext passes (earlier_grants batch) c.args.from found) c.in_default.is c.earlier_to.ensures in
    let from = c.saturating_sub.ensures ∙ ap (λ (count : ℕ). c.args.from - count) c.earlier_count-earlier.ensures.value in
    subst (λ (count : ℕ). IsNext passes (batch_slots batch) c.args.from (Some (count + c.in-Some-own_to.slot))) (sym c.earlier_count-earlier.ensures.value)
    (first-behind passes (batch_slots batch) (earlier_count batch) c.args.from c.in-Some-own_to.slot none
    (subst (λ (first : ℕ). IsNext passes (own_grants batch) first (Some c.in-Some-own_to.slot)) from c.in-Some-own_to.ensures.next))
