use Rattle.std.proofs.Common.{◌≡◌, ◌≤◌, List, ℕ, length, ap, sym, ◌∙◌, subst}
use Rattle.model_base.specs.declared.deed.Record.{Record}
use Rattle.bohm_core_base.specs.Batch.{batch_slots}
use Rattle.log_batch.specs.Earlier.{earlier_count}
use Rattle.log_batch.specs.Referred.{is_found}
use Rattle.log_batch.specs.Supplied.{LogRange, batch_of, range_of}
use Rattle.log_batch.proofs.Earlier.{book-count, count-within}
use Rattle.log_batch.proofs.batch.LogBatch.earlier_count.Goals as goal

pub returns-clause-value : goal.returns-clause-value
returns-clause-value c =
    let s = c.self.inside in
    let range = range_of record { log = s.log.now.log; first = s.first; size = s.size; partitions = s.partitions; placed = is_found s.references } in
    let found = length c.records.result.now in
    let count = ap (λ (entries : List Record). length entries) c.records.ensures.records ∙ book-count range s.before.book.now c.self.invariant.before.book.same in
    subst (λ (ranged : LogRange). found ≡ earlier_count (batch_of ranged)) c.self.view_is count

pub returns-clause-within : goal.returns-clause-within
returns-clause-within c =
    let s = c.self.inside in
    let ranged : LogRange = record { log = s.log.now.log; first = s.first; size = s.size; partitions = s.partitions; placed = is_found s.references } in
    let found = length c.records.result.now in
    let count = ap (λ (entries : List Record). length entries) c.records.ensures.records ∙ book-count (range_of ranged) s.before.book.now c.self.invariant.before.book.same in
    subst (λ (ranged : LogRange). found ≤ length (batch_slots (batch_of ranged))) c.self.view_is
    (subst (λ (n : ℕ). n ≤ length (batch_slots (batch_of ranged))) (sym count) (count-within (range_of ranged)))
