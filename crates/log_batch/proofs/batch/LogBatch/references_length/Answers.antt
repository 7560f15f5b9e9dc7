use Rattle.std.proofs.Common.{◌≡◌, ◌<◌, ◌+◌, length, sym, ◌∙◌, subst, arith}
use Rattle.bohm_core_base.specs.Batch.{reference_words}
use Rattle.log_batch.specs.Supplied.{LogRange, batch_of}
use Rattle.log_batch.specs.Referred.{counts_in, is_found}
use Rattle.log_batch.proofs.AtHand.{count-is}
use Rattle.log_batch.proofs.FewReferences.{few-references}
use Rattle.log_batch.proofs.batch.LogBatch.references_length.Goals as goal

pub returns-clause-value : goal.returns-clause-value
returns-clause-value c =
    let s = c.self.inside in
    let index = c.args.index in
    let ranged : LogRange = record { log = s.log.now.log; first = s.first; size = s.size; partitions = s.partitions; placed = is_found s.references } in
    let low : index < s.size = subst (λ (r : LogRange). index < r.size) (sym c.self.view_is) c.requires in
    subst (λ (r : LogRange). c.count.result ≡ length (reference_words (batch_of r) index)) c.self.view_is
    (c.count.ensures ∙ count-is ranged index (counts_in s.references) c.self.invariant.references.counts low)

pub returns-clause-few : goal.returns-clause-few
returns-clause-few c =
    let s = c.self.inside in
    let index = c.args.index in
    let ranged : LogRange = record { log = s.log.now.log; first = s.first; size = s.size; partitions = s.partitions; placed = is_found s.references } in
    let low : index < s.size = subst (λ (r : LogRange). index < r.size) (sym c.self.view_is) c.requires in
    let count = c.self.invariant.references.counts.each index low in
    omega (arith, c.count.ensures, count, few-references s.log.now.log s.first (s.first + index) c.self.invariant.whole)
