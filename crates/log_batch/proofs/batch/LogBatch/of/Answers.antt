use Rattle.std.proofs.Common.{◌≡◌, ◌+◌, ◌-◌, ◌++◌, List, arith, ap, sym, ◌∙◌}
use Rattle.model_base.specs.declared.deed.Grant.{Grant}
use Rattle.model_base.specs.declared.deed.Record.{Record}
use Rattle.model_base.specs.Outcomes.{deeds_before, owners}
use Rattle.model_base.specs.Records.{grants_of, recorded}
use Rattle.model_base.proofs.Recorded.{recorded-records}
use Rattle.log_batch.specs.Referred.{is_found}
use Rattle.log_batch.specs.Supplied.{range_of}
use Rattle.log_batch.proofs.Named.{slots-split}
use Rattle.log_batch.proofs.batch.LogBatch.of.Goals as goal

pub invariant_of-result : goal.invariant_of-result
invariant_of-result c =
    let log = c.args.places.log.now.log.statements in
    let first = c.args.places.range.start in
    let order = c.requires.places.order in
    let end : first + (c.args.places.range.end - first) ≡ c.args.places.range.end = omega arith in
    let named = c.in_ok-named.named in
    let marked = c.mark-mark.ensures.within in
    let ends = c.requires.places.before.ends in
    record {
      whole = c.dropped-dropped.ensures.whole;
      few = c.len-len.ensures.most;
      partitions = c.requires.places.partitions;
      few_partitions = c.requires.places.few;
      within = (let within = c.requires.places.within in omega arith);
      kept = c.requires.places.kept;
      begins = omega arith;
      before = c.requires.places.before;
      references = c.requires.references;
      slots =
          ap (λ (entries : List Record). recorded entries ++ named) c.requires.places.before.book.same
          ∙ ap (λ (grants : List Grant). grants ++ named) (recorded-records (owners log) (deeds_before log first))
          ∙ ap (λ (grants : List Grant). grants_of (deeds_before log first) ++ grants) c.in_ok-named.ensures
          ∙ sym (slots-split (range_of record { log = c.args.places.log.now.log; first = first; size = c.args.places.range.end - first; partitions = c.args.places.partitions; placed = is_found c.args.references }));
    }
