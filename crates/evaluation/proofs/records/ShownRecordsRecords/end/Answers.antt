use Rattle.std.proofs.Common.{◌<◌, subst}
use Rattle.evaluation.proofs.Slots.{slots-all}
use Rattle.evaluation.proofs.records.ShownRecordsRecords.end.Goals as goal

pub record_shown-end-requires-clause-within : goal.record_shown-end-requires-clause-within
record_shown-end-requires-clause-within g c =
    let self = c.args.self.now in
    subst (λ count. c.args.i < count) (slots-all self.batch.now c.log-log.ensures.of_log (g.T.ReadSource.as_reader self.source).index) c.requires.within
