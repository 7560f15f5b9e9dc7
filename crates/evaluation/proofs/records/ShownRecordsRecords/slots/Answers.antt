use Rattle.std.proofs.Common.{sym, ◌∙◌}
use Rattle.evaluation.proofs.Slots.{slots-all}
use Rattle.evaluation.proofs.records.ShownRecordsRecords.slots.Goals as goal

pub returns : goal.returns
returns g c =
    let self = c.args.self.now in
    c.slot_count.ensures.value ∙ sym (slots-all self.batch.now c.slot_count.ensures.of_log (g.T.ReadSource.as_reader self.source).index)
