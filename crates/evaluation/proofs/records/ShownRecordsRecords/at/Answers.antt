use Rattle.std.proofs.Common.{ap, arith}
use Rattle.bohm_core_base.specs.Batch.{Batch}
use Rattle.evaluation.proofs.Slots.{lawful_seen}
use Rattle.evaluation.proofs.records.ShownRecordsRecords.at.Goals as goal

pub returns-clause-lawful : goal.returns-clause-lawful
returns-clause-lawful g c =
    let self = c.args.self.now in
    let size = ap (λ (batch : Batch). batch.size) self.same in
    lawful_seen self.batch.now c.first_place.ensures.of_log (g.T.ReadSource.as_reader self.source).index
    (omega (arith, c.reader.ensures.within, c.reader.ensures.value, size))
