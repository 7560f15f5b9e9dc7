use Rattle.evaluation.proofs.Asked.{asked_seen}
use Rattle.evaluation.proofs.records.ShownRecordsRecords.next_to.Goals as goal

pub returns-clause-asked : goal.returns-clause-asked
returns-clause-asked g c =
    let self = c.args.self.now in
    asked_seen self.batch.now (g.T.ReadSource.as_reader self.source).index c.log-log.ensures.of_log
