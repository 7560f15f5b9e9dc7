use Rattle.std.proofs.Common.{ap, ◌∙◌}
use Rattle.grants_base.specs.View.{covers}
use Rattle.evaluation.specs.Seen.{seen_at, seen_view}
use Rattle.evaluation.proofs.Slots.{covers-listed}
use Rattle.evaluation.proofs.records.ShownRecordsRecords.covers.Goals as goal

pub returns : goal.returns
returns g c =
    let ranged = c.args.self.now.batch.now in
    let table = c.args.table in
    c.is_on.ensures
    ∙ covers-listed ranged c.statement.ensures.whole c.reader.result c.statement.result.now c.statement.ensures.at table
    ∙ ap (λ index. covers (seen_view (seen_at ranged index)) table) c.reader.ensures.value
