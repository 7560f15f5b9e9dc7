use Rattle.report.specs.Text.{records_listed}
use Rattle.bohm_base.proofs.Named.{outcome-named}
use Rattle.bohm_base.proofs.PlacesTold.{have_named, place_told}
use Rattle.bohm_base.proofs.reported_log.put_named.Goals as goal

pub put_outcome-requires : goal.put_outcome-requires
put_outcome-requires g c =
    rw c.catalog-catalog.ensures.names
    (outcome-named (g.L.ReportedLog.log c.args.log.now) c.args.place c.args.outcome.now c.catalog-catalog.ensures.whole c.requires.came.came)

pub returns : goal.returns
returns g c =
    let log = g.L.ReportedLog.log c.args.log.now in
    let grantees = c.in_ok-grantees.grantees.items in
    place_told log c.args.place c.args.statement.now c.args.outcome.now grantees c.put_outcome.result _ _ c.requires.came
    (λ granted. have_named log.names.version log.statements (records_listed c.args.outcome.now) grantees
    ((rw c.records_of.ensures at c.in_ok-grantees.ensures c.args.place c.requires.finished) granted))
    (rw (c.deref.ensures.value, c.catalog-catalog.ensures.names) at c.put_outcome.ensures)
