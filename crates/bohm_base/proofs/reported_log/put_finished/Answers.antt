use Rattle.std.proofs.Common.{◌≡◌, [], ap, sym, ◌∙◌, subst}
use Rattle.log_text.specs.declared.version.Version.{Version}
use Rattle.sequencer.specs.Catalog.{Names}
use Rattle.report.specs.Text.{HaveGrantees, records_listed}
use Rattle.bohm_base.proofs.Named.{outcome-named}
use Rattle.bohm_base.proofs.PlacesTold.{place_told}
use Rattle.bohm_base.proofs.reported_log.put_finished.Goals as goal

pub put_outcome-requires : goal.put_outcome-requires
put_outcome-requires g c =
    rw c.catalog-catalog.ensures.names
    (outcome-named (g.L.ReportedLog.log c.args.log.now) c.args.place c.args.outcome.now c.catalog-catalog.ensures.whole c.requires.came.came)

pub returns-in-One : goal.returns-in-One
returns-in-One g c =
    let log = g.L.ReportedLog.log c.args.log.now in
    let one : log.names.version ≡ Version.One =
    sym (c.version.ensures ∙ ap (λ (n : Names). n.version) c.catalog-catalog.ensures.names) ∙ c.in-One.is in
    place_told log c.args.place c.args.statement.now c.args.outcome.now [] c.put_outcome.result _ _ c.requires.came
    (λ _. subst (λ (v : Version). HaveGrantees v log.statements (records_listed c.args.outcome.now) []) (sym one) tt)
    (rw c.catalog-catalog.ensures.names at c.put_outcome.ensures)
