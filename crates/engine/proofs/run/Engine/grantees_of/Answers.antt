use Rattle.std.proofs.Common.{◌≡◌, ◌∙◌, List, Some, Vec, ap, map, rules, sym}
use Rattle.std.specs.declared.alloc.Global.{Global}
use Rattle.std.proofs.lemmas.Result.{IfOk-weaker}
use Rattle.model_base.specs.declared.deed.Grantee.{Grantee}
use Rattle.model_base.specs.declared.deed.Record.{Record}
use Rattle.model_base.specs.Laws.{IsRising}
use Rattle.model_base.specs.RecordGrantees.{WereGranted, grantee_at}
use Rattle.model_base.specs.Records.{recorded}
use Rattle.engine.specs.Engine.{finished}
use Rattle.engine.specs.Grantees.{recorded_grantees}
use Rattle.engine.proofs.Granted.{grantees_told}
use Rattle.engine.proofs.run.Engine.grantees_of.Goals as goal

pub returns : goal.returns
returns c =
    let run = c.args.self.now in
    let log = run.log.statements in
    let names = c.args.names.now in
    let same : c.records.result.now ≡ run.book.records = search rules in
    let rising : IsRising (recorded run.book.records) = search rules in
    IfOk-weaker c.recorded_grantees.result
    (λ (found : Vec Grantee Global). found.items ≡ recorded_grantees c.records.result.now names)
    (λ (found : Vec Grantee Global). WereGranted log (finished run) names → map (grantee_at log) names ≡ map Some found.items)
    (λ found is were.
    grantees_told log (finished run) run.book c.book-book.ensures.shows rising c.records_name_grantees.ensures.granted names were
    ∙ ap (λ (entries : List Record). map Some (recorded_grantees entries names)) (sym same) ∙ ap (map Some) (sym is))
    c.recorded_grantees.ensures
