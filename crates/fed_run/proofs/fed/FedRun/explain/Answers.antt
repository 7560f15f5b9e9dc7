use Rattle.std.proofs.Common.{◌≡◌, ◌++◌, ◌∙◌, ℕ, List, Some, ap, arith, subst}
use Rattle.explain.specs.Explained.{explained}
use Rattle.explain.specs.declared.line.Line.{Line}
use Rattle.engine.specs.Engine.{Run, finished}
use Rattle.report.specs.Report.{place_text}
use Rattle.audit_text.specs.Explanation.{explanation_text}
use Rattle.fed_run.proofs.FedExplained.{fed_explains}
use Rattle.fed_run.proofs.fed.FedRun.explain.Goals as goal

pub returns-clause-told : goal.returns-clause-told
returns-clause-told c =
    let place = c.args.place in
    let run : Run = c.engine-engine.result.now in
    let lines : List Line = c.in_ok-found.found.lines.items in
    let explanation : Run → List ℕ = λ r. explanation_text r.log.statements r.log.names lines in
    let first : Run → List ℕ = λ r. place_text r.log.statements r.log.names place in
    let granted = c.explanations_name_earlier_grants.ensures.later run.log.statements place (finished run) lines c.in_ok-found.ensures.lines
    (omega (arith, c.args.self.now.steady.ran.0, ap finished c.engine-engine.ensures, c.reported.ensures, c.if-place-reported.false)) in
    let text = c.in_ok-put_explanation.ensures (λ _. granted) ∙ ap (λ (w : List ℕ). w ++ explanation run) c.in_ok-put_place.ensures
    ∙ ap (λ (w : List ℕ). w ++ first run ++ explanation run) c.requires in
    fed_explains c.args.self.now place lines _
    (subst (λ (r : Run). explained r.log.statements place ≡ Some lines) c.engine-engine.ensures c.in_ok-found.ensures.lines)
    (subst (λ (r : Run). c.put_explanation.new.text.items ≡ first r ++ explanation r) c.engine-engine.ensures text)
