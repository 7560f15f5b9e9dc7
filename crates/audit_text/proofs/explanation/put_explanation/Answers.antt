use Rattle.std.proofs.Common.{◌++◌, ◌∙◌, List, ap, arith, subst, sym}
use Rattle.std.proofs.lemmas.List.{take_all}
use Rattle.model_base.specs.RecordGrantees.{WereGranted}
use Rattle.engine.specs.Engine.{finished}
use Rattle.explain.specs.declared.line.Line.{Line}
use Rattle.explain.specs.Lines.{ranks_shown}
use Rattle.audit_text.specs.Explanation.{LinesMayBeSpelled, RecordsMayBeSpelled, explanation_text, need_line_text}
use Rattle.audit_text.proofs.Lines.{spelled-more}
use Rattle.audit_text.proofs.explanation.put_explanation.Goals as goal

pub loop-line-preserved : goal.loop-line-preserved
loop-line-preserved c =
    let run = c.args.engine.now in
    let lines : List Line = c.deref-line-items.result.now in
    let line : Line = c.line-item.result in
    λ may.
    let here : RecordsMayBeSpelled run.log (finished run) (ranks_shown line.shown) =
    λ two. subst (λ (l : Line). WereGranted run.log.statements (finished run) (ranks_shown l.shown)) (sym c.line-item.is)
    (may two c.loop-line.line-index line c.loop-line-test.true) in
    spelled-more (need_line_text run.log.statements run.log.names) lines c.loop-line.line-index line c.args.text.now.items c.loop-line.text.items c.put_line.new.text.items
    c.loop-line-test.true c.line-item.is (c.loop-line.invariant may) (c.in_ok-put_line.ensures here)

pub returns : goal.returns
returns c =
    let run = c.args.engine.now in
    let lines : List Line = c.deref-line-items.result.now in
    let same = c.deref-line-items.ensures.value in
    λ may.
    c.loop-line.invariant (subst (LinesMayBeSpelled run.log (finished run)) (sym same) may)
    ∙ ap (λ (ls : List Line). c.args.text.now.items ++ explanation_text run.log.statements run.log.names ls)
    (take_all c.loop-line.line-index lines (omega (arith, c.loop-line-test.false)) ∙ same)
