use Rattle.std.proofs.Common.{◌≡◌, ℕ, length, ap, ◌∙◌, arith}
use Rattle.engine.specs.Engine.{Run, finished}
use Rattle.sequencer.specs.Log.{Accepted}
use Rattle.batched_text.specs.Settings.{mark_behind}
use Rattle.batched_text.specs.declared.settings.Settings.{Settings}
use Rattle.batched_text.proofs.line_run.run_batch.Goals as goal

pub trim_to-requires-clause-order : goal.trim_to-requires-clause-order
trim_to-requires-clause-order g c =
    let old : Run = c.args.engine.now in
    let settings : Settings = c.args.runner.now.plan.settings in
    let start : c.finished-start.result ≡ finished old = omega (arith, c.finished-start.ensures.count) in
    let end : c.len-end.result ≡ length old.log.statements =
    omega (arith, c.len-end.ensures.count, ap (λ (log : Accepted). length log.statements) c.log.ensures.value) in
    let same : mark_behind settings c.finished-start.result c.len-end.result ≡ mark_behind settings (finished old) (length old.log.statements) =
    ap (λ (n : ℕ). mark_behind settings n c.len-end.result) start ∙ ap (mark_behind settings (finished old)) end in
    omega (arith, c.in_ok-run_to.ensures.runs.mark, c.requires.mark, c.mark_behind.ensures, same)
