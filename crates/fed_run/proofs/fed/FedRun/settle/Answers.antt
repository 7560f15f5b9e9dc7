use Rattle.std.proofs.Common.{◌+◌, ◌++◌, ◌∙◌, ap, refl, sym, List, ℕ}
use Rattle.batched_text.specs.Batching.{lines_text}
use Rattle.fed_run.proofs.FedTexts.{stands_reported, stands_same}
use Rattle.fed_run.proofs.fed.FedRun.settle.Goals as goal

pub returns-clause-stands : goal.returns-clause-stands
returns-clause-stands c =
    let old = c.args.self.now in
    let all = c.in_ok-report.ensures.reports in
    stands_reported old _ c.requires refl refl
    (all.told ∙ ap (λ (w : List ℕ). w ++ lines_text old.run.engine.log (old.run.lines + 1) old.run.reported old.run.waiting.items) c.clear.ensures.items)
    old.steady.counted (record { log = all.ran.log; left = all.left; lines = all.lines; reported = all.reported })

pub returns-in_err-report-clause-stands : goal.returns-in_err-report-clause-stands
returns-in_err-report-clause-stands c =
    let old = c.args.self.now in
    let still = c.in_err-report.ensures.still in
    stands_same old _ refl refl (record { log = still.log; waiting = still.waiting; lines = still.lines; reported = still.reported })
    (c.in_err-report.ensures.err.pending ∙ c.clear.ensures.items ∙ sym c.requires)
