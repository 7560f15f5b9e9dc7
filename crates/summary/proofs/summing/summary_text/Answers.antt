use Rattle.std.proofs.lemmas.Result.{on_ok_weaker}
use Rattle.summary.proofs.Summed.{all-written, begun-written, rises}
use Rattle.summary.proofs.summing.summary_text.Goals as goal

pub returns-in-Ok-clause-text : goal.returns-in-Ok-clause-text
returns-in-Ok-clause-text g c =
    let report = c.in-Ok.ensures.report in (
      all-written _ _ _ _ _ c.write_counts.result report c.counts.ensures c.write_counts.ensures.done,
      begun-written _ _ _ _ _ report c.counts.ensures c.write_counts.ensures.begun,
    )

pub returns-in-Ok-clause-failures : goal.returns-in-Ok-clause-failures
returns-in-Ok-clause-failures g c =
    let whole = on_ok_weaker c.write_counts.result (λ same. (c.in-Ok.ensures.whole, same)) c.write_counts.ensures.whole in (
      (λ is _. absurd (c.write_counts.ensures.read is), λ is room. rises _ _ (c.write_counts.ensures.write is) room),
      (whole, c.write_counts.ensures.flushed),
    )
