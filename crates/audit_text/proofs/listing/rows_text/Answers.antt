use Rattle.std.proofs.lemmas.Result.{on_ok_weaker}
use Rattle.audit_text.proofs.Failing.{rises}
use Rattle.audit_text.proofs.RowsRead.{begun, lacks, listed}
use Rattle.audit_text.proofs.listing.rows_text.Goals as goal

pub returns-clause-text : goal.returns-clause-text
returns-clause-text g c =
    let log = c.in_ok-engine.ensures.log in (
      listed _ _ _ _ _ _ c.args.limit log c.write_rows.ensures.done,
      begun _ _ _ _ _ c.args.limit log c.write_rows.ensures.begun,
    )

pub returns-clause-table : goal.returns-clause-table
returns-clause-table g c is =
    let told = c.write_rows.ensures.none is in
    (told.0, lacks _ _ _ c.args.limit c.in_ok-engine.ensures.log told.1)

pub returns-clause-failures : goal.returns-clause-failures
returns-clause-failures g c =
    let whole = on_ok_weaker c.write_rows.result (λ same. (c.in_ok-engine.ensures.other (λ is. cc), same)) c.write_rows.ensures.whole in (
      (λ is _. absurd (c.write_rows.ensures.read is), λ is room. rises _ _ (c.write_rows.ensures.write is) room),
      (whole, c.write_rows.ensures.flushed),
    )
