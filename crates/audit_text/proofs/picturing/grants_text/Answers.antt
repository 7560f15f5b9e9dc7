use Rattle.std.proofs.lemmas.Result.{on_ok_weaker}
use Rattle.audit_text.proofs.Failing.{rises}
use Rattle.audit_text.proofs.Pictured.{begun, ends_before, pictured}
use Rattle.audit_text.proofs.picturing.grants_text.Goals as goal

pub returns-clause-text : goal.returns-clause-text
returns-clause-text g c =
    let log = c.in_ok-engine.ensures.log in (
      pictured _ _ _ _ _ c.args.limit log c.write_picture.ensures.done,
      begun _ _ _ _ c.args.limit log c.write_picture.ensures.begun,
    )

pub returns-clause-none : goal.returns-clause-none
returns-clause-none g c places is =
    let told = c.write_picture.ensures.none places is in
    (told.0, ends_before _ _ c.args.limit places c.in_ok-engine.ensures.log told.1 told.2)

pub returns-clause-failures : goal.returns-clause-failures
returns-clause-failures g c =
    let whole = on_ok_weaker c.write_picture.result (λ same. (c.in_ok-engine.ensures.other (λ is. cc), same)) c.write_picture.ensures.whole in (
      (λ is _. absurd (c.write_picture.ensures.read is), λ is room. rises _ _ (c.write_picture.ensures.write is) room),
      (whole, c.write_picture.ensures.flushed),
    )
