use Rattle.std.proofs.Common.{◌≡◌, ℕ, None, Some}
use Rattle.std.proofs.lemmas.Result.{on_ok_weaker}
use Rattle.sequencer.specs.Log.{Accepted}
use Rattle.sequencer.specs.Names.{known_number}
use Rattle.audit_text.proofs.Failing.{rises}
use Rattle.privileges_text.specs.HoldersText.{ListsHolders}
use Rattle.privileges_text.proofs.Told.{begun, lacks, told}
use Rattle.privileges_text.proofs.listing.holders_text.Goals as goal

pub returns-clause-text : goal.returns-clause-text
returns-clause-text g c =
    let log = c.in_ok-engine.ensures.log in
    let says = λ (l : Accepted). ListsHolders l c.args.asked.now.kind c.args.asked.now.table.now in (
      told says _ _ _ _ _ c.args.asked.now.limit log c.write_holders.ensures.done,
      begun says _ _ _ _ c.args.asked.now.limit log c.write_holders.ensures.begun,
    )

pub returns-clause-table : goal.returns-clause-table
returns-clause-table g c is =
    let none = c.write_holders.ensures.none is in
    (none.0, lacks (λ (l : Accepted). known_number l.names.tables c.args.asked.now.table.now ≡ None) _ _ c.args.asked.now.limit c.in_ok-engine.ensures.log none.1)

pub returns-clause-failures : goal.returns-clause-failures
returns-clause-failures g c =
    let whole = on_ok_weaker c.write_holders.result (λ same. (c.in_ok-engine.ensures.other (λ is. cc), same)) c.write_holders.ensures.whole in (
      (λ is _. absurd (c.write_holders.ensures.read is), λ is room. rises _ _ (c.write_holders.ensures.write is) room),
      (whole, c.write_holders.ensures.flushed),
    )
