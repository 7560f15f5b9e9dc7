use Rattle.std.proofs.Common.{◌≡◌, ◌≤◌, ℕ, None, Some, arith, length}
use Rattle.std.specs.Prelude.{IfSome, List}
use Rattle.std.proofs.lemmas.Result.{on_ok_weaker}
use Rattle.sequencer.specs.Log.{Accepted}
use Rattle.sequencer.specs.Names.{known_number}
use Rattle.audit_text.specs.RowsBefore.{IsLogBefore}
use Rattle.audit_text.proofs.Failing.{rises}
use Rattle.audit_text.proofs.RowsRead.{known-before}
use Rattle.privileges_text.specs.HistoryText.{TellsHistory}
use Rattle.privileges_text.proofs.Told.{begun, lacks, told}
use Rattle.privileges_text.proofs.telling.history_text.Goals as goal

pub returns-clause-text : goal.returns-clause-text
returns-clause-text g c =
    let asked = c.args.asked.now in
    let log = known-before (g.R.Read.remaining c.args.reader.now.inner) c.in_ok-engine.engine.log None c.in_ok-engine.ensures.log (omega arith) in
    let says = λ (l : Accepted). TellsHistory l asked.user.now asked.kind asked.table.now asked.option in (
      told says _ _ _ _ _ None log c.write_history.ensures.done,
      begun says _ _ _ _ None log c.write_history.ensures.begun,
    )

pub returns-clause-user : goal.returns-clause-user
returns-clause-user g c is =
    let log = known-before (g.R.Read.remaining c.args.reader.now.inner) c.in_ok-engine.engine.log None c.in_ok-engine.ensures.log (omega arith) in
    let none = c.write_history.ensures.user is in
    (none.0, lacks (λ (l : Accepted). known_number l.names.users c.args.asked.now.user.now ≡ None) _ _ None log none.1)

pub returns-clause-table : goal.returns-clause-table
returns-clause-table g c is =
    let log = known-before (g.R.Read.remaining c.args.reader.now.inner) c.in_ok-engine.engine.log None c.in_ok-engine.ensures.log (omega arith) in
    let none = c.write_history.ensures.table is in
    (none.0, lacks (λ (l : Accepted). known_number l.names.tables c.args.asked.now.table.now ≡ None) _ _ None log none.1)

pub returns-clause-failures : goal.returns-clause-failures
returns-clause-failures g c =
    let whole = on_ok_weaker c.write_history.result (λ same. (c.in_ok-engine.ensures.other (λ is. cc), same)) c.write_history.ensures.whole in (
      (λ is _. absurd (c.write_history.ensures.read is), λ is room. rises _ _ (c.write_history.ensures.write is) room),
      (whole, c.write_history.ensures.flushed),
    )
