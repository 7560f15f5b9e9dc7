use Rattle.std.proofs.Common.{◌<◌, ◌&&◌, length, sym}
use Rattle.model_base.specs.Records.{is_in_force_at}
use Rattle.grants_base.proofs.SlotSetLaws.{set_gained}
use Rattle.privileges.specs.Holders.{gives_by_name}
use Rattle.privileges.proofs.Named.{gained_none, gained_one, named_more}
use Rattle.privileges.proofs.holding.named.Goals as goal
use Rattle.privileges.proofs.holding.named.Goals.{in-Some+in_ok-insert, in_default}

pub loop-record-preserved : goal.loop-record-preserved
loop-record-preserved c =
    let less : c.loop-record.record-index < length c.args.book.now.records = rw (sym c.records-record-items.ensures.records) c.loop-record-test.true in
    named_more (λ user entry. is_in_force_at c.args.place entry && gives_by_name entry.grant user c.args.need.now) c.args.book.now.records
    c.loop-record.record-index c.record-item.result c.loop-record.users.keys c.match-holder_by.users.keys c.holder_by.result less
    (rw c.records-record-items.ensures.records at c.record-item.is) c.holder_by.ensures c.loop-record.invariant
    (elim c.match-holder_by.branch [
      | in-Some+in_ok-insert w ↦
          gained_one c.loop-record.users.keys c.match-holder_by.users.keys c.holder_by.result w.in-Some.user w.in-Some.is
          (set_gained c.loop-record.users c.match-holder_by.users w.in-Some.user (rw w.users-is w.in_ok-insert.ensures.updates))
      | in_default w ↦
          rw w.users-is (gained_none c.loop-record.users.keys c.holder_by.result w.in_default.is)
    ])
