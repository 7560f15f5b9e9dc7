use Rattle.std.proofs.Common.{take}
use Rattle.log_batch.specs.Supplied.{batch_of}
use Rattle.log_batch.specs.Reach.{AddsGrantees}
use Rattle.log_batch.proofs.reach.put_revocation.Given as goal

abbrev pub invariant-loop-index : goal.invariant-loop-index
invariant-loop-index l =
    AddsGrantees (batch_of l.batch) l.revocation (take l.index l.revocation.grantees) l.initial.revoked l.revoked l.initial.due.keys l.due.keys
