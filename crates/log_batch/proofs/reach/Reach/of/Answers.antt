use Rattle.std.proofs.Common.{◌≡◌, ℕ, length, arith, subst}
use Rattle.bohm_core_base.specs.Batch.{batch_slots}
use Rattle.log_batch.specs.Supplied.{batch_of}
use Rattle.log_batch.specs.Reach.{IsReach}
use Rattle.log_batch.proofs.reach.Reach.of.Goals as goal

pub returns : goal.returns
returns c =
    let b = batch_of c.args.batch.now in
    let last : c.loop-slot.slot ≡ length (batch_slots b) = omega arith in
    subst (λ (n : ℕ). IsReach b n c.loop-slot.reach) last c.loop-slot.invariant
