use Rattle.std.proofs.Common.{arith}
use Rattle.log_batch.specs.Supplied.{batch_of}
use Rattle.filling.proofs.completion.running.taken.Goals as goal

pub take_ends-requires-clause-none : goal.take_ends-requires-clause-none
take_ends-requires-clause-none c = c.new-progress.ensures.none

pub returns-clause-stands : goal.returns-clause-stands
returns-clause-stands c =
    let stands = c.new-progress.ensures.stands (batch_of c.args.key.now.batch) in
    record {
      many = stands.many;
      own = λ index less. absurd (omega arith);
      ended = λ index less. absurd (omega arith);
      told = c.in_ok-take_ends.ensures.told;
    }
