-- A log of which the first statements aren't kept.
use Rattle.std.specs.Prelude.{ℕ}
use Rattle.sequencer.specs.Log.{Accepted}

-- the whole log, and how many of its first statements were dropped
pub record Tail : Type 0 where
  pub log : Accepted
  pub dropped : ℕ
