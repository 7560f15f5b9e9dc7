-- A log of which nothing is dropped.
use Rattle.std.specs.Prelude.{◌≡◌}
use Rattle.sequencer.specs.Tail.{Tail}
use Rattle.engine.specs.Known.{AreKnown, AreNamed}

-- nothing of the log is dropped, and its statements name tables that are there before them
pub record IsUndropped (tail : Tail) : Type 0 where
  pub whole : tail.dropped ≡ 0
  pub known : AreKnown tail.log.statements
  pub named : AreNamed tail.log.statements
