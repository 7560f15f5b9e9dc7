-- The count of failures after one more.
use Rattle.std.proofs.Common.{◌≡◌, ◌<◌, ℕ, arith}
use Rattle.std.specs.Prelude.{◌-◌, ◌^◌}
use Rattle.line_io.specs.Known.{raised}

-- it is greater, unless it is at its end
pub rises : (errors now : ℕ) → now ≡ raised errors → errors < 2 ^ 64 - 1 → errors < now
rises errors now is room = omega (arith, is, room)
