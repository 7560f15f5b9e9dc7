use Rattle.std.proofs.Common.{◌≡◌, true, not}
use Rattle.bohm_core_base.specs.Machine.{all_below, end_of}
use Rattle.bohm_core_base.specs.Serial.{is_end}
use Rattle.bohm_core.proofs.apply.has_none.Given as goal

abbrev pub invariant-loop-slot : goal.invariant-loop-slot
invariant-loop-slot l = all_below (λ slot. not (is_end l.place (end_of l.state slot))) l.slot ≡ true
