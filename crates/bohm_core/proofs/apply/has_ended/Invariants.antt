use Rattle.std.proofs.Common.{◌≡◌, true}
use Rattle.std.specs.Prelude.{if◌then◌else◌}
use Rattle.bohm_core_base.specs.Machine.{all_below, end_of, must_end}
use Rattle.bohm_core_base.specs.Serial.{is_end}
use Rattle.bohm_core.proofs.apply.has_ended.Given as goal

abbrev pub invariant-loop-slot : goal.invariant-loop-slot
invariant-loop-slot g l =
    all_below (λ slot. if must_end (g.S.Statements.batch l.statements) l.state l.index slot then is_end l.place (end_of l.state slot) else true) l.slot
    ≡ true
