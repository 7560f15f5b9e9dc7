use Rattle.std.proofs.Common.{◌≡◌, ◌++◌, take}
use Rattle.std.specs.Prelude.{string_bytes}
use Rattle.std.specs.List.{flat_map}
use Rattle.log_text.specs.Parsing.{spaced}
use Rattle.log_text.specs.Statement.{further_step}
use Rattle.log_text.proofs.printing.push_steps.Given as goal

abbrev pub invariant-loop-step : goal.invariant-loop-step
invariant-loop-step l = string_bytes l.text ≡ string_bytes l.initial.text ++ spaced (flat_map further_step (take l.step-index l.steps))
