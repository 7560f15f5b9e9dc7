use Rattle.std.proofs.Common.{◌≡◌, ◌++◌, map, take}
use Rattle.std.specs.Prelude.{decimal, string_bytes}
use Rattle.log_text.specs.Parsing.{spaced}
use Rattle.log_text.proofs.printing.push_registers.Given as goal

abbrev pub invariant-loop-register : goal.invariant-loop-register
invariant-loop-register l = string_bytes l.text ≡ string_bytes l.initial.text ++ spaced (map decimal (take l.register-index l.registers))
