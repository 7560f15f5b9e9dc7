use Rattle.std.proofs.Common.{◌≡◌, ℕ, length, map, [], ◌∷◌, ◌++◌}
use Rattle.std.specs.Prelude.{decimal}
use Rattle.log_text.specs.Fault.{OfMore, fault_from}
use Rattle.log_text.specs.Parsing.{AreInsertable}
use Rattle.log_text.proofs.parsing.touching.more_registers.Given as goal

abbrev pub invariant-registers : goal.invariant-registers
invariant-registers l = record {
  same : map decimal l.initial.registers ++ l.initial.words ≡ map decimal l.registers ++ l.words;
  insertable : AreInsertable l.registers;
  fits : (version steps outs : ℕ) → fault_from (OfMore version (length l.initial.registers) steps outs ∷ []) l.initial.words ≡ fault_from (OfMore version (length l.registers) steps outs ∷ []) l.words;
}

abbrev pub decreases-registers : goal.decreases-registers
decreases-registers l = length l.words
