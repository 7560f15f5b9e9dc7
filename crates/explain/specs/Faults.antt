-- The texts of faults.
use Rattle.std.specs.Prelude.{ℕ, List, codes}
use Rattle.explain.specs.declared.fault.ExplainFault.{ExplainFault}

-- what a fault says to a reader
abbrev pub explain_fault_text : ExplainFault → List ℕ
explain_fault_text ExplainFault.NoSuchPlace = codes "no such place"
explain_fault_text ExplainFault.NotFinished = codes "not finished"
explain_fault_text ExplainFault.NoMemory = codes "out of memory"
explain_fault_text ExplainFault.Forgotten = codes "forgotten"
