-- A word that is missing.
use Rattle.std.proofs.Common.{◌≡◌, [], Some, ap}
use Rattle.std.specs.Prelude.{is_some}
use Rattle.line_words.specs.declared.fault.LineFault.TheVariants.{BadNumber}
use Rattle.line_words.specs.Faults.{unless}
use Rattle.line_words.proofs.Whole.{whole_empty}
use Rattle.log_text.specs.Fault.{misfit, OfWhole}

-- a missing word is no whole number
pub whole_missing : misfit OfWhole [] ≡ Some BadNumber
whole_missing = ap (λ o. unless (is_some o) BadNumber) whole_empty
