-- The words of the five operations.
use Rattle.std.proofs.Common.{◌≡◌, false, refl}
use Rattle.log_text.specs.Fault.{is_deed}
use Rattle.line_words.specs.StepWords.{operation_word}
use Rattle.model_base.specs.declared.statement.Operation.{Operation}
use Rattle.model_base.specs.declared.statement.Operation.TheVariants.{Add, Sub, Mul, Less, Same}

-- begins no deed
pub begins_no_deed : (operation : Operation) → is_deed (operation_word operation) ≡ false
begins_no_deed Add = refl
begins_no_deed Sub = refl
begins_no_deed Mul = refl
begins_no_deed Less = refl
begins_no_deed Same = refl
