-- Words of rows.
use Rattle.std.proofs.Common.{◌≡◌, ◌≢◌, ℕ, ◌<◌, false, eqb, List, [], ◌∷◌, length, get_or, Some, None, refl, arith}
use Rattle.std.specs.Prelude.{decimal}
use Rattle.std.proofs.lemmas.Str.Parse.{digit_at}
use Rattle.std.proofs.lemmas.Fmt.{decimal_is_IsNumeral}
use Rattle.std.proofs.lemmas.Bool.{ne_eqb, lt-ltb}
use Rattle.model_base.specs.declared.statement.RowName.{RowName}
use Rattle.model_base.specs.declared.statement.RowName.TheVariants.{Number, Held}
use Rattle.log_text.specs.Statement.{row_word, IsRowNumber}
use Rattle.log_text.specs.Fault.{misfit, OfRow, register_fault, row_fault}
use Rattle.line_words.specs.Words.{plain}
use Rattle.line_words.proofs.Plain.{plain_of_decimal}

pub register_fits : (n : ℕ) → n < 16 → register_fault (plain (decimal n)) ≡ None
register_fits n low = rw (plain_of_decimal n (omega arith), lt-ltb n 16 low) refl

numbered : (w : List ℕ) (n : ℕ) → 0 < length w → get_or w 0 0 ≢ 114 → plain w ≡ Some n → row_fault w ≡ None
numbered [] n some ne e = absurd (omega arith)
numbered (b ∷ bs) n some ne e = let f : eqb b 114 ≡ false = ne_eqb b 114 ne in rw (f, e) refl

pub row_fits : (r : RowName) → IsRowNumber r → misfit OfRow (row_word r) ≡ None
row_fits (Number n) h =
    let p = (decimal_is_IsNumeral n (omega (arith, h))).0 in
    let d = digit_at (decimal n) 0 p.1 p.0 in
    numbered (decimal n) n p.0 (omega (arith, d)) (plain_of_decimal n h)
row_fits (Held n) h = register_fits n h
