use Rattle.std.proofs.Common.{arith, sym, ap, ◌∙◌}
use Rattle.std.specs.Fmt.{decimal}
use Rattle.std.proofs.lemmas.Bool.{eqb-true, eqb-false}
use Rattle.std.specs.Prelude.{length}
use Rattle.line_words.proofs.Digits.{not_empty_form, not_long_form, not_zero_form, digits_form, all_digits_of, one_digit}
use Rattle.line_words.proofs.number.natural.Goals as goal

pub returns-then-is_empty : goal.returns-then-is_empty
returns-then-is_empty c = λ n low e. not_empty_form c.args.word.now n (eqb-true (length c.args.word.now) 0 (sym c.if-is_empty.ensures)) low e

pub returns-then-is_ascii_digit : goal.returns-then-is_ascii_digit
returns-then-is_ascii_digit c =
    let r = c.if-is_ascii_digit.ensures.cases in
    (one_digit c.args.word.now c.if-word-eq1.true r.0 r.1 ∙ ap decimal (sym c.from.ensures), omega (arith, c.from.ensures, r.1))

pub returns-then-word-gt19 : goal.returns-then-word-gt19
returns-then-word-gt19 c = λ n low e. not_long_form c.args.word.now n (omega arith) low e

pub returns-then-word-gt1 : goal.returns-then-word-gt1
returns-then-word-gt1 c = λ n low e. not_zero_form c.args.word.now n (omega arith) (omega arith) low e

pub returns-in_default : goal.returns-in_default
returns-in_default c = λ n low e. c.in_default.ensures (all_digits_of c.args.word.now n low e)

pub returns : goal.returns
returns c =
    let w = c.args.word.now in
    let some = eqb-false (length w) 0 (sym c.if-is_empty.ensures) in
    let e = c.else-word-eq48.either in
    digits_form w c.in-Some.value c.in-Some.ensures.0 c.in-Some.ensures.1 (omega arith) (omega arith) (λ z. omega (arith, e, z))
