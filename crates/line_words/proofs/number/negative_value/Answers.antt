use Rattle.std.proofs.Common.{arith, sym, ap, ◌∙◌, Some}
use Rattle.line_words.proofs.Whole.{minus_unnatural, minus_zero, minus_large, minus_number, negated}
use Rattle.line_words.proofs.number.negative_value.Goals as goal

pub returns-in_default : goal.returns-in_default
returns-in_default c = sym (minus_unnatural c.args.digits.now c.in_default.ensures)

pub returns-then-size-eq0 : goal.returns-then-size-eq0
returns-then-size-eq0 c = sym (minus_zero c.args.digits.now c.in-Some.size c.in-Some.ensures.0 c.if-size-eq0.true)

pub returns-then-size-gt9223372036854775808 : goal.returns-then-size-gt9223372036854775808
returns-then-size-gt9223372036854775808 c =
    sym (minus_large c.args.digits.now c.in-Some.size c.in-Some.ensures.0 c.in-Some.ensures.1 (omega arith))

pub returns : goal.returns
returns c =
    ap Some (negated c.in-Some.size c.if-size-eq0.false (omega arith)) ∙ sym (minus_number c.args.digits.now c.in-Some.size c.in-Some.ensures.0 c.if-size-eq0.false (omega arith))
