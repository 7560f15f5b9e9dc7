use Rattle.std.proofs.Common.{arith, sym}
use Rattle.line_words.proofs.Plain.{plain_unnatural, plain_natural, plain_large}
use Rattle.line_words.proofs.number.plain_value.Goals as goal

pub returns-in_default : goal.returns-in_default
returns-in_default c = sym (plain_unnatural c.args.word.now c.in_default.ensures)

pub returns-then-value-gt4294967295 : goal.returns-then-value-gt4294967295
returns-then-value-gt4294967295 c = sym (plain_large c.args.word.now c.in-Some.value c.in-Some.ensures.0 c.in-Some.ensures.1 (omega arith))

pub returns : goal.returns
returns c = sym (plain_natural c.args.word.now c.in-Some.value c.in-Some.ensures.0 (omega arith))
