use Rattle.std.proofs.Common.{arith, sym, ap, ◌∙◌, ◌∷◌, Some, w64}
use Rattle.std.proofs.lemmas.Int.{to_z_pos}
use Rattle.line_words.specs.Words.{signed_of}
use Rattle.line_words.proofs.Whole.{plain_unnatural, plain_large, whole_natural, whole_nothing, no_minus}
use Rattle.line_words.proofs.number.whole_value.Goals as goal

pub returns-in_default : goal.returns-in_default
returns-in_default c = sym (whole_nothing c.args.word.now c.in_default.ensures.cases)

pub returns-in_default-natural : goal.returns-in_default-natural
returns-in_default-natural c =
    let w = c.args.word.now in
    sym (plain_unnatural w (no_minus w c.in-Some.first.now c.in-Some.others.now c.in-Some.ensures.cases.0 c.if-first-eq45.false) c.in_default-natural.ensures)

pub returns-then-first-eq45 : goal.returns-then-first-eq45
returns-then-first-eq45 c =
    c.negative_value.ensures ∙ sym (ap signed_of (c.in-Some.ensures.cases.0 ∙ ap (λ b. b ∷ c.in-Some.others.now) c.if-first-eq45.true))

pub returns-then-value-gt9223372036854775807 : goal.returns-then-value-gt9223372036854775807
returns-then-value-gt9223372036854775807 c =
    let w = c.args.word.now in
    sym (plain_large w (no_minus w c.in-Some.first.now c.in-Some.others.now c.in-Some.ensures.cases.0 c.if-first-eq45.false) c.in-Some-natural.value c.in-Some-natural.ensures.0 c.in-Some-natural.ensures.1 (omega arith))

pub returns : goal.returns
returns c = ap Some (to_z_pos w64 c.in-Some-natural.value (omega arith)) ∙ sym (whole_natural c.args.word.now c.in-Some-natural.value c.in-Some-natural.ensures.0 (omega arith))
