use Rattle.std.proofs.Common.{arith}
use Rattle.line_words.proofs.Digits.{value_more, all_digits_more, next_low, no_digit}
use Rattle.line_words.proofs.number.digits.Goals as goal

pub returns-then-not-is_ascii_digit : goal.returns-then-not-is_ascii_digit
returns-then-not-is_ascii_digit c =
    λ h. no_digit c.args.word.now c.loop-byte.byte-index h c.loop-byte-test.true c.if-not-is_ascii_digit.ensures.value

pub overflow_mul-value : goal.overflow_mul-value
overflow_mul-value c =
    let r = c.if-not-is_ascii_digit.ensures.cases in
    let low = next_low c.args.word.now c.loop-byte.byte-index c.loop-byte-test.true c.requires c.loop-byte.invariant.digits r.0 r.1 in
    let e = c.loop-byte.invariant.value in
    omega arith

pub overflow_add-value : goal.overflow_add-value
overflow_add-value c =
    let r = c.if-not-is_ascii_digit.ensures.cases in
    let low = next_low c.args.word.now c.loop-byte.byte-index c.loop-byte-test.true c.requires c.loop-byte.invariant.digits r.0 r.1 in
    let e = c.loop-byte.invariant.value in
    let f = c.from.ensures in
    omega arith

pub loop-byte-preserved : goal.loop-byte-preserved
loop-byte-preserved c =
    let r = c.if-not-is_ascii_digit.ensures.cases in
    let w = c.args.word.now in
    let i = c.loop-byte.byte-index in
    let e = value_more w i c.loop-byte-test.true r.0 r.1 in
    let f = c.loop-byte.invariant.value in
    let g = c.from.ensures in
    record {
      digits = all_digits_more w i c.loop-byte-test.true c.loop-byte.invariant.digits r.0 r.1;
      value = omega arith;
    }
