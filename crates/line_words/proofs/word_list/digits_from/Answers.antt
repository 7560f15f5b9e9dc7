use Rattle.std.proofs.Common.{◌+◌, ◌*◌, ap, ◌∙◌, arith}
use Rattle.line_words.proofs.TakenWords.{digit_more}
use Rattle.line_words.proofs.word_list.digits_from.Goals as goal

pub overflow_mul-value : goal.overflow_mul-value
overflow_mul-value c =
    let i = c.loop-place.invariant in
    let r = c.if-is_ascii_digit.ensures.cases in
    let more = digit_more c.args.line.now c.args.start c.loop-place.place c.loop-place.value i.behind (omega arith) (omega arith) i.digits i.value r.0 r.1 in
    omega (arith, more.2)

pub overflow_add-value : goal.overflow_add-value
overflow_add-value c =
    let i = c.loop-place.invariant in
    let r = c.if-is_ascii_digit.ensures.cases in
    let more = digit_more c.args.line.now c.args.start c.loop-place.place c.loop-place.value i.behind (omega arith) (omega arith) i.digits i.value r.0 r.1 in
    let f = c.from.ensures in
    omega (arith, more.2, f, r)

pub loop-place-preserved : goal.loop-place-preserved
loop-place-preserved c =
    let i = c.loop-place.invariant in
    let r = c.if-is_ascii_digit.ensures.cases in
    let more = digit_more c.args.line.now c.args.start c.loop-place.place c.loop-place.value i.behind (omega arith) (omega arith) i.digits i.value r.0 r.1 in
    let f = c.from.ensures in
    record {
      behind = omega arith;
      few = omega arith;
      within = omega arith;
      digits = more.0;
      value = ap (λ d. c.loop-place.value * 10 + d) f ∙ more.1;
    }
