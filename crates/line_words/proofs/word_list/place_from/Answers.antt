use Rattle.std.proofs.Common.{arith, eq-eqb, get_or}
use Rattle.line_words.proofs.Splits.{place_is}
use Rattle.line_words.proofs.word_list.place_from.Goals as goal

pub returns-else-bytes-place-clause-value : goal.returns-else-bytes-place-clause-value
returns-else-bytes-place-clause-value c =
    let w = c.args.bytes.now in
    let i = c.loop-place.place in
    place_is w c.args.value c.args.start i c.loop-place.invariant.behind c.loop-place.invariant.within c.loop-place.invariant.before
    (λ lt. eq-eqb (get_or w i 0) c.args.value c.if-bytes-place.false)

pub returns-after-loop-place-clause-value : goal.returns-after-loop-place-clause-value
returns-after-loop-place-clause-value c =
    place_is c.args.bytes.now c.args.value c.args.start c.loop-place.place c.loop-place.invariant.behind c.loop-place.invariant.within c.loop-place.invariant.before (λ lt. absurd (omega arith))
