use Rattle.std.proofs.Common.{◌≡◌, ◌<◌, ◌+◌, ℕ, suc, add-one, length, set, subst, arith}
use Rattle.bohm_core_base.specs.Batch.{reference_words}
use Rattle.words.specs.Layout.{position, reference_word}
use Rattle.words.specs.Written.{IsWritten}
use Rattle.words.proofs.Showing.{position-below}
use Rattle.words.proofs.Writing.{place-written, reference-written}
use Rattle.words.proofs.written.write_references.Goals as goal

pub overflow_add-row : goal.overflow_add-row
overflow_add-row g c =
    let b = g.K.BatchData.batch c.args.key.now in
    let listed = g.K.BatchData.listed c.args.key.now in
    let less = c.loop-number-test.true in
    let most = c.references_length-number-end.ensures in
    let within : c.loop-number.number < length (reference_words b c.args.index) = omega arith in
    let low = position-below b listed (reference_word c.args.index c.loop-number.number) (c.requires.within, within) in
    let begin = c.requires.begin in
    let wide = c.loop-number.invariant.wide in
    let small = c.loop-number.auto.row in
    omega arith

pub offset_bounds-row-begin : goal.offset_bounds-row-begin
offset_bounds-row-begin g c =
    let b = g.K.BatchData.batch c.args.key.now in
    let listed = g.K.BatchData.listed c.args.key.now in
    let less = c.loop-number-test.true in
    let most = c.references_length-number-end.ensures in
    let within : c.loop-number.number < length (reference_words b c.args.index) = omega arith in
    let low = position-below b listed (reference_word c.args.index c.loop-number.number) (c.requires.within, within) in
    let begin = c.requires.begin in
    let wide = c.loop-number.invariant.wide in
    let small = c.loop-number.auto.row in
    omega arith

pub bounds-row-begin : goal.bounds-row-begin
bounds-row-begin g c =
    let b = g.K.BatchData.batch c.args.key.now in
    let listed = g.K.BatchData.listed c.args.key.now in
    let less = c.loop-number-test.true in
    let most = c.references_length-number-end.ensures in
    let within : c.loop-number.number < length (reference_words b c.args.index) = omega arith in
    let low = position-below b listed (reference_word c.args.index c.loop-number.number) (c.requires.within, within) in
    let begin = c.requires.begin in
    let wide = c.loop-number.invariant.wide in
    omega arith

pub loop-number-preserved : goal.loop-number-preserved
loop-number-preserved g c =
    let b = g.K.BatchData.batch c.args.key.now in
    let listed = g.K.BatchData.listed c.args.key.now in
    let number = c.loop-number.number in
    let less = c.loop-number-test.true in
    let most = c.references_length-number-end.ensures in
    let within : number < length (reference_words b c.args.index) = omega arith in
    let begin = c.requires.begin in
    let at : position b (reference_word c.args.index number) ≡ c.args.begin + number = omega arith in
    rw (add-one number)
    (subst (λ (n : ℕ). IsWritten b listed (set c.loop-number.row n c.reference_word.result) c.args.index (suc number) 0) at
    (reference-written b listed c.loop-number.row c.args.index number c.reference_word.result c.loop-number.invariant c.requires.within within c.reference_word.ensures))

pub returns : goal.returns
returns g c =
    let b = g.K.BatchData.batch c.args.key.now in
    let listed = g.K.BatchData.listed c.args.key.now in
    let most = c.references_length-number-end.ensures in
    let least = c.loop-number-test.false in
    let end = c.loop-number.auto.number-end in
    rw (add-one c.args.index)
    (place-written b listed c.loop-number.row c.args.index c.loop-number.number c.loop-number.invariant (omega arith))
