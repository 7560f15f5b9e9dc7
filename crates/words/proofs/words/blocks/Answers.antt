use Rattle.std.proofs.Common.{◌≡◌, ℕ, ◌+◌, ◌*◌, ◌/◌, ◌∷◌, ◌++◌, [], add-one, ap, ◌∙◌, arith}
use Rattle.words.specs.Layout.{block_length}
use Rattle.words.proofs.Begun.{all-begun, one-more}
use Rattle.words.proofs.words.blocks.Goals as goal

pub loop-index-preserved : goal.loop-index-preserved
loop-index-preserved g c =
    let b = g.K.BatchData.batch c.args.key.now in
    let places = c.places-places.result in
    let index = c.loop-index.index in
    let begins = c.loop-index.begins.items in
    let ends = c.loop-index.ends + c.block_length-ends.result in
    let next : ends ≡ c.loop-index.ends + block_length b index =
    ap (λ (n : ℕ). c.loop-index.ends + n) (c.block_length-ends.ensures.value ∙ ap (λ (n : ℕ). (n / 8 + 1) * 8) c.words_length.ensures.value) in
    let more : c.push_reserved.new.self.items ≡ begins ++ c.loop-index.ends ∷ [] = c.push_reserved.ensures.items in
    let room = c.loop-index.invariant.room in
    let same = c.push_reserved.ensures.capacity in
    record {
      begun = rw (add-one index, more) (one-more b places index c.loop-index.ends ends begins c.loop-index.invariant.begun next);
      room = omega arith;
      few = (let so_far = c.loop-index.invariant.few in let one = c.block_length-ends.ensures.few in omega arith);
    }

pub returns-clause-begins : goal.returns-clause-begins
returns-clause-begins g c =
    let most = c.loop-index.auto.index-end in
    let least = c.loop-index-test.false in
    all-begun (g.K.BatchData.batch c.args.key.now) c.places-places.result c.loop-index.index c.loop-index.ends c.loop-index.begins.items c.loop-index.invariant.begun (omega arith)

pub returns-clause-few : goal.returns-clause-few
returns-clause-few g c =
    let most = c.loop-index.auto.index-end in
    let so_far = c.loop-index.invariant.few in
    let places = c.places-places.ensures.few in
    omega arith
