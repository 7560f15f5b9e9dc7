use Rattle.std.proofs.Common.{◌≡◌, ℕ, ◌+◌, ◌∷◌, ◌++◌, [], length, add-one, ap, arith}
use Rattle.bohm_core_base.specs.Batch.{reference_words}
use Rattle.words.proofs.Begun.{all-referred, one-more_referred}
use Rattle.words.proofs.words.references.Goals as goal

pub loop-index-preserved : goal.loop-index-preserved
loop-index-preserved g c =
    let b = g.K.BatchData.batch c.args.key.now in
    let places = c.places-places.result in
    let index = c.loop-index.index in
    let begins = c.loop-index.begins.items in
    let end = c.loop-index.end + c.references_length-end.result in
    let next : end ≡ c.loop-index.end + length (reference_words b index) = ap (λ (n : ℕ). c.loop-index.end + n) c.references_length-end.ensures.value in
    let more : c.push_reserved.new.self.items ≡ begins ++ c.loop-index.end ∷ [] = c.push_reserved.ensures.items in
    let room = c.loop-index.invariant.room in
    let same = c.push_reserved.ensures.capacity in
    record {
      begun = rw (add-one index, more) (one-more_referred b places index c.loop-index.end end begins c.loop-index.invariant.begun next);
      room = omega arith;
      few = (let so_far = c.loop-index.invariant.few in let one = c.references_length-end.ensures.few in omega arith);
    }

pub returns-clause-begins : goal.returns-clause-begins
returns-clause-begins g c =
    let most = c.loop-index.auto.index-end in
    let least = c.loop-index-test.false in
    all-referred (g.K.BatchData.batch c.args.key.now) c.places-places.result c.loop-index.index c.loop-index.end c.loop-index.begins.items c.loop-index.invariant.begun (omega arith)

pub returns-clause-few : goal.returns-clause-few
returns-clause-few g c =
    let most = c.loop-index.auto.index-end in
    let so_far = c.loop-index.invariant.few in
    let places = c.places-places.ensures.few in
    let begin = c.requires.few in
    omega arith
