use Rattle.std.proofs.Common.{◌≡◌, ◌+◌, ◌*◌, ℕ, suc, add-one, set, subst, arith}
use Rattle.words.specs.Layout.{front_word, position}
use Rattle.words.specs.Written.{IsWritten}
use Rattle.words.proofs.Writing.{front-written}
use Rattle.words.proofs.written.write_fronts.Goals as goal

pub loop-partition-preserved : goal.loop-partition-preserved
loop-partition-preserved g c =
    let b = g.K.BatchData.batch c.args.key.now in
    let listed = g.K.BatchData.listed c.args.key.now in
    let partition = c.loop-partition.partition in
    let less = c.loop-partition-test.true in
    let most = c.partitions-partitions.ensures.value in
    let begin = c.requires.begin in
    let at : position b (front_word partition) ≡ c.args.begin + partition * 8 = omega arith in
    rw (add-one partition)
    (subst (λ (n : ℕ). IsWritten b listed (set c.loop-partition.row n c.places-places.result) b.size 0 (suc partition)) at
    (front-written b listed c.loop-partition.row partition c.places-places.result c.loop-partition.invariant (omega arith) c.places-places.ensures.value))
