use Rattle.std.proofs.Common.{◌++◌}
use Rattle.summary.proofs.CutLemmas.{tallied-line, tallied-piece}
use Rattle.summary.proofs.counting.end_line.Goals as goal

pub returns : goal.returns
returns c text free was =
    let kept = tallied-piece text c.args.piece.now c.args.head.now.items c.keep.new.head.items c.args.counts.now free c.keep.ensures was in
    let count = rw c.as_slice.ensures.value at c.count.ensures in
    rw c.clear.ensures (tallied-line (text ++ c.args.piece.now) c.keep.new.head.items c.args.counts.now c.count.new.self count kept)
