use Rattle.std.proofs.Common.{◌≤◌, length, arith, rules}
use Rattle.placing.proofs.Ends.{piece_at, within}
use Rattle.placing.proofs.refs.piece.Goals as goal

pub offset_bounds-references-start_at : goal.offset_bounds-references-start_at
offset_bounds-references-start_at c =
    let bounds = within 0 (length c.args.references.now) c.args.ends.now c.args.index c.requires.sound c.requires.below in
    let low : c.start_at.result ≤ length c.args.references.now = omega (arith, bounds.0, bounds.1, c.start_at.ensures) in
    search rules

pub slice_bounds-result-count : goal.slice_bounds-result-count
slice_bounds-result-count c =
    let bounds = within 0 (length c.args.references.now) c.args.ends.now c.args.index c.requires.sound c.requires.below in
    omega (arith, bounds.0, c.start_at.ensures)

pub slice_bounds-result-start : goal.slice_bounds-result-start
slice_bounds-result-start c =
    let bounds = within 0 (length c.args.references.now) c.args.ends.now c.args.index c.requires.sound c.requires.below in
    omega (arith, bounds.0, c.start_at.ensures)

pub slice_bounds-result-end : goal.slice_bounds-result-end
slice_bounds-result-end c =
    let bounds = within 0 (length c.args.references.now) c.args.ends.now c.args.index c.requires.sound c.requires.below in
    omega (arith, bounds.1)

pub returns : goal.returns
returns c =
    rw c.start_at.ensures (piece_at 0 c.args.ends.now c.args.references.now c.args.index c.requires.below)
