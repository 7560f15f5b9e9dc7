use Rattle.std.proofs.Common.{◌≡◌, ◌+◌, ◌-◌, ◌≤◌, ◌++◌, List, ℕ, length, min, take, ◌∙◌, arith}
use Rattle.std.proofs.lemmas.List.{length-take}
use Rattle.summary.proofs.Pieces.{kept-piece, ok-so}
use Rattle.summary.proofs.counting.keep.Goals as goal

pub returns : goal.returns
returns c =
    let head : List ℕ = c.args.head.now.items in
    let piece : List ℕ = c.args.piece.now in
    let tried = c.try_extend_from_slice-fits in
    let long : length head ≤ 64 = omega (arith, c.len-room.ensures.value, c.len-room.ensures.fits) in
    let count : c.min-count.result ≡ min (64 - length head) (length piece) = omega (arith, c.min-count.ensures, c.len-room.ensures.value) in
    ok-so tried.result _ (tried.ensures.variant.1 (omega (arith, long, count, length-take c.min-count.result piece))) tried.ensures.ok ∙ kept-piece head piece c.min-count.result long count
