use Rattle.std.proofs.Common.{◌∷◌, ◌++◌, List, ℕ, [], arith, take, subst}
use Rattle.summary.specs.Tallied.{IsTallied}
use Rattle.summary.proofs.CutLemmas.{tallied-piece}
use Rattle.summary.proofs.Pieces.{cut-feed-at, done-more, free-all, free-before, three-on, two-on}
use Rattle.summary.proofs.counting.take.Goals as goal

pub loop-feed-preserved : goal.loop-feed-preserved
loop-feed-preserved c =
    let left : List ℕ = c.loop-feed.left.now in
    let feed : ℕ = c.in-Some.feed in
    let done : List ℕ = c.loop-feed.invariant.0 in
    let found = c.in-Some.ensures in
    let piece : List ℕ = take feed left in
    let free = free-before left feed (omega (arith, found.0.high)) found.0.before in (
      done ++ piece ++ 10 ∷ [],
      (
        done-more done c.args.bytes.now left _ piece c.loop-feed.invariant.1.0 (cut-feed-at left feed found.0.high found.1),
        λ text was. (
            let P : List ℕ → Type 0 = λ all. IsTallied all c.end_line.new.counts c.end_line.new.head.items in
            subst P (three-on text done piece) (c.end_line.ensures (text ++ done) free (c.loop-feed.invariant.1.1 text was))
            ),
      ),
    )

pub returns : goal.returns
returns c text was =
    let left : List ℕ = c.loop-feed.left.now in
    let done : List ℕ = c.loop-feed.invariant.0 in
    let P : List ℕ → Type 0 = λ all. IsTallied all c.loop-feed.counts c.keep.new.head.items in
    subst P (two-on text done left c.args.bytes.now c.loop-feed.invariant.1.0)
    (tallied-piece (text ++ done) left c.loop-feed.head.items c.keep.new.head.items c.loop-feed.counts (free-all left c.in_default.ensures) c.keep.ensures
    (c.loop-feed.invariant.1.1 text was))
