use Rattle.std.proofs.Common.{arith, get_or, inl, inr}
use Rattle.std.proofs.lemmas.Option.{slice_get-get_or, slice_get_within}
use Rattle.workers.proofs.Dealing.{set_or_old}
use Rattle.workers.proofs.placing.place_round.Goals as goal

pub loop-placer-init : goal.loop-placer-init
loop-placer-init g c = λ index placer at.
    let placed = c.requires.placed index placer at in
    (placed.0, placed.1, (λ none. absurd (omega (arith, none))))

pub place_one-requires : goal.place_one-requires
place_one-requires g c =
    let placers = c.loop-placer.placers in
    let at = c.loop-placer.placer-index in
    record { same_table = (c.loop-placer.invariant at (get_or placers at c.placer-item.result) (slice_get-get_or placers at c.placer-item.result (omega arith))).0 }

pub loop-placer-preserved : goal.loop-placer-preserved
loop-placer-preserved g c = λ index placer is.
    let placers = c.loop-placer.placers in
    let at = c.loop-placer.placer-index in
    let item = get_or placers at c.placer-item.result in
    let had = c.loop-placer.invariant at item (slice_get-get_or placers at c.placer-item.result (omega arith)) in
    let after = c.place_one.new.placer in
    let further = c.in_ok-place_one.ensures.further c.args.count c.requires.within had.1 in
    elim (set_or_old placers at index after placer is) [
      | inl here ↦ rw here.1 (c.place_one.ensures.same_table, omega (arith, further), (λ _. further))
      | inr there ↦ (let old = c.loop-placer.invariant index placer there.1 in
          (old.0, old.1, (λ below. old.2 (omega (arith, below, there.0)))))
    ]

pub returns : goal.returns
returns g c = λ index placer is.
    let old = c.loop-placer.invariant index placer is in
    (old.0, old.2 (omega (arith, slice_get_within c.loop-placer.placers index placer is, c.loop-placer-test.false)))
