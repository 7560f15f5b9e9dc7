use Rattle.std.proofs.Common.{◌≡◌, ◌+◌, ◌-◌, arith, sym, ◌∙◌, subst}
use Rattle.log_batch.specs.Referred.{AreCounts}
use Rattle.log_batch.proofs.AtHand.{counts-more, reference-length}
use Rattle.log_batch.proofs.referred.reference_counts.Goals as goal

pub loop-place-preserved : goal.loop-place-preserved
loop-place-preserved c =
    let log = c.args.log.now.log.statements in
    let first = c.args.range.start in
    let place = c.loop-place.place in
    let low = c.loop-place.invariant.0 in
    let count = c.in_ok-count.ensures ∙ sym (reference-length log first place c.statement.result.now c.statement.ensures.at) in (
      omega arith,
      subst (λ items. AreCounts log first ((place + 1) - first) items) (sym c.in_ok-push.ensures.items)
          (counts-more log first place c.loop-place.counts.items c.in_ok-count.count low count c.loop-place.invariant.1),
    )

pub returns : goal.returns
returns c =
    let last : c.loop-place.place ≡ c.args.range.end = (let most = c.loop-place.auto.place-end c.requires.order in omega arith) in
    subst (λ place. AreCounts c.args.log.now.log.statements c.args.range.start (place - c.args.range.start) c.loop-place.counts.items) last c.loop-place.invariant.1
