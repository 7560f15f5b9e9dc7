use Rattle.std.proofs.Common.{◌≡◌, ◌+◌, List, ap, sym, ◌∙◌, subst, arith}
use Rattle.log_batch.specs.Supplied.{LogRange}
use Rattle.filling.specs.Keys.{Key}
use Rattle.words.specs.Passes.{PassState, gone_on}
use Rattle.words.specs.Views.{In}
use Rattle.filling.specs.declared.placer.Placer.{Placer}
use Rattle.filling.specs.Placers.{AreNewPlacers, with_all_cut}
use Rattle.filling.proofs.Placing.{begin-cut, cut-more, no-placers, not-below, placers-more}
use Rattle.filling.proofs.opening.cut_placers.Goals as goal

pub cut_placer-rest-requires-clause-same_table : goal.cut_placer-rest-requires-clause-same_table
cut_placer-rest-requires-clause-same_table c =
    ap (λ (p : PassState). p.table) c.loop-partition.invariant.0 ∙ ap (λ (p : PassState). p.table) c.requires

pub cut_placer-rest-requires-clause-sole : goal.cut_placer-rest-requires-clause-sole
cut_placer-rest-requires-clause-sole c =
    ap (λ (p : PassState). p.view.sole) c.loop-partition.invariant.0 ∙ ap (λ (p : PassState). p.view.sole) c.requires

pub cut_placer-rest-requires-clause-open : goal.cut_placer-rest-requires-clause-open
cut_placer-rest-requires-clause-open c =
    ap (λ (p : PassState). p.view.placed) c.loop-partition.invariant.0 ∙ ap (λ (p : PassState). p.view.placed) c.requires

pub cut_placer-rest-requires-clause-uncut : goal.cut_placer-rest-requires-clause-uncut
cut_placer-rest-requires-clause-uncut c = λ is.
    let partition = c.loop-partition.partition in
    not-below 0 partition partition (omega arith)
    (subst (λ (p : PassState). In partition p.view.cut) c.loop-partition.invariant.0 is)

pub loop-partition-init : goal.loop-partition-init
loop-partition-init c = (
  begin-cut c.args.batch.now c.args.pass c.requires,
  subst (λ (items : List Placer). AreNewPlacers c.args.batch.now 0 items) (sym c.new-placers.ensures.items) (no-placers c.args.batch.now),
)

pub loop-partition-preserved : goal.loop-partition-preserved
loop-partition-preserved c =
    let partition = c.loop-partition.partition in (
      cut-more c.args.pass c.loop-partition.first c.cut_placer-rest.result.0 partition c.loop-partition.invariant.0 c.cut_placer-rest.ensures.pass,
      subst (λ (items : List Placer). AreNewPlacers c.args.batch.now (partition + 1) items) (sym c.in_ok-push.ensures.items)
          (placers-more c.args.batch.now c.loop-partition.placers.items c.cut_placer-rest.result.1 partition c.loop-partition.invariant.1
          c.cut_placer-rest.ensures.placer),
    )

pub returns : goal.returns
returns c =
    let words = c.args.batch.now in
    let end : c.partition_count-partition-end.result ≡ words.key.batch.partitions =
    c.partition_count-partition-end.ensures.value ∙ ap (λ (r : LogRange). r.partitions) (c.batch-range.ensures ∙ ap (λ (k : Key). k.batch) c.key.ensures) in
    let last : c.loop-partition.partition ≡ words.key.batch.partitions = omega arith in
    subst (λ n. (c.loop-partition.first ≡ gone_on c.args.pass (with_all_cut c.args.pass.view n)) × AreNewPlacers words n c.loop-partition.placers.items)
    last c.loop-partition.invariant
