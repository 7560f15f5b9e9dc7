use Rattle.std.proofs.Common.{sym, ◌∙◌, ap}
use Rattle.model_base.specs.Records.{ended_at}
use Rattle.grants_base.proofs.RevokeLaws.{map_step}
use Rattle.trials_base.proofs.plain_book.close.Goals as goal

pub loop-entry-preserved : goal.loop-entry-preserved
loop-entry-preserved c =
    let f = ended_at c.args.place c.args.ended.now in
    map_step f c.args.records.now c.loop-entry.entry-index c.entry-item.result c.loop-entry.records c.ended_at.result c.loop-entry.invariant c.entry-item.is
    (c.ended_at.ensures ∙ ap f (sym c.entry-item.is))
