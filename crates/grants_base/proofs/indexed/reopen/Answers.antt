use Rattle.std.proofs.Common.{sym, ◌∙◌, ap}
use Rattle.grants_base.specs.Book.{reopened}
use Rattle.grants_base.proofs.RevokeLaws.{map_step}
use Rattle.grants_base.proofs.indexed.reopen.Goals as goal

pub loop-entry-preserved : goal.loop-entry-preserved
loop-entry-preserved c =
    let f = reopened c.args.place in
    map_step f c.args.records.now c.loop-entry.entry-index c.entry-item.result c.loop-entry.records c.reopened.result c.loop-entry.invariant c.entry-item.is
    (c.reopened.ensures ∙ ap f (sym c.entry-item.is))
