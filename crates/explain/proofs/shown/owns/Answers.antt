use Rattle.std.proofs.Common.{sym, ◌∙◌}
use Rattle.explain.proofs.Showing.{owns_at}
use Rattle.explain.proofs.shown.owns.Goals as goal

pub returns : goal.returns
returns c = λ owners deeds shows. c.eq.ensures ∙ sym (owns_at c.args.book.now owners deeds c.args.user c.args.table c.owner_of.result shows c.requires.covered c.owner_of.ensures)
