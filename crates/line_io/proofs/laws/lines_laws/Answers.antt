-- The laws of lines, by their lemmas.
use Rattle.line_io.proofs.LinesLaws.{lines_first, lines_cut, lines_last}
use Rattle.line_io.proofs.laws.lines_laws.Goals as goal

pub returns-clause-first : goal.returns-clause-first
returns-clause-first c = lines_first

pub returns-clause-cut : goal.returns-clause-cut
returns-clause-cut c = lines_cut

pub returns-clause-last : goal.returns-clause-last
returns-clause-last c = lines_last
