use Rattle.own_words.proofs.Undoing.{row_told}
use Rattle.own_words.proofs.laws.rows_are_told.Goals as goal

pub returns : goal.returns
returns c = row_told
