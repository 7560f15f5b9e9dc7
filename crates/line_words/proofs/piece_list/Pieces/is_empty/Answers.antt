use Rattle.line_words.proofs.Splits.{is_past}
use Rattle.line_words.proofs.piece_list.Pieces.is_empty.Goals as goal

pub returns : goal.returns
returns c = is_past 44 c.self.inside.word.now c.self.inside.start c.args.self.now c.self.view_is
