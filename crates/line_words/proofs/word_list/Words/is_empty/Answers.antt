use Rattle.line_words.proofs.Splits.{is_past}
use Rattle.line_words.proofs.word_list.Words.is_empty.Goals as goal

pub returns : goal.returns
returns c = is_past 32 c.self.inside.line.now c.self.inside.start c.args.self.now c.self.view_is
