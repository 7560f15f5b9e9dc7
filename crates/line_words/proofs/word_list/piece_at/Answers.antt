use Rattle.std.proofs.Common.{refl, arith}
use Rattle.line_words.proofs.Splits.{next_piece}
use Rattle.line_words.specs.Words.{split_from}
use Rattle.line_words.proofs.word_list.piece_at.Goals as goal

pub returns : goal.returns
returns c =
    let text = c.args.text.now in
    let start = c.args.start in
    next_piece c.args.value text start c.place_from-end.result (split_from c.args.value start text) refl (omega arith) c.place_from-end.ensures.value c.place_from-end.ensures.bound
