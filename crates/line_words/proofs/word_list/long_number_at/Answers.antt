use Rattle.std.proofs.Common.{refl}
use Rattle.line_words.specs.Words.{words_from}
use Rattle.line_words.proofs.TakenWords.{number_word}
use Rattle.line_words.proofs.word_list.long_number_at.Goals as goal

pub returns-then-ends_at-clause-number : goal.returns-then-ends_at-clause-number
returns-then-ends_at-clause-number c = λ some.
    let d = c.digits_from-number in
    number_word c.args.line.now c.args.start d.result.1 d.result.0 (words_from c.args.start c.args.line.now) refl some d.ensures.within d.ensures.few
    d.ensures.digits d.ensures.value (λ zero_first. absurd (c.if-line-start-eq48.false zero_first)) c.if-ends_at.ensures
