use Rattle.std.proofs.Common.{◌+◌, ◌∷◌, [], ap, ◌∙◌, sym, refl, arith, get_or}
use Rattle.std.specs.Fmt.{decimal}
use Rattle.line_words.specs.Words.{words_from}
use Rattle.line_words.proofs.Digits.{one_digit}
use Rattle.line_words.proofs.TakenWords.{one_byte}
use Rattle.line_words.proofs.word_list.Words.next_number.Goals as goal

pub returns-then-ends_at : goal.returns-then-ends_at
returns-then-ends_at c =
    let line = c.self.inside.line.now in
    let start = c.self.inside.start in
    let first = get_or line start 0 in
    let r = c.if-not-is_ascii_digit.ensures.cases in
    let f = c.from.ensures in (
      one_byte line start first c.args.self.now c.self.view_is (omega arith) refl (λ same. omega (arith, r, same)) c.if-ends_at.ensures
          ∙ ap (λ w. w ∷ words_from (start + 2) line) (one_digit (first ∷ []) refl (omega (arith, r)) (omega (arith, r)) ∙ ap decimal (sym f)),
      omega (arith, f, r),
    )
