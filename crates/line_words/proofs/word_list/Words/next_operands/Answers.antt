use Rattle.std.proofs.Common.{◌≡◌, ◌+◌, ◌-◌, ◌∷◌, [], ℕ, List, length, take, drop, get_or, length-drop, ap, ◌∙◌, sym, arith}
use Rattle.std.specs.Fmt.{decimal}
use Rattle.std.proofs.lemmas.List.{take_all, get_or-drop}
use Rattle.line_words.specs.Words.{words_from}
use Rattle.line_words.proofs.TakenWords.{operand_words}
use Rattle.line_words.proofs.word_list.Words.next_operands.Goals as goal

pub returns : goal.returns
returns c =
    let line = c.self.inside.line.now in
    let start = c.self.inside.start in
    let long : length (drop start line) ≡ length line - start = length-drop start line in
    let text : take (length line - start) (drop start line) ≡ drop start line = take_all (length line - start) (drop start line) (omega (arith, long)) in
    let at : (k : ℕ) → get_or (take (length line - start) (drop start line)) k 0 ≡ get_or line (start + k) 0 =
    λ k. ap (λ w. get_or w k 0) text ∙ get_or-drop start line k 0 in
    let zero : start + 0 ≡ start = omega arith in
    let first : get_or (take (length line - start) (drop start line)) 0 0 ≡ get_or line start 0 = at 0 ∙ ap (λ k. get_or line k 0) zero in
    let p = c.if-not-has_digit.ensures in
    let q = c.if-not-has_digit-2.ensures in
    let r = c.if-not-has_last_digit.ensures in
    let a : get_or line start 0 - 48 ≡ c.new.result = omega (arith, c.new.ensures, first) in
    let b : get_or line (start + 2) 0 - 48 ≡ c.new-2.result = omega (arith, c.new-2.ensures, at 2) in
    let d : get_or line (start + 4) 0 - 48 ≡ c.new-3.result = omega (arith, c.new-3.ensures, at 4) in
    let left : List (List ℕ) = (124 ∷ []) ∷ words_from (start + 8) line in (
      operand_words line start c.args.self.now c.self.view_is (omega (arith, long))
          (omega (arith, first, p.digit)) (omega (arith, first, p.digit)) (sym (at 1) ∙ p.space)
          (omega (arith, at 2, q.digit)) (omega (arith, at 2, q.digit)) (sym (at 3) ∙ q.space)
          (omega (arith, at 4, r.digit)) (omega (arith, at 4, r.digit)) (sym (at 5) ∙ r.space) (sym (at 6) ∙ r.bar) (sym (at 7) ∙ r.end)
          ∙ ap (λ n. decimal n ∷ decimal (get_or line (start + 2) 0 - 48) ∷ decimal (get_or line (start + 4) 0 - 48) ∷ left) a
          ∙ ap (λ n. decimal c.new.result ∷ decimal n ∷ decimal (get_or line (start + 4) 0 - 48) ∷ left) b
          ∙ ap (λ n. decimal c.new.result ∷ decimal c.new-2.result ∷ decimal n ∷ left) d,
      omega (arith, c.new.ensures, p.digit),
      omega (arith, c.new-2.ensures, q.digit),
      omega (arith, c.new-3.ensures, r.digit),
    )
