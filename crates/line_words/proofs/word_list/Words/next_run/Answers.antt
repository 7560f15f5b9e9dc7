use Rattle.std.proofs.Common.{◌≡◌, ◌+◌, ◌-◌, ◌<◌, ◌∷◌, ℕ, List, length, take, drop, get_or, length-drop, ap, ◌∙◌, refl, subst, arith}
use Rattle.std.specs.Prelude.{codes}
use Rattle.std.proofs.lemmas.List.{take_all}
use Rattle.line_words.specs.Words.{words_from}
use Rattle.line_words.proofs.TakenWords.{front_taken}
use Rattle.line_words.proofs.word_list.Words.next_run.Goals as goal

pub returns : goal.returns
returns c =
    let line = c.self.inside.line.now in
    let start = c.self.inside.start in
    let found = c.if-not-begins_with_run.ensures in
    let text : take (length line - start) (drop start line) ≡ drop start line = take_all (length line - start) (drop start line) (omega (arith, length-drop start line)) in
    let four : start + 3 + 1 ≡ start + 4 = omega arith in
    front_taken line start (codes "RUN") c.args.self.now c.self.view_is (omega arith) (subst (λ (w : List ℕ). 3 < length w) text found.long)
    (subst (λ (w : List ℕ). take 3 w ≡ codes "RUN") text found.word) refl (subst (λ (w : List ℕ). get_or w 3 0 ≡ 32) text found.space)
    ∙ ap (λ (n : ℕ). codes "RUN" ∷ words_from n line) four
