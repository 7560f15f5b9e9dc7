use Rattle.std.proofs.Common.{◌≡◌, ◌+◌, ◌-◌, ◌<◌, ◌∷◌, ℕ, List, length, take, drop, get_or, length-drop, ap, ◌∙◌, sym, subst, arith}
use Rattle.std.proofs.lemmas.List.{take_all}
use Rattle.line_words.specs.StepWords.{step_word}
use Rattle.line_words.specs.Words.{words_from}
use Rattle.line_words.proofs.TakenWords.{step_taken}
use Rattle.line_words.proofs.word_list.Words.next_step.Goals as goal

pub returns : goal.returns
returns c =
    let line = c.self.inside.line.now in
    let start = c.self.inside.start in
    let name = c.in_ok-name.name in
    let found = c.in_ok-name.ensures in
    let text : take (length line - start) (drop start line) ≡ drop start line = take_all (length line - start) (drop start line) (omega (arith, length-drop start line)) in
    let n = length (step_word name) in
    step_taken line start name c.args.self.now c.self.view_is (omega arith) (subst (λ (w : List ℕ). n < length w) text found.within)
    (subst (λ (w : List ℕ). take n w ≡ step_word name) text found.word) (subst (λ (w : List ℕ). get_or w n 0 ≡ 32) text found.space)
    ∙ ap (λ (n : ℕ). step_word name ∷ words_from (start + n + 1) line) (sym c.len.ensures)
