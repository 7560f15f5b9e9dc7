use Rattle.std.proofs.Common.{◌≡◌, ◌-◌, ◌<◌, ℕ, List, length, take, drop, get_or, length-drop, ap, ◌∙◌, sym, subst, arith}
use Rattle.std.proofs.lemmas.List.{take_all}
use Rattle.line_words.proofs.TakenWords.{front_taken}
use Rattle.line_words.proofs.word_list.Words.next_is.Goals as goal

pub returns : goal.returns
returns c =
    let line = c.self.inside.line.now in
    let start = c.self.inside.start in
    let word = c.args.word.now in
    let whole = take (length line - start) (drop start line) in
    let text : whole ≡ drop start line = take_all (length line - start) (drop start line) (omega (arith, length-drop start line)) in
    let same : take (length word) whole ≡ word = c.if-not-begins_with.ensures in
    front_taken line start word c.args.self.now c.self.view_is (omega arith) (subst (λ (w : List ℕ). length word < length w) text c.if-text-word.false)
    (ap (take (length word)) (sym text) ∙ same) c.requires (subst (λ (w : List ℕ). get_or w (length word) 0 ≡ 32) text c.if-text-word-ne32.false)
