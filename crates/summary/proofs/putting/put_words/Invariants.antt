use Rattle.std.proofs.Common.{◌≡◌, ◌++◌, ℕ, Bor, List, map, take}
use Rattle.summary.specs.Texts.{words_text}
use Rattle.summary.proofs.putting.put_words.Given as goal

abbrev pub invariant-loop-index : goal.invariant-loop-index
invariant-loop-index l =
    l.text.items ≡ l.initial.text.items ++ words_text l.are_refusals (map (λ (word : Bor (List ℕ)). word.now) (take l.index l.words)) l.counts
