use Rattle.std.proofs.Common.{◌≡◌, map, take}
use Rattle.own_words.specs.Words.{signed}
use Rattle.own_words.proofs.decoding.numbers_from.Given as goal

abbrev pub invariant-loop-word : goal.invariant-loop-word
invariant-loop-word l = l.numbers ≡ map signed (take l.word-index l.words)
