use Rattle.std.proofs.Common.{◌≡◌, ◌++◌, map, take}
use Rattle.own_words.specs.Words.{bits}
use Rattle.own_words.proofs.room.OwnWords.push_numbers.Given as goal

abbrev pub invariant-loop-number : goal.invariant-loop-number
invariant-loop-number l = l.self ≡ l.initial.self ++ map bits (take l.number-index l.numbers)
