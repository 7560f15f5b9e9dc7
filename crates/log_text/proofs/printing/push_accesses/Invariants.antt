use Rattle.std.proofs.Common.{◌≡◌, ◌++◌, map, take}
use Rattle.line_words.specs.Access.{access_word}
use Rattle.std.specs.Prelude.{string_bytes}
use Rattle.log_text.specs.Parsing.{spaced}
use Rattle.log_text.proofs.printing.push_accesses.Given as goal

abbrev pub invariant-loop-access : goal.invariant-loop-access
invariant-loop-access l = string_bytes l.text ≡ string_bytes l.initial.text ++ spaced (map access_word (take l.access-index l.accesses))
