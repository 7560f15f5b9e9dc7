use Rattle.std.proofs.Common.{◌≡◌, ℕ, ◌≤◌, vec_len, length, map, [], ◌∷◌, ◌++◌}
use Rattle.std.specs.List.{AllByRecursion}
use Rattle.std.specs.Vec.{vec_capacity}
use Rattle.line_words.specs.Access.{access_word, IsAccess}
use Rattle.log_text.specs.Fault.{OfAccess, OfNext, fault_from}
use Rattle.log_text.proofs.parsing.accesses.accesses.Given as goal

abbrev pub invariant-accesses : goal.invariant-accesses
invariant-accesses l = record {
  same : l.fn.words ≡ map access_word l.found.items ++ l.words;
  some : 1 ≤ vec_len l.found;
  room : vec_len l.found ≤ 16;
  reserved : 16 ≤ vec_capacity l.found;
  each : AllByRecursion IsAccess l.found.items;
  fits : (version : ℕ) → fault_from (OfAccess ∷ OfNext version 1 ∷ []) l.fn.words ≡ fault_from (OfNext version (vec_len l.found) ∷ []) l.words;
}

abbrev pub decreases-accesses : goal.decreases-accesses
decreases-accesses l = length l.words
