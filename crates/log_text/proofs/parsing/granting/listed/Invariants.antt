use Rattle.std.proofs.Common.{◌≡◌, ◌≤◌, [], length, take, drop}
use Rattle.line_words.specs.Words.{comma_pieces}
use Rattle.log_text.specs.Fault.{grantees_fault}
use Rattle.log_text.proofs.parsing.granting.listed.Given as goal

abbrev pub invariant-pieces : goal.invariant-pieces
invariant-pieces l = record {
  same : l.left ≡ drop l.count (comma_pieces l.word);
  low : l.count ≤ length (comma_pieces l.word);
  fits : grantees_fault [] (comma_pieces l.word) ≡ grantees_fault (take l.count (comma_pieces l.word)) l.left;
}

abbrev pub decreases-pieces : goal.decreases-pieces
decreases-pieces l = length l.left
