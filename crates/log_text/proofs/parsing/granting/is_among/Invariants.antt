use Rattle.std.proofs.Common.{◌≡◌, ◌≤◌, ◌-◌, false, take, drop}
use Rattle.std.specs.Prelude.{bytes_eq}
use Rattle.std.specs.List.{list_any}
use Rattle.line_words.specs.Words.{comma_pieces}
use Rattle.log_text.proofs.parsing.granting.is_among.Given as goal

abbrev pub invariant-earlier : goal.invariant-earlier
invariant-earlier l = record {
  same : l.left ≡ drop l.index (comma_pieces l.word);
  none : list_any (bytes_eq l.piece) (take l.index (comma_pieces l.word)) ≡ false;
  low : l.index ≤ l.count;
}

abbrev pub decreases-earlier : goal.decreases-earlier
decreases-earlier l = l.count - l.index
