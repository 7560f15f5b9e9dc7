use Rattle.std.proofs.Common.{◌≡◌, ◌+◌, ◌-◌, ◌≤◌, drop, length, take}
use Rattle.std.specs.Str.Parse.{AllDigits, digits_value}
use Rattle.line_words.proofs.word_list.digits_from.Given as goal

abbrev pub invariant-loop-place : goal.invariant-loop-place
invariant-loop-place l = record {
  behind : l.start ≤ l.place;
  few : l.place ≤ l.start + 9;
  within : l.place ≤ length l.line;
  digits : AllDigits 10 (take (l.place - l.start) (drop l.start l.line));
  value : l.value ≡ digits_value 10 (take (l.place - l.start) (drop l.start l.line));
}

abbrev pub decreases-loop-place : goal.decreases-loop-place
decreases-loop-place l = length l.line - l.place
