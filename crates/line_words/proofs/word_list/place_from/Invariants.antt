use Rattle.std.proofs.Common.{◌≡◌, ℕ, ◌+◌, ◌-◌, ◌<◌, ◌≤◌, length, get_or, false, eqb}
use Rattle.line_words.proofs.word_list.place_from.Given as goal

abbrev pub invariant-loop-place : goal.invariant-loop-place
invariant-loop-place l = record {
  behind : l.start ≤ l.place;
  within : l.place ≤ length l.bytes;
  before : (k : ℕ) → l.start + k < l.place → eqb (get_or l.bytes (l.start + k) 0) l.value ≡ false;
}

abbrev pub decreases-loop-place : goal.decreases-loop-place
decreases-loop-place l = length l.bytes - l.place
