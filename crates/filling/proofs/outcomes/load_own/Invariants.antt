use Rattle.std.proofs.Common.{◌≡◌, ◌<◌, ℕ, get_or, length}
use Rattle.bohm_core_base.specs.Serial.{serial_words}
use Rattle.filling.proofs.outcomes.load_own.Given as goal

-- the words so far are the first of the serial run's
abbrev pub invariant-loop-number : goal.invariant-loop-number
invariant-loop-number g l = record {
  same : l.holding ≡ l.initial.holding;
  long : length l.own ≡ 156;
  own : (k : ℕ) → k < l.number → get_or l.own k 0 ≡ get_or (serial_words (g.K.BatchData.batch l.words.key) l.index) k 0;
}
