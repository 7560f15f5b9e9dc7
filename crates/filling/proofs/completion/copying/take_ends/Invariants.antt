use Rattle.std.proofs.Common.{◌≡◌, ◌<◌, ℕ, suc, Some}
use Rattle.log_batch.specs.Supplied.{batch_of}
use Rattle.words.specs.Closing.{end_word_in}
use Rattle.words.specs.Layout.{listed_slot_at}
use Rattle.filling.specs.Ends.{AreSerialEnds, noted_end}
use Rattle.filling.proofs.completion.copying.take_ends.Given as goal

-- the ends that the words so far say are given
abbrev pub invariant-loop-number : goal.invariant-loop-number
invariant-loop-number l = record {
  told : AreSerialEnds (batch_of l.key.batch) l.ends;
  taken : (end place : ℕ) → end < l.number → end_word_in l.closed end ≡ suc place → noted_end l.ends (listed_slot_at l.key.slots end) ≡ Some place;
}
