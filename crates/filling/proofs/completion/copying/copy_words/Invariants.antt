use Rattle.std.proofs.Common.{◌≡◌, take}
use Rattle.bohm_core_base.specs.Serial.{serial_words}
use Rattle.log_batch.specs.Supplied.{batch_of}
use Rattle.filling.proofs.completion.copying.copy_words.Given as goal

-- this many of the words are copied
abbrev pub invariant-loop-number : goal.invariant-loop-number
invariant-loop-number l = l.words ≡ take l.number (serial_words (batch_of l.batch) l.index)
