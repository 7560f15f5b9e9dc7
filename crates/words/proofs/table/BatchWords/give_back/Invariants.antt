use Rattle.bohm_core_base.specs.declared.event.Event.TheVariants.{GiveBack}
use Rattle.words.proofs.Plays.{makes}
use Rattle.words.proofs.table.BatchWords.give_back.Given as goal

abbrev pub ghosts-put : goal.ghosts-put
ghosts-put g a = record { then = λ _ m found n. makes (GiveBack a.seat.now.id a._index) m found n }
