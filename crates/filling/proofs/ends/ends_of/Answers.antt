use Rattle.std.proofs.Common.{sym, ap, ◌∙◌}
use Rattle.bohm_core_base.specs.Serial.{serial_words}
use Rattle.log_batch.specs.Supplied.{LogRange, batch_of}
use Rattle.filling.proofs.ends.ends_of.Goals as goal

pub was_revoking-requires-clause-own : goal.was_revoking-requires-clause-own
was_revoking-requires-clause-own c = c.requires.own ∙ ap (λ (r : LogRange). serial_words (batch_of r) c.args.index) (sym c.batch.ensures)
