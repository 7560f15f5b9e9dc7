use Rattle.std.proofs.Common.{sym, ap, ◌∙◌}
use Rattle.std.proofs.lemmas.Bool.{true≢false}
use Rattle.bohm_core_base.specs.Batch.{was_done}
use Rattle.log_batch.specs.Supplied.{batch_of}
use Rattle.log_batch.proofs.Counted.{sound_batch}
use Rattle.filling.proofs.completion.places.judge_ends.Goals as goal

pub returns-else-was_done-clause-all : goal.returns-else-was_done-clause-all
returns-else-was_done-clause-all c slot within ends =
    let ranged = c.args.completion.now.batch.now in
    let done = (c.records_end_by_done_places.ensures (batch_of ranged) c.args.index slot (sound_batch ranged c.log-log.ensures.of_log) within ends).1 in
    absurd (true≢false (sym done ∙ ap was_done (sym c.requires.words) ∙ sym c.was_done.ensures ∙ c.if-was_done.false))
