use Rattle.std.proofs.Common.{◌≡◌, ◌+◌, Some, sym, ◌∙◌, subst}
use Rattle.std.specs.Prelude.{slice_get}
use Rattle.log_batch.specs.Supplied.{range_of}
use Rattle.log_batch.proofs.SerialRuns.{serial_words_are}
use Rattle.evaluation.proofs.judged.words_by_source.Goals as goal

pub returns-clause-serial : goal.returns-clause-serial
returns-clause-serial g c =
    let ranged = c.args.batch.now in
    let index = (g.T.ReadSource.as_reader c.args.source).index in
    let statement = c.statement-statement.result.now in
    let at = subst (λ index. slice_get ranged.log.statements (ranged.first + index) ≡ Some statement) c.reader.ensures.value c.statement-statement.ensures.at in
    c.judge.ensures.value ∙ sym (serial_words_are (range_of ranged) c.statement-statement.ensures.of_log index statement at)
