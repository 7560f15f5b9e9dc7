use Rattle.std.proofs.Common.{◌≡◌, ◌==◌, ◌<◌, ◌+◌, ℕ, Some, Vec, Global, sym, ap, ◌∙◌, subst, arith}
use Rattle.std.specs.Prelude.{slice_get}
use Rattle.std.specs.List.{list_any}
use Rattle.std.proofs.lemmas.Result.{IfOk-weaker}
use Rattle.model_base.specs.Ranks.{rank}
use Rattle.model_base.specs.Outcomes.{deeds_before, deeds_of, owners}
use Rattle.evaluation.specs.Ends.{AreEndsInLog, NamesEnded}
use Rattle.bohm_core_base.specs.Batch.{Batch}
use Rattle.log_batch.specs.Supplied.{batch_of}
use Rattle.model_base.proofs.Growth.{deeds_before-stands}
use Rattle.std.specs.List.Sorted.{IsStrictlyIncreasing}
use Rattle.evaluation.proofs.Comes.{ends-told}
use Rattle.evaluation.proofs.Rising.{ended-rises}
use Rattle.evaluation.proofs.judged.ends_by_source.Goals as goal

pub returns-clause-ends : goal.returns-clause-ends
returns-clause-ends g c =
    let ranged = c.args.batch.now in
    let log = ranged.log.statements in
    let index = (g.T.ReadSource.as_reader c.args.source).index in
    let place = ranged.first + index in
    let statement = c.statement-statement.result.now in
    let at = subst (λ index. slice_get log (ranged.first + index) ≡ Some statement) c.reader.ensures.value c.statement-statement.ensures.at in
    let size = ap (λ (batch : Batch). batch.size) c.requires.batch in
    let within : index < ranged.size = omega (arith, c.reader.ensures.within, c.reader.ensures.value, size) in
    IfOk-weaker c.judge_ends.result.1
    (λ (names : Vec ℕ Global). AreEndsInLog log place names.items)
    (λ (names : Vec ℕ Global). NamesEnded (batch_of ranged) index names.items)
    (λ names are slot grant found.
    ap (λ list. list_any (λ name. name == rank grant) list) (are statement at)
    ∙ ends-told ranged c.statement-statement.ensures.of_log index within statement at c.requires.done slot grant found)
    c.judge_ends.ensures.value

pub returns-clause-order : goal.returns-clause-order
returns-clause-order g c =
    let ranged = c.args.batch.now in
    let log = ranged.log.statements in
    let index = (g.T.ReadSource.as_reader c.args.source).index in
    let place = ranged.first + index in
    let statement = c.statement-statement.result.now in
    let at = subst (λ index. slice_get log (ranged.first + index) ≡ Some statement) c.reader.ensures.value c.statement-statement.ensures.at in
    let stands = deeds_before-stands log place in
    IfOk-weaker c.judge_ends.result.1
    (λ (names : Vec ℕ Global). AreEndsInLog log place names.items)
    (λ (names : Vec ℕ Global). IsStrictlyIncreasing names.items)
    (λ names are. subst (λ list. IsStrictlyIncreasing list) (sym (are statement at)) (ended-rises (owners log) (deeds_before log place) (deeds_of place statement.user statement.form) stands.proper))
    c.judge_ends.ensures.value
