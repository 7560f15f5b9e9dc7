use Rattle.std.proofs.Common.{◌≡◌, ◌+◌, ℕ, List, Some, Vec, Global, sym, ap, ◌∙◌, subst, arith}
use Rattle.std.specs.Prelude.{All, IsSome, slice_get}
use Rattle.std.proofs.lemmas.Result.{IfOk-weaker}
use Rattle.model_base.specs.declared.deed.Deed.{Deed}
use Rattle.model_base.specs.declared.statement.Statement.{Statement}
use Rattle.model_base.specs.Outcomes.{deeds_before, deeds_of, owners}
use Rattle.model_base.specs.References.{tables_of}
use Rattle.grants_base.specs.View.{ShowsDeeds}
use Rattle.evaluation.specs.Answering.{ended_by_deeds}
use Rattle.evaluation.specs.Ends.{AreEndsInLog}
use Rattle.bohm_core_base.specs.Batch.{Batch}
use Rattle.evaluation.specs.Seen.{seen_at, seen_view}
use Rattle.evaluation.proofs.Comes.{deed-covered}
use Rattle.evaluation.proofs.Slots.{all-covered, shows_seen}
use Rattle.evaluation.proofs.judged.judge_ends.Goals as goal

pub ended-names-requires : goal.ended-names-requires
ended-names-requires g c =
    let ranged = c.args.batch.now in
    let statement = c.statement-statement.result.now in
    record {
      covered =
          deed-covered (seen_view (seen_at ranged (g.T.ReadSource.as_reader c.args.source).index)).owner statement.form
          (subst (λ index. All (λ table. IsSome ((seen_view (seen_at ranged index)).owner table)) (tables_of statement.form)) c.reader.ensures.value
          (all-covered ranged c.statement-statement.ensures.whole c.reader.result statement c.statement-statement.ensures.at));
    }

pub returns-clause-value : goal.returns-clause-value
returns-clause-value g c =
    let ranged = c.args.batch.now in
    let log = ranged.log.statements in
    let index = (g.T.ReadSource.as_reader c.args.source).index in
    let place = ranged.first + index in
    let mine = subst (λ index. slice_get log (ranged.first + index) ≡ Some c.statement-statement.result.now) c.reader.ensures.value c.statement-statement.ensures.at in
    let size = ap (λ (batch : Batch). batch.size) c.requires.batch in
    let shows = shows_seen ranged c.statement-statement.ensures.of_log index (omega (arith, c.reader.ensures.within, c.reader.ensures.value, size)) in
    IfOk-weaker c.ended-names.result
    (λ (names : Vec ℕ Global). (users : List ℕ) (deeds : List Deed) → ShowsDeeds (seen_view (seen_at ranged index)) users deeds
    → names.items ≡ ended_by_deeds users deeds (deeds_of place c.statement-statement.result.now.user c.statement-statement.result.now.form))
    (λ (names : Vec ℕ Global). AreEndsInLog log place names.items)
    (λ names source statement at.
    let both : Some c.statement-statement.result.now ≡ Some statement = sym mine ∙ at in
    let same : c.statement-statement.result.now ≡ statement = cc in
    source (owners log) (deeds_before log place) shows
    ∙ ap (λ (one : Statement). ended_by_deeds (owners log) (deeds_before log place) (deeds_of place one.user one.form)) same)
    c.ended-names.ensures.value
