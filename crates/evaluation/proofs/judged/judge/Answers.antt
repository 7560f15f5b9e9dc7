use Rattle.std.proofs.Common.{◌≡◌, ◌+◌, ℕ, List, Some, sym, ap, ◌∙◌, rules, subst, arith}
use Rattle.std.specs.Prelude.{All, IsSome, slice_get}
use Rattle.model_base.specs.Outcomes.{at_place, deeds_before, owners, rows_before}
use Rattle.model_base.specs.References.{tables_of}
use Rattle.body.specs.Shape.{HaveColumns}
use Rattle.grants_base.specs.View.{ShowsDeeds}
use Rattle.own_words.specs.Places.{own_words}
use Rattle.sequencer.specs.Log.{Accepted}
use Rattle.evaluation.specs.Answering.{columns_in}
use Rattle.bohm_core_base.specs.Batch.{Batch}
use Rattle.evaluation.specs.Seen.{seen_at, seen_view}
use Rattle.evaluation.specs.ReadSource.{Reader}
use Rattle.evaluation.proofs.Comes.{needs-covered, rows-fit, words-are}
use Rattle.evaluation.proofs.Slots.{all-covered, shows_seen}
use Rattle.evaluation.proofs.judged.judge.Goals as goal

pub own_words-requires : goal.own_words-requires
own_words-requires g c =
    let ranged = c.args.batch.now in
    let place = ranged.first + (g.T.ReadSource.as_reader c.args.source).index in
    let statement = c.statement-statement.result.now in
    let at = subst (λ index. slice_get ranged.log.statements (ranged.first + index) ≡ Some statement) c.reader.ensures.value c.statement-statement.ensures.at in
    let columns : c.all_columns-columns.result.now ≡ ranged.log.names.columns =
    c.all_columns-columns.ensures.value ∙ ap (λ (log : Accepted). log.names.columns) c.log.ensures.value in
    let index = c.reader.ensures.value ∙ sym (ap (λ (reader : Reader). reader.index) c.show_rows.ensures.same.0) in
    record {
      runnable = search rules;
      apart = search rules;
      fits = search rules;
      narrow = search rules;
      tables = search rules;
      shaped = record {
        rows = rows_before ranged.log.statements place;
        shows = c.show_rows.ensures.shows statement at;
        shape =
            subst (λ (list : List ℕ). HaveColumns (columns_in list) (rows_before ranged.log.statements place)) (sym columns)
            (rows-fit ranged c.log.ensures.of_log place);
      };
      fresh = search rules;
      covered =
          needs-covered (seen_view (seen_at ranged (g.T.ReadSource.as_reader c.show_rows.new.source).index)).owner statement.form
          (subst (λ index. All (λ table. IsSome ((seen_view (seen_at ranged index)).owner table)) (tables_of statement.form)) index
          (all-covered ranged c.log.ensures.whole c.reader.result statement c.statement-statement.ensures.at));
    }

pub returns-clause-value : goal.returns-clause-value
returns-clause-value g c =
    let ranged = c.args.batch.now in
    let log = ranged.log.statements in
    let index = (g.T.ReadSource.as_reader c.args.source).index in
    let place = ranged.first + index in
    let statement = c.statement-statement.result.now in
    let at = subst (λ index. slice_get ranged.log.statements (ranged.first + index) ≡ Some statement) c.reader.ensures.value c.statement-statement.ensures.at in
    let columns : c.all_columns-columns.result.now ≡ ranged.log.names.columns =
    c.all_columns-columns.ensures.value ∙ ap (λ (log : Accepted). log.names.columns) c.log.ensures.value in
    let same = ap (λ (reader : Reader). reader.index) c.show_rows.ensures.same.0 in
    let size = ap (λ (batch : Batch). batch.size) c.requires.batch in
    let shows = subst (λ mine. ShowsDeeds (seen_view (seen_at ranged mine)) (owners log) (deeds_before log (ranged.first + index))) (sym same)
    (shows_seen ranged c.log.ensures.of_log index (omega (arith, c.reader.ensures.within, c.reader.ensures.value, size))) in
    c.own_words.ensures.value (owners log) (deeds_before log place) (rows_before log place) shows (c.show_rows.ensures.shows statement at)
    ∙ ap (λ (list : List ℕ). own_words (columns_in list) statement.form (at_place (owners log) (ranged.first + (g.T.ReadSource.as_reader c.show_rows.new.source).index) (record { rows = rows_before log place; deeds = deeds_before log place }) statement)) columns
    ∙ ap (λ (here : ℕ). own_words (columns_in ranged.log.names.columns) statement.form (at_place (owners log) (ranged.first + here) (record { rows = rows_before log place; deeds = deeds_before log place }) statement)) same
    ∙ sym (words-are (columns_in ranged.log.names.columns) log place statement at)
