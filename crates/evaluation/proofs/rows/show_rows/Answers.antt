use Rattle.std.proofs.Common.{◌≡◌, ◌<◌, ◌≤◌, ◌+◌, ◌++◌, ℕ, suc, ℤ, Option, List, Some, [], ◌∷◌, get_or, length, map, take, sym, ap, ◌∙◌, subst, arith}
use Rattle.std.specs.Prelude.{slice_get}
use Rattle.std.proofs.lemmas.List.{length-set, map-append, take_all, take_more, take_more_set}
use Rattle.model_base.specs.declared.statement.Access.{Access}
use Rattle.model_base.specs.declared.statement.Statement.{Statement}
use Rattle.model_base.specs.Outcomes.{rows_before}
use Rattle.model_base.specs.Versions.{accesses_of}
use Rattle.evaluation.proofs.Executing.{few_accesses}
use Rattle.bohm_core_base.specs.Batch.{reference_words}
use Rattle.log_batch.specs.Shown.{row_numbers}
use Rattle.log_batch.specs.Supplied.{batch_of}
use Rattle.evaluation.specs.ReadSource.{IsReferred, Reader, referred_word, row_referred}
use Rattle.evaluation.proofs.Shown.{by_access, reader-is, referred-by, row-by}
use Rattle.evaluation.proofs.rows.show_rows.Goals as goal

pub row_shown-requires-clause-referred : goal.row_shown-requires-clause-referred
row_shown-requires-clause-referred g c other shows =
    let ranged = c.args.batch.now in
    let index = c.reader-index.result in
    let statement = c.statement-statement.result.now in
    let place = c.loop-place.place in
    let access = c.index-accesses-place.result in
    let same = c.accesses-accesses.ensures in
    let within : place < length (accesses_of statement.form) = subst (λ (accesses : List Access). place < length accesses) same c.loop-place-test.true in
    let here : access ≡ get_or (accesses_of statement.form) place access =
    c.index-accesses-place.is ∙ ap (λ (accesses : List Access). get_or accesses place access) same in
    let reader = reader-is (g.T.ReadSource.as_reader c.args.source.now) (batch_of ranged) index c.requires.batch c.reader-index.ensures.value in
    let source : g.T.ReadSource.as_reader c.loop-place.source ≡ record { batch = batch_of ranged; index = index } = c.loop-place.invariant.source ∙ reader in
    let found : get_or (reference_words (batch_of ranged) index) place 0 ≡ suc other =
    sym (ap (λ (r : Reader). get_or (reference_words r.batch r.index) place 0) source) ∙ sym c.reference-reference.ensures.value ∙ ap referred_word shows in
    subst (λ (reader : Reader). IsReferred reader other) (sym (c.reference-reference.ensures.same.0 ∙ source))
    (referred-by ranged index statement c.statement-statement.ensures.at place within access here other found)

pub reference-reference-requires : goal.reference-reference-requires
reference-reference-requires g c =
    let ranged = c.args.batch.now in
    let index = c.reader-index.result in
    let statement = c.statement-statement.result.now in
    let place = c.loop-place.place in
    let access = c.index-accesses-place.result in
    let same = c.accesses-accesses.ensures in
    let within : place < length (accesses_of statement.form) = subst (λ (accesses : List Access). place < length accesses) same c.loop-place-test.true in
    let here : access ≡ get_or (accesses_of statement.form) place access =
    c.index-accesses-place.is ∙ ap (λ (accesses : List Access). get_or accesses place access) same in
    let reader = reader-is (g.T.ReadSource.as_reader c.args.source.now) (batch_of ranged) index c.requires.batch c.reader-index.ensures.value in
    subst (λ (r : Reader). place < length (reference_words r.batch r.index)) (sym (c.loop-place.invariant.source ∙ reader))
    (by_access ranged index statement c.statement-statement.ensures.at place within access here).0

pub loop-place-preserved : goal.loop-place-preserved
loop-place-preserved g c =
    let ranged = c.args.batch.now in
    let index = c.reader-index.result in
    let statement = c.statement-statement.result.now in
    let accesses = c.accesses-accesses.result.now in
    let place = c.loop-place.place in
    let access = c.index-accesses-place.result in
    let rows = c.loop-place.window.rows in
    let same = c.accesses-accesses.ensures in
    let few = few_accesses statement.form c.statement-statement.ensures.taken.runnable in
    let long : length accesses ≤ 16 = omega (arith, few, ap length same) in
    let within : place < length (accesses_of statement.form) = subst (λ (accesses : List Access). place < length accesses) same c.loop-place-test.true in
    let here : access ≡ get_or (accesses_of statement.form) place access =
    c.index-accesses-place.is ∙ ap (λ (accesses : List Access). get_or accesses place access) same in
    let reader = reader-is (g.T.ReadSource.as_reader c.args.source.now) (batch_of ranged) index c.requires.batch c.reader-index.ensures.value in
    let found : referred_word c.reference-reference.result ≡ get_or (reference_words (batch_of ranged) index) place 0 =
    c.reference-reference.ensures.value ∙ ap (λ (r : Reader). get_or (reference_words r.batch r.index) place 0) (c.loop-place.invariant.source ∙ reader) in
    let before : Access → Option (List ℤ) = λ one. rows_before ranged.log.statements (ranged.first + index) one.key.table one.key.row in
    let shown : c.row_shown.result ≡ before access =
    c.row_shown.ensures.value
    ∙ ap (λ word. row_numbers (row_referred (batch_of ranged) access.key word)) found
    ∙ row-by ranged index statement c.statement-statement.ensures.at place within access here c.statement-statement.ensures.of_log in
    record {
      source = c.row_shown.ensures.same.0 ∙ c.reference-reference.ensures.same.0 ∙ c.loop-place.invariant.source;
      kept = c.row_shown.ensures.same.1 ∙ c.reference-reference.ensures.same.1 ∙ c.loop-place.invariant.kept;
      seen =
          ap (take (place + 1)) c.set.ensures.rows
          ∙ take_more_set rows place c.row_shown.result (omega (arith, c.loop-place.invariant.whole))
          ∙ ap (λ first. first ++ c.row_shown.result ∷ []) c.loop-place.invariant.seen
          ∙ ap (λ row. map before (take place accesses) ++ row ∷ []) (shown ∙ ap before c.index-accesses-place.is)
          ∙ sym (map-append before (take place accesses) (get_or accesses place access ∷ []))
          ∙ ap (map before) (sym (take_more accesses place access c.loop-place-test.true));
      fresh = c.set.ensures.outputs ∙ c.loop-place.invariant.fresh;
      whole = ap length c.set.ensures.rows ∙ length-set rows place c.row_shown.result ∙ c.loop-place.invariant.whole;
    }

pub returns-clause-shows : goal.returns-clause-shows
returns-clause-shows g c = λ statement at.
    let ranged = c.args.batch.now in
    let index = c.reader-index.result in
    let accesses = c.accesses-accesses.result.now in
    let place = c.loop-place.place in
    let mine : ranged.first + (g.T.ReadSource.as_reader c.args.source.now).index ≡ ranged.first + index = ap (λ i. ranged.first + i) (sym c.reader-index.ensures.value) in
    let both : Some c.statement-statement.result.now ≡ Some statement =
    sym c.statement-statement.ensures.at ∙ ap (λ at. slice_get ranged.log.statements at) (sym mine) ∙ at in
    let same : c.statement-statement.result.now ≡ statement = cc in
    let declared : accesses ≡ accesses_of statement.form = c.accesses-accesses.ensures ∙ ap (λ (one : Statement). accesses_of one.form) same in
    let last : length (accesses_of statement.form) ≡ place = omega (arith, ap length declared, c.loop-place-test.false, c.loop-place.auto.place-end) in
    let all : take place accesses ≡ accesses_of statement.form = take_all place accesses (omega (arith, c.loop-place-test.false)) ∙ declared in
    let before : ℕ → Access → Option (List ℤ) = λ at one. rows_before ranged.log.statements at one.key.table one.key.row in
    ap (λ count. take count c.loop-place.window.rows) last
    ∙ c.loop-place.invariant.seen
    ∙ ap (map (before (ranged.first + index))) all
    ∙ ap (λ at. map (before at) (accesses_of statement.form)) (sym mine)
