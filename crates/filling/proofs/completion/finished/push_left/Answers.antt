use Rattle.std.proofs.Common.{◌≡◌, ◌<◌, ◌^◌, ◌+◌, ◌++◌, ℕ, List, arith, drop, ap, ◌∙◌, subst}
use Rattle.std.specs.Prelude.{OnOk, slice_index_or}
use Rattle.chains.specs.declared.version.Version.{Version}
use Rattle.chains.specs.Store.{versions_at}
use Rattle.model_base.specs.declared.statement.Access.{Access}
use Rattle.model_base.specs.declared.statement.Statement.{Statement}
use Rattle.model_base.specs.Versions.{accesses_of}
use Rattle.own_words.specs.Words.{outputs_of}
use Rattle.sequencer.specs.Log.{Accepted}
use Rattle.sequencer.specs.Whole.{columns_by}
use Rattle.filling.specs.Cells.{versions_told}
use Rattle.filling.proofs.CellsTold.{versions_left}
use Rattle.filling.proofs.completion.finished.push_left.Goals as goal

pub returns : goal.returns
returns c =
    let log : Accepted = c.args.batch.now.log in
    let place = c.args.batch.now.first + c.args.index in
    let statement : Statement = c.statement-statement.result.now in
    let low : place < 2 ^ 64 = omega (arith, c.requires.within, c.first_place.ensures.small) in
    let here : c.first_place.result + c.args.index ≡ place = ap (λ n. n + c.args.index) c.first_place.ensures.value in
    let columns : c.all_columns.result.now ≡ log.names.columns = c.all_columns.ensures.value ∙ ap (λ (l : Accepted). l.names.columns) c.log.ensures.value in
    let cells : c.words_after-cells.result.now ≡ drop (4 + outputs_of statement.form) c.args.own.now =
    c.words_after-cells.ensures ∙ ap (λ n. drop (4 + n) c.args.own.now) c.outputs_of.ensures in
    let same : versions_told (λ table. slice_index_or c.all_columns.result.now table 0) (c.first_place.result + c.args.index) c.accesses.result.now c.words_after-cells.result.now ≡ versions_at log.statements place =
    ap (λ (columns : List ℕ). versions_told (λ table. slice_index_or columns table 0) (c.first_place.result + c.args.index) c.accesses.result.now c.words_after-cells.result.now) columns
    ∙ ap (λ (at : ℕ). versions_told (columns_by log.names) at c.accesses.result.now c.words_after-cells.result.now) here
    ∙ ap (λ (accesses : List Access). versions_told (columns_by log.names) place accesses c.words_after-cells.result.now) c.accesses.ensures
    ∙ ap (versions_told (columns_by log.names) place (accesses_of statement.form)) cells
    ∙ versions_left log place statement c.args.own.now c.statement-statement.ensures.whole c.statement-statement.ensures.at low c.requires.words in
    subst (λ (versions : List Version). OnOk c.push_versions.result (c.push_versions.new.versions.items ≡ c.args.versions.now.items ++ versions)) same c.push_versions.ensures
