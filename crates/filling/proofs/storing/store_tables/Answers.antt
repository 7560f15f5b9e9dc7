use Rattle.std.proofs.Common.{◌≡◌, ◌<◌, ◌+◌, ℕ, List, get_or, length, ap, sym, ◌∙◌, subst, arith}
use Rattle.model_base.specs.declared.statement.Access.{Access}
use Rattle.model_base.specs.References.{tables_of}
use Rattle.model_base.specs.Versions.{accesses_of}
use Rattle.placing.specs.Parts.{table_partition}
use Rattle.log_batch.specs.Laws.{word_of}
use Rattle.log_batch.specs.Supplied.{LogRange, batch_of}
use Rattle.filling.specs.Keys.{Key}
use Rattle.words.specs.Layout.{partition_at, reference_at}
use Rattle.words.specs.Views.{front_in}
use Rattle.filling.specs.Placers.{IsAt, StoredBelow}
use Rattle.std.proofs.lemmas.List.{get_or_read}
use Rattle.filling.proofs.Placing.{at-stays, found-table, references-count, stores-none, stores-then, table-partition}
use Rattle.filling.proofs.storing.store_tables.Goals as goal

pub store_reference-requires-clause-number : goal.store_reference-requires-clause-number
store_reference-requires-clause-number c =
    let words = c.args.words.now in
    let key = c.args.key.now in
    let ranged = words.key.batch in
    let latest = c.args.finder.now.latest in
    let statement = c.args.statement.now in
    let token = c.loop-number.token in
    let number = c.loop-number.number in
    let at : IsAt words key token latest statement = at-stays words key c.args.token.now token latest statement c.loop-number.invariant.0 c.requires.at in
    let table = c.table-item.result in
    let all = c.tables-table-items.ensures ∙ c.requires.tables in
    let within : number < length (tables_of statement.form) = (let same = ap (λ (list : List ℕ). length list) all in omega arith) in
    let here : table ≡ get_or (tables_of statement.form) number 0 =
    get_or_read (tables_of statement.form) number table within (c.table-item.is ∙ ap (λ (list : List ℕ). get_or list number table) all) 0 in
    let partitions : c.partition_count-partitions.result ≡ ranged.partitions =
    c.partition_count-partitions.ensures.value ∙ ap (λ (r : LogRange). r.partitions) (c.batch.ensures ∙ ap (λ (k : Key). k.batch) (sym c.requires.at.key)) in
    let into : c.partition_of_table-partition.result ≡ table_partition ranged.partitions table =
    c.partition_of_table-partition.ensures.value ∙ ap (λ n. table_partition n table) partitions in
    let count = references-count ranged at.of_log (front_in token.view) statement at.at in
    let rows = ap (λ (list : List Access). length list) c.accesses-rows.ensures in
    omega arith

pub store_reference-requires-clause-partition : goal.store_reference-requires-clause-partition
store_reference-requires-clause-partition c =
    let words = c.args.words.now in
    let key = c.args.key.now in
    let ranged = words.key.batch in
    let latest = c.args.finder.now.latest in
    let statement = c.args.statement.now in
    let token = c.loop-number.token in
    let number = c.loop-number.number in
    let at : IsAt words key token latest statement = at-stays words key c.args.token.now token latest statement c.loop-number.invariant.0 c.requires.at in
    let table = c.table-item.result in
    let all = c.tables-table-items.ensures ∙ c.requires.tables in
    let within : number < length (tables_of statement.form) = (let same = ap (λ (list : List ℕ). length list) all in omega arith) in
    let here : table ≡ get_or (tables_of statement.form) number 0 =
    get_or_read (tables_of statement.form) number table within (c.table-item.is ∙ ap (λ (list : List ℕ). get_or list number table) all) 0 in
    let partitions : c.partition_count-partitions.result ≡ ranged.partitions =
    c.partition_count-partitions.ensures.value ∙ ap (λ (r : LogRange). r.partitions) (c.batch.ensures ∙ ap (λ (k : Key). k.batch) (sym c.requires.at.key)) in
    let into : c.partition_of_table-partition.result ≡ table_partition ranged.partitions table =
    c.partition_of_table-partition.ensures.value ∙ ap (λ n. table_partition n table) partitions in
    into
    ∙ sym (table-partition ranged at.of_log (front_in token.view) statement at.at number table within here)
    ∙ ap (λ (list : List Access). partition_at (batch_of ranged) (front_in token.view) (length list + number)) (sym c.accesses-rows.ensures)

pub store_reference-requires-clause-right : goal.store_reference-requires-clause-right
store_reference-requires-clause-right c = λ mine.
    let words = c.args.words.now in
    let key = c.args.key.now in
    let ranged = words.key.batch in
    let latest = c.args.finder.now.latest in
    let statement = c.args.statement.now in
    let token = c.loop-number.token in
    let number = c.loop-number.number in
    let at : IsAt words key token latest statement = at-stays words key c.args.token.now token latest statement c.loop-number.invariant.0 c.requires.at in
    let table = c.table-item.result in
    let all = c.tables-table-items.ensures ∙ c.requires.tables in
    let within : number < length (tables_of statement.form) = (let same = ap (λ (list : List ℕ). length list) all in omega arith) in
    let here : table ≡ get_or (tables_of statement.form) number 0 =
    get_or_read (tables_of statement.form) number table within (c.table-item.is ∙ ap (λ (list : List ℕ). get_or list number table) all) 0 in
    let partitions : c.partition_count-partitions.result ≡ ranged.partitions =
    c.partition_count-partitions.ensures.value ∙ ap (λ (r : LogRange). r.partitions) (c.batch.ensures ∙ ap (λ (k : Key). k.batch) (sym c.requires.at.key)) in
    let into : c.partition_of_table-partition.result ≡ table_partition ranged.partitions table =
    c.partition_of_table-partition.ensures.value ∙ ap (λ n. table_partition n table) partitions in
    ap (λ reference. word_of ranged.first reference) c.prior.ensures
    ∙ found-table words key token latest statement at number table within here (sym into ∙ mine)
    ∙ ap (λ (list : List Access). reference_at (batch_of ranged) (front_in token.view) (length list + number)) (sym c.accesses-rows.ensures)

pub store_reference-requires-clause-before : goal.store_reference-requires-clause-before
store_reference-requires-clause-before c =
    subst (λ (list : List Access). StoredBelow (batch_of c.args.words.now.key.batch) c.loop-number.token.view (length list + c.loop-number.number))
    (sym c.accesses-rows.ensures) c.loop-number.invariant.1

pub loop-number-init : goal.loop-number-init
loop-number-init c =
    let start : length (accesses_of c.args.statement.now.form) ≡ length (accesses_of c.args.statement.now.form) + 0 = omega arith in (
      stores-none c.args.token.now,
      subst (λ n. StoredBelow (batch_of c.args.words.now.key.batch) c.args.token.now.view n) start c.requires.before,
    )

pub loop-number-preserved : goal.loop-number-preserved
loop-number-preserved c =
    let number = c.loop-number.number in
    let next : (length c.accesses-rows.result.now + number) + 1 ≡ length (accesses_of c.args.statement.now.form) + (number + 1) =
    (let rows = ap (λ (list : List Access). length list) c.accesses-rows.ensures in omega arith) in (
      stores-then c.args.token.now c.loop-number.token c.store_reference.new.token c.loop-number.invariant.0 c.store_reference.ensures.only,
      subst (λ n. StoredBelow (batch_of c.args.words.now.key.batch) c.store_reference.new.token.view n) next c.store_reference.ensures.stored,
    )

pub returns-clause-stored : goal.returns-clause-stored
returns-clause-stored c =
    let rows = length (accesses_of c.args.statement.now.form) in
    let all = c.tables-table-items.ensures ∙ c.requires.tables in
    let last : rows + c.loop-number.number ≡ rows + length (tables_of c.args.statement.now.form) =
    (let same = ap (λ (list : List ℕ). length list) all in omega arith) in
    subst (λ n. StoredBelow (batch_of c.args.words.now.key.batch) c.loop-number.token.view n) last c.loop-number.invariant.1
