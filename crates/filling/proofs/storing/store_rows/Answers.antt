use Rattle.std.proofs.Common.{◌≡◌, ◌<◌, List, get_or, length, ap, sym, ◌∙◌, subst, arith}
use Rattle.model_base.specs.declared.statement.Access.{Access}
use Rattle.model_base.specs.Versions.{accesses_of}
use Rattle.placing.specs.Parts.{key_partition}
use Rattle.log_batch.specs.Laws.{word_of}
use Rattle.log_batch.specs.Supplied.{LogRange, batch_of}
use Rattle.filling.specs.Keys.{Key}
use Rattle.words.specs.Views.{front_in}
use Rattle.filling.specs.Placers.{IsAt, StoredBelow}
use Rattle.filling.proofs.Placing.{at-stays, found-row, references-count, row-partition, stored-none, stores-none, stores-then}
use Rattle.filling.proofs.storing.store_rows.Goals as goal

pub store_reference-requires-clause-number : goal.store_reference-requires-clause-number
store_reference-requires-clause-number c =
    let words = c.args.words.now in
    let key = c.args.key.now in
    let ranged = words.key.batch in
    let latest = c.args.finder.now.latest in
    let statement = c.args.statement.now in
    let token = c.loop-number.token in
    let number = c.loop-number.number in
    let at : IsAt words key token latest statement = at-stays words key c.args.token.now token latest statement c.loop-number.invariant.0 c.requires.at in
    let access = c.access-item.result in
    let all = c.accesses-access-items.ensures in
    let within : number < length (accesses_of statement.form) = (let same = ap (λ (list : List Access). length list) all in omega arith) in
    let here : access ≡ get_or (accesses_of statement.form) number access =
    c.access-item.is ∙ ap (λ (list : List Access). get_or list number access) all in
    let partitions : c.partition_count-partitions.result ≡ ranged.partitions =
    c.partition_count-partitions.ensures.value ∙ ap (λ (r : LogRange). r.partitions) (c.batch.ensures ∙ ap (λ (k : Key). k.batch) (sym c.requires.at.key)) in
    let into : c.partition_of-partition.result ≡ key_partition ranged.partitions access.key.table access.key.row =
    c.partition_of-partition.ensures.value ∙ ap (λ n. key_partition n access.key.table access.key.row) partitions in
    let count = references-count ranged at.of_log (front_in token.view) statement at.at in
    omega arith

pub store_reference-requires-clause-partition : goal.store_reference-requires-clause-partition
store_reference-requires-clause-partition c =
    let words = c.args.words.now in
    let key = c.args.key.now in
    let ranged = words.key.batch in
    let latest = c.args.finder.now.latest in
    let statement = c.args.statement.now in
    let token = c.loop-number.token in
    let number = c.loop-number.number in
    let at : IsAt words key token latest statement = at-stays words key c.args.token.now token latest statement c.loop-number.invariant.0 c.requires.at in
    let access = c.access-item.result in
    let all = c.accesses-access-items.ensures in
    let within : number < length (accesses_of statement.form) = (let same = ap (λ (list : List Access). length list) all in omega arith) in
    let here : access ≡ get_or (accesses_of statement.form) number access =
    c.access-item.is ∙ ap (λ (list : List Access). get_or list number access) all in
    let partitions : c.partition_count-partitions.result ≡ ranged.partitions =
    c.partition_count-partitions.ensures.value ∙ ap (λ (r : LogRange). r.partitions) (c.batch.ensures ∙ ap (λ (k : Key). k.batch) (sym c.requires.at.key)) in
    let into : c.partition_of-partition.result ≡ key_partition ranged.partitions access.key.table access.key.row =
    c.partition_of-partition.ensures.value ∙ ap (λ n. key_partition n access.key.table access.key.row) partitions in
    into ∙ sym (row-partition ranged at.of_log (front_in token.view) statement at.at number access within here)

pub store_reference-requires-clause-right : goal.store_reference-requires-clause-right
store_reference-requires-clause-right c = λ mine.
    let words = c.args.words.now in
    let key = c.args.key.now in
    let ranged = words.key.batch in
    let latest = c.args.finder.now.latest in
    let statement = c.args.statement.now in
    let token = c.loop-number.token in
    let number = c.loop-number.number in
    let at : IsAt words key token latest statement = at-stays words key c.args.token.now token latest statement c.loop-number.invariant.0 c.requires.at in
    let access = c.access-item.result in
    let all = c.accesses-access-items.ensures in
    let within : number < length (accesses_of statement.form) = (let same = ap (λ (list : List Access). length list) all in omega arith) in
    let here : access ≡ get_or (accesses_of statement.form) number access =
    c.access-item.is ∙ ap (λ (list : List Access). get_or list number access) all in
    let partitions : c.partition_count-partitions.result ≡ ranged.partitions =
    c.partition_count-partitions.ensures.value ∙ ap (λ (r : LogRange). r.partitions) (c.batch.ensures ∙ ap (λ (k : Key). k.batch) (sym c.requires.at.key)) in
    let into : c.partition_of-partition.result ≡ key_partition ranged.partitions access.key.table access.key.row =
    c.partition_of-partition.ensures.value ∙ ap (λ n. key_partition n access.key.table access.key.row) partitions in
    ap (λ reference. word_of ranged.first reference) c.writer.ensures
    ∙ found-row words key token latest statement at number access within here (sym into ∙ mine)

pub loop-number-init : goal.loop-number-init
loop-number-init c = (stores-none c.args.token.now, stored-none (batch_of c.args.words.now.key.batch) c.args.token.now.view)

pub loop-number-preserved : goal.loop-number-preserved
loop-number-preserved c = (
  stores-then c.args.token.now c.loop-number.token c.store_reference.new.token c.loop-number.invariant.0 c.store_reference.ensures.only,
  c.store_reference.ensures.stored,
)

pub returns-clause-stored : goal.returns-clause-stored
returns-clause-stored c =
    let all = c.accesses-access-items.ensures in
    let last : c.loop-number.number ≡ length (accesses_of c.args.statement.now.form) =
    (let same = ap (λ (list : List Access). length list) all in omega arith) in
    subst (λ n. StoredBelow (batch_of c.args.words.now.key.batch) c.loop-number.token.view n) last c.loop-number.invariant.1
