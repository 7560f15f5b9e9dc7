use Rattle.std.proofs.Common.{ℕ, ◌≡◌, ◌==◌, ◌&&◌, suc, ◌+◌, true, false, cond, ◌∷◌, List, drop, refl, sym, ◌∙◌, ap, add-one, drop-cons}
use Rattle.std.specs.List.{list_any}
use Rattle.std.proofs.lemmas.Bool.{and_left, and_right, eq-eqb, ne_eqb}
use Rattle.model_base.specs.declared.reference.Reference.{Reference}
use Rattle.model_base.specs.declared.reference.Reference.TheVariants.{At}
use Rattle.model_base.specs.declared.statement.Access.{Access}
use Rattle.model_base.specs.References.{is_write_to}
use Rattle.model_base.specs.Versions.{is_writing}
use Rattle.placing.specs.Parts.{key_partition}
use Rattle.placing.specs.Latest.{is_own_row, key_cmp, reference_to, writer_in}
use Rattle.std.specs.BTreeMap.{is_at}
use Rattle.std.specs.Map.{lookup}
use Rattle.placing.proofs.Writers.{at_own_row, none_later, pass_on, still_other, writer_put}
use Rattle.placing.proofs.latest.Latest.note_writes.Goals as goal
use Rattle.placing.proofs.latest.Latest.note_writes.Goals.{then-is_writing+then-partition_of-self+in_ok-insert, else-is_writing, else-is_writing-via-then-is_writing+else-partition_of-self, else-is_writing-via-else-is_writing}

pub returns-in_err-insert-clause-others : goal.returns-in_err-insert-clause-others
returns-in_err-insert-clause-others c = λ table row out.
    let now = c.loop-access.self in
    let i = c.loop-access.access-index in
    let accesses = c.args.accesses.now in
    ap (λ entries. reference_to (lookup (is_at (key_cmp (record { table = table; row = row }))) entries)) c.in_err-insert.ensures.err
    ∙ still_other c.args.place (is_own_row c.args.self.now table row) (list_any (is_write_to table row) (drop i accesses)) (list_any (is_write_to table row) accesses)
    (writer_in now table row) (writer_in c.args.self.now table row)
    (λ none. none_later (is_write_to table row) accesses i none) out (c.loop-access.invariant.writers table row)

pub loop-access-preserved : goal.loop-access-preserved
loop-access-preserved c =
    let accesses = c.args.accesses.now in
    let i = c.loop-access.access-index in
    let access = c.access-item.result in
    let later = drop (i + 1) accesses in
    let now = c.loop-access.self in
    let own = is_own_row c.args.self.now in
    let front : drop i accesses ≡ access ∷ later = rw (add-one i) (drop-cons accesses i access c.loop-access-test.true ∙ ap (λ (a : Access). a ∷ drop (suc i) accesses) (sym c.access-item.is)) in
    let place = c.args.place in
    let same : is_own_row now access.key.table access.key.row ≡ own access.key.table access.key.row = rw (c.loop-access.invariant.partition, c.loop-access.invariant.partitions) refl in
    let whole = λ (table row : ℕ) (next : Reference) (is : next ≡ cond (own table row && is_write_to table row access) (At place) (writer_in now table row)).
    pass_on place (own table row) table row access later (writer_in now table row) next is
    ∙ ap (λ (rest : List Access). cond (own table row && list_any (is_write_to table row) rest) (At place) (writer_in now table row)) (sym front)
    ∙ c.loop-access.invariant.writers table row in
    elim c.if-is_writing.branch [
      | then-is_writing+then-partition_of-self+in_ok-insert w ↦
          let writing : is_writing access ≡ true = sym c.is_writing.ensures ∙ w.if-is_writing.true in
          let mine : own access.key.table access.key.row ≡ true =
          sym same ∙ eq-eqb (key_partition now.partitions access.key.table access.key.row) now.partition (sym w.partition_of.ensures.value ∙ w.if-partition_of-self.true) in
          rw w.self-is (record {
            partition = c.loop-access.invariant.partition;
            partitions = c.loop-access.invariant.partitions;
            writers = λ table row.
                whole table row _
                (writer_put place now (record now { writers = w.insert.new.self }) access writing w.in_ok-insert.ensures.updates.0 table row
                ∙ ap (λ b. cond b (At place) (writer_in now table row)) (sym (at_own_row own access true mine table row)));
            deeds = λ table. c.loop-access.invariant.deeds table;
          })
      | else-is_writing w ↦
          let none : (table row : ℕ) → (own table row && is_write_to table row access) ≡ false = λ table row.
          elim w.else-is_writing.branch [
            | else-is_writing-via-then-is_writing+else-partition_of-self w' ↦
                let other : own access.key.table access.key.row ≡ false =
                sym same ∙ ne_eqb (key_partition now.partitions access.key.table access.key.row) now.partition (λ at. w'.if-partition_of-self.false (w'.partition_of.ensures.value ∙ at)) in
                at_own_row own access false other table row
            | else-is_writing-via-else-is_writing w' ↦
                and_right (own table row) (is_write_to table row access)
                (and_left (is_writing access) ((access.key.table == table) && (access.key.row == row)) (sym c.is_writing.ensures ∙ w'.if-is_writing.false))
          ] in
          rw w.self-is (record {
            partition = c.loop-access.invariant.partition;
            partitions = c.loop-access.invariant.partitions;
            writers = λ table row.
                whole table row (writer_in now table row) (sym (ap (λ b. cond b (At place) (writer_in now table row)) (none table row)));
            deeds = λ table. c.loop-access.invariant.deeds table;
          })
    ]
