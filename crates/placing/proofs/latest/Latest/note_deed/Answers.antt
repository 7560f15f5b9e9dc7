use Rattle.std.proofs.Common.{◌≡◌, true, cond, sym, ◌∙◌, ap}
use Rattle.std.proofs.lemmas.Bool.{eq-eqb}
use Rattle.model_base.specs.declared.reference.Reference.TheVariants.{At}
use Rattle.placing.specs.Latest.{is_own_table, prior_in}
use Rattle.placing.specs.Parts.{table_partition}
use Rattle.placing.proofs.Writers.{on_own_table, prior_put}
use Rattle.placing.proofs.latest.Latest.note_deed.Goals as goal

pub returns-in_ok-insert-clause-deeds : goal.returns-in_ok-insert-clause-deeds
returns-in_ok-insert-clause-deeds c = λ on.
    let table = c.in-Some.table in
    let old = c.args.self.now in
    let mine : is_own_table old table ≡ true =
    eq-eqb (table_partition old.partitions table) old.partition (sym c.partition_of_table.ensures.value ∙ c.if-partition_of_table-self.true) in
    rw c.in-Some.is
    (prior_put c.args.place old (record old { deeds = c.insert.new.self }) table c.in_ok-insert.ensures.updates.0 on
    ∙ ap (λ b. cond b (At c.args.place) (prior_in old on)) (on_own_table (is_own_table old) table mine on))
