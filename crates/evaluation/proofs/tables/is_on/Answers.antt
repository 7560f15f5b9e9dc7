use Rattle.std.proofs.Common.{◌≡◌, ◌||◌, true, false, sym, ap, ◌∙◌}
use Rattle.model_base.specs.References.{deed_tables}
use Rattle.model_base.specs.Versions.{accesses_of}
use Rattle.bohm_core_base.specs.Batch.{is_listed}
use Rattle.evaluation.proofs.Listed.{by_accesses, tables-listed}
use Rattle.evaluation.proofs.tables.is_on.Goals as goal

pub returns-then-is_needed : goal.returns-then-is_needed
returns-then-is_needed c =
    let form = c.args.statement.now.form in
    let table = c.args.table in
    let hit : by_accesses table (accesses_of form) ≡ true = ap (by_accesses table) (sym c.accesses.ensures) ∙ sym c.is_needed.ensures ∙ c.if-is_needed.true in
    c.if-is_needed.true ∙ sym (tables-listed form table ∙ ap (λ needed. needed || is_listed (deed_tables form) table) hit)

pub returns-else-is_needed : goal.returns-else-is_needed
returns-else-is_needed c =
    let form = c.args.statement.now.form in
    let table = c.args.table in
    let miss : by_accesses table (accesses_of form) ≡ false = ap (by_accesses table) (sym c.accesses.ensures) ∙ sym c.is_needed.ensures ∙ c.if-is_needed.false in
    c.has_deed_on.ensures ∙ sym (tables-listed form table ∙ ap (λ needed. needed || is_listed (deed_tables form) table) miss)
