use Rattle.model_base.specs.declared.statement.RowName.TheVariants.{Number}
use Rattle.log_text.proofs.Rows.{row_fits}
use Rattle.log_text.proofs.parsing.fields.row.Goals as goal

pub returns-in-Some-clause-ok : goal.returns-in-Some-clause-ok
returns-in-Some-clause-ok c = (c.in-Some.ensures.0, c.in-Some.ensures.1, row_fits (Number c.in-Some.number) c.in-Some.ensures.1)
