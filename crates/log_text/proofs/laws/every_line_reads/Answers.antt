-- A line without a fault reads as a statement.
use Rattle.log_text.proofs.Total.{total_in}
use Rattle.log_text.proofs.laws.every_line_reads.Goals as goal

pub returns : goal.returns
returns c = total_in c.args.version
