use Rattle.std.proofs.Common.{sym, ◌∙◌}
use Rattle.log_text.proofs.Grammar.{one_statement, line_is_spelling, no_fault}
use Rattle.log_text.proofs.parsing.line.one_spelling.Goals as goal

pub returns : goal.returns
returns c = record {
  statement = one_statement c.args.version;
  line = λ l m s a b. line_is_spelling l s a.same ∙ sym (line_is_spelling m s b.same);
  fault = no_fault c.args.version;
}
