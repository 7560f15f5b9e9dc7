use Rattle.std.proofs.Common.{◌∙◌}
use Rattle.report.proofs.Denials.{line-tells, report-lines}
use Rattle.report.proofs.laws.reports_tell_who_was_denied.Goals as goal

pub returns : goal.returns
returns c = record {
  lines = λ input text is. (is.0, is.1.0, is.1.1 ∙ report-lines is.0);
  denials = line-tells;
}
