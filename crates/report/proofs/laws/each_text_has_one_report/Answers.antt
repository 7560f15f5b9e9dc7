use Rattle.log_text.proofs.Total.{total_in}
use Rattle.report.proofs.Readings.{one_report, some_report}
use Rattle.report.proofs.laws.each_text_has_one_report.Goals as goal

pub returns : goal.returns
returns c = record {
  some = some_report total_in;
  one = one_report;
}
