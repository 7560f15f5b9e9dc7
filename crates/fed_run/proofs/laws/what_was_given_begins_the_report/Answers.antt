use Rattle.fed_run.proofs.FedTexts.{given_begins}
use Rattle.fed_run.proofs.laws.what_was_given_begins_the_report.Goals as goal

pub returns : goal.returns
returns c = given_begins
