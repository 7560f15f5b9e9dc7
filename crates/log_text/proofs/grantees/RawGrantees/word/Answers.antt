use Rattle.std.proofs.Common.{ap, sym, ◌∙◌}
use Rattle.log_text.specs.Grantees.{grantees_word}
use Rattle.log_text.proofs.GranteeLists.{list_back}
use Rattle.log_text.proofs.grantees.RawGrantees.word.Goals as goal

pub returns : goal.returns
returns c = sym (list_back _) ∙ ap grantees_word c.before.self.view_is
