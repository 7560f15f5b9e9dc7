use Rattle.std.proofs.Common.{sym, ◌∙◌, ap}
use Rattle.std.specs.Prelude.{List, length}
use Rattle.model_base.specs.declared.deed.Deed.{Deed}
use Rattle.model_base.specs.Outcomes.{owners}
use Rattle.model_base.specs.Privileges.{holds}
use Rattle.model_base.proofs.Logs.{deeds_before-below}
use Rattle.privileges.proofs.laws.spans_tell_of_logs.Goals as goal

pub returns : goal.returns
returns c = λ log place user need spans within told.
    ap (λ (deeds : List Deed). holds (owners log) deeds user need) (sym (deeds_before-below log place (length log) within)) ∙ told.tells place
