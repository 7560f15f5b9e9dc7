use Rattle.std.proofs.Common.{◌≡◌, take, drop}
use Rattle.model_base.specs.Outcomes.{cause, cause_after}
use Rattle.model_base.specs.Privileges.{holds}
use Rattle.model.proofs.replay.cause.Given as goal

-- what is found, with what the rest finds, is what the whole finds
abbrev pub invariant-loop-i : goal.invariant-loop-i
invariant-loop-i l = record {
  whole : cause_after l.owners l.user l.need (take l.i l.deeds) (drop l.i l.deeds) l.found ≡ cause l.owners l.deeds l.user l.need;
  before : l.was_held ≡ holds l.owners (take l.i l.deeds) l.user l.need;
}
