use Rattle.explain.proofs.Lines.{accepted-held, accepted-privileged}
use Rattle.explain.proofs.laws.accepted_needs_are_held.Goals as goal

pub returns : goal.returns
returns c = record {
  held = accepted-held;
  privileged = accepted-privileged;
}
