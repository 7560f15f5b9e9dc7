use Rattle.std.proofs.Common.{◌-◌, ◌≡◌, ◌<◌, ℕ, false}
use Rattle.grants_base.specs.View.{slot_at, slot_gives}
use Rattle.grants.specs.Loss.{narrowed}
use Rattle.explain.proofs.paths.first_giving_to.Given as goal

-- no slot so far gives what is needed
abbrev pub invariant-loop-from : goal.invariant-loop-from
invariant-loop-from g l = record {
  same : g.V.Records.shown l.view ≡ g.V.Records.shown l.initial.view;
  none : (k : ℕ) → k < l.from → slot_gives (slot_at (narrowed l.grantee (g.V.Records.shown l.initial.view)) k) l.user l.need ≡ false;
}

abbrev pub decreases-loop-from : goal.decreases-loop-from
decreases-loop-from g l = l.end - l.from
