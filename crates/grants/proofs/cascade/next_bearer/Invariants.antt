use Rattle.std.proofs.Common.{◌-◌, ◌≡◌, ◌<◌, ℕ, false}
use Rattle.grants_base.specs.Index.{is_one_of}
use Rattle.grants.specs.Work.{bears, slots_of}
use Rattle.grants_base.specs.View.{slot_at}
use Rattle.grants.proofs.cascade.next_bearer.Given as goal

-- no slot so far that hasn't ended gives the user the option
abbrev pub invariant-loop-from : goal.invariant-loop-from
invariant-loop-from g l = record {
  same : g.V.Records.shown l.view ≡ g.V.Records.shown l.initial.view;
  none : (k : ℕ) → k < l.from → is_one_of (slots_of l.ended.ends) k ≡ false → bears l.revocation l.holder.user l.holder.kind (slot_at (g.V.Records.shown l.initial.view) k) ≡ false;
}

abbrev pub decreases-loop-from : goal.decreases-loop-from
decreases-loop-from g l = l.below - l.from
