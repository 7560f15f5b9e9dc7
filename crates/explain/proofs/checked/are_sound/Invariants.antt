use Rattle.std.proofs.Common.{◌≤◌, ℕ, List, drop, length}
use Rattle.model_base.specs.declared.deed.Deed.{Deed}
use Rattle.grants_base.specs.Book.{ShowsBook}
use Rattle.explain.specs.ExplainedNeeds.{AreSound}
use Rattle.explain.proofs.checked.are_sound.Given as goal

-- the lines that are left explain the needs that are left just where all explain all
abbrev pub invariant-loop-i : goal.invariant-loop-i
invariant-loop-i l = record {
  within : l.i ≤ length l.lines;
  same :
      (owners : List ℕ) (deeds : List Deed) → ShowsBook l.book owners deeds
      → (AreSound owners deeds l.place l.user (drop l.i l.needs) (drop l.i l.lines) → AreSound owners deeds l.place l.user l.needs l.lines)
      × (AreSound owners deeds l.place l.user l.needs l.lines → AreSound owners deeds l.place l.user (drop l.i l.needs) (drop l.i l.lines));
}
