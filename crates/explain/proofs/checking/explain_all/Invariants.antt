use Rattle.std.proofs.Common.{◌<◌, ℕ, List, drop, length}
use Rattle.std.specs.Prelude.{All}
use Rattle.model_base.specs.declared.deed.Deed.{Deed}
use Rattle.model_base.specs.declared.deed.Need.{Need}
use Rattle.model_base.specs.Outcomes.{needs}
use Rattle.grants_base.specs.Book.{ShowsBook}
use Rattle.explain.specs.ExplainedNeeds.{AreSound}
use Rattle.explain.proofs.checking.explain_all.Given as goal

-- the lines that are left explain the needs that are left just where all explain all
abbrev pub invariant-loop-i : goal.invariant-loop-i
invariant-loop-i l =
    (owners : List ℕ) (deeds : List Deed) → ShowsBook l.book owners deeds → All (λ (need : Need). need.table < length l.book.tables) (needs l.form)
    → (AreSound owners deeds l.place l.user (drop l.i (needs l.form)) (drop l.i l.lines) → AreSound owners deeds l.place l.user (needs l.form) l.lines)
    × (AreSound owners deeds l.place l.user (needs l.form) l.lines → AreSound owners deeds l.place l.user (drop l.i (needs l.form)) (drop l.i l.lines))
