use Rattle.std.proofs.Common.{◌≡◌, ◌++◌, ℕ, List, drop}
use Rattle.model_base.specs.declared.deed.Deed.{Deed}
use Rattle.grants_base.specs.Book.{ShowsBook}
use Rattle.explain.specs.ExplainedNeeds.{explaining_lines}
use Rattle.explain.proofs.explained.explain_needs.Given as goal

-- the lines so far, and those of the needs that are left, are those of all
abbrev pub invariant-loop-need : goal.invariant-loop-need
invariant-loop-need l =
    (owners : List ℕ) (deeds : List Deed) → ShowsBook l.book owners deeds
    → l.lines.items ++ explaining_lines owners deeds l.place l.user (drop l.need-index l.needs) ≡ explaining_lines owners deeds l.place l.user l.needs
