use Rattle.std.proofs.Common.{◌≡◌, ◌≤◌, ℕ, length}
use Rattle.grants_base.specs.Book.{cut_book}
use Rattle.engine.specs.RunState.{IsMaking}
use Rattle.engine.proofs.booking.make_grants.Given as goal

-- the grants that are left are to be made yet, and those that were made are of the place
abbrev pub invariant-grants : goal.invariant-grants
invariant-grants g l = record {
  making : IsMaking g.log.statements l.place l.rest l.book;
  cut : (first : ℕ) → first ≤ l.place → cut_book first l.book ≡ cut_book first l.initial.book;
}

abbrev pub decreases-grants : goal.decreases-grants
decreases-grants g l = length l.rest
