use Rattle.std.proofs.Common.{◌≡◌, ◌≤◌, ◌<◌, ℕ, suc, Some, slice_get}
use Rattle.workers.proofs.placing.place_round.Given as goal

abbrev pub invariant-loop-placer : goal.invariant-loop-placer
invariant-loop-placer g l =
    (index : ℕ) (placer : _) → slice_get l.placers index ≡ Some placer
    → g.P.BatchPlacer.is_of l.shared placer × (l.count ≤ g.P.BatchPlacer.front placer)
    × (index < l.placer-index → suc l.count ≤ g.P.BatchPlacer.front placer)
