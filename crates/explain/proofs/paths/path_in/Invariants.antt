use Rattle.std.proofs.Common.{◌≡◌, ◌≤◌, ◌++◌, ℕ, List, Some, length}
use Rattle.std.specs.Prelude.{reverse, slice_get}
use Rattle.model_base.specs.Paths.{path}
use Rattle.explain.specs.Lines.{ranks_of}
use Rattle.explain.specs.Steps.{stood}
use Rattle.explain.proofs.paths.path_in.Given as goal

-- the path is that of the holder by the slots that are left, and then what was found, last first
abbrev pub invariant-loop-giving : goal.invariant-loop-giving
invariant-loop-giving g l = record {
  same : g.V.Records.shown l.view ≡ g.V.Records.shown l.initial.view;
  within : l.end ≤ length (g.V.Records.shown l.initial.view).slots;
  table : l.needed.table ≡ l.need.table;
  path :
      (owners : List ℕ) → slice_get owners l.need.table ≡ Some l.owner
      → ranks_of (path owners (stood (g.V.Records.shown l.initial.view) (length (g.V.Records.shown l.initial.view).slots)) l.fn.user l.need)
      ≡ ranks_of (path owners (stood (g.V.Records.shown l.initial.view) l.end) l.holder l.needed) ++ reverse l.names.items;
}

abbrev pub decreases-loop-giving : goal.decreases-loop-giving
decreases-loop-giving g l = l.end
