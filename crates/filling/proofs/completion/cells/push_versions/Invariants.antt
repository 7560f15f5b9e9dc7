use Rattle.std.proofs.Common.{◌≡◌, ◌++◌, drop, slice_index_or}
use Rattle.filling.specs.Cells.{versions_told}
use Rattle.filling.proofs.completion.cells.push_versions.Given as goal

-- the versions so far, with those that the words that are left tell of the accesses that are left
abbrev pub invariant-loop-access : goal.invariant-loop-access
invariant-loop-access l =
    l.versions.items ++ versions_told (λ table. slice_index_or l.columns table 0) l.place (drop l.access-index l.accesses) l.words
    ≡ l.initial.versions.items ++ versions_told (λ table. slice_index_or l.columns table 0) l.place l.accesses l.cells
