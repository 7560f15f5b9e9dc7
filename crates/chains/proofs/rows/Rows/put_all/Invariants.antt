use Rattle.std.proofs.Common.{◌≡◌, ℕ, ◌++◌, drop, map, take}
use Rattle.model_base.specs.declared.row.Key.{Key}
use Rattle.chains.specs.Keyed.{held_below}
use Rattle.chains.specs.Kept.{AreWrittenInOrder, replacing_of, written_by, written_to}
use Rattle.chains.specs.Store.{of_key}
use Rattle.chains.proofs.rows.Rows.put_all.Given as goal

-- the first versions are put, and what is below the place stays
abbrev pub invariant-loop-version : goal.invariant-loop-version
invariant-loop-version l = record {
  added : (key : Key) → of_key key l.self.versions ≡ of_key key (l.initial.self.versions ++ take l.version-index l.versions);
  replacing : (key : Key) → written_to key l.self.replacing ≡ replacing_of (of_key key l.self.versions);
  rising :
      (from end : ℕ) → AreWrittenInOrder from end (l.initial.self.replacing ++ map written_by l.versions)
      → AreWrittenInOrder from end (l.self.replacing ++ map written_by (drop l.version-index l.versions));
  below : held_below l.first l.self ≡ held_below l.first l.initial.self;
}
