use Rattle.std.proofs.Common.{◌≡◌, ℕ, ◌+◌, ◌≤◌, ◌++◌, take}
use Rattle.model_base.specs.declared.row.Key.{Key}
use Rattle.chains.specs.Store.{cut_store, of_key, versions_by}
use Rattle.chains.proofs.store.Chains.put_place.Given as goal

-- the versions of the first accesses are there, and what is below the place stays
abbrev pub invariant-loop-index : goal.invariant-loop-index
invariant-loop-index l = record {
  added :
      (key : Key) → of_key key l.self.versions
      ≡ of_key key (l.initial.self.versions ++ versions_by l.place (take l.index l.accesses) l.window.rows);
  mark : l.self.mark ≡ l.initial.self.mark;
  end : l.self.end ≡ l.place + 1;
  cut : (first : ℕ) → first ≤ l.place → cut_store first l.self ≡ cut_store first l.initial.self;
}
