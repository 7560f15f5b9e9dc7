-- Which versions of rows are left once they are trimmed and swept: those that a row before a place from the mark on may come from.
use Rattle.std.specs.Prelude.{◌≡◌, ◌≤◌, false, filter, length, nat_lt}
use Rattle.model_base.specs.declared.row.Key.{Key}
use Rattle.chains.specs.Store.{Store, is_spent, of_key}
use Rattle.chains.specs.declared.version.Version.{Version}

-- of each key at most one version lies below the mark, and those of no key say nothing but that its row is absent
pub record IsSwept (store : Store) : Type 0 where
  pub one : (key : Key) → length (filter (λ (version : Version). nat_lt version.place store.mark) (of_key key store.versions)) ≤ 1
  pub told : (key : Key) → is_spent store.mark (of_key key store.versions) ≡ false
