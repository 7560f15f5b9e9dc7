-- What it means to be the last place before another.
use Rattle.std.specs.Prelude.{◌≡◌, ◌<◌, ◌≤◌, ℕ, Bool, true, false, List, slice_get}
use Rattle.std.specs.Option.{option_map_or}
use Rattle.model_base.specs.declared.reference.Reference.{Reference}
use Rattle.model_base.specs.declared.reference.Reference.TheVariants.{Base, At}
use Rattle.model_base.specs.declared.statement.Statement.{Statement}

-- an earlier place of the batch whose statement passes the test
pub record IsEarlier (test : Statement → Bool) (log : List Statement) (first place earlier : ℕ) : Type 0 where
  pub in_batch : first ≤ earlier
  pub before : earlier < place
  pub passes : option_map_or test (slice_get log earlier) false ≡ true

-- the reference is to the last such place, or to the base, and then there is none
abbrev pub IsLast : (Statement → Bool) → List Statement → ℕ → ℕ → Reference → Type 0
IsLast test log first place Base = (earlier : ℕ) → IsEarlier test log first place earlier → ⊥
IsLast test log first place (At last) =
    IsEarlier test log first place last × ((earlier : ℕ) → last < earlier → IsEarlier test log first place earlier → ⊥)
