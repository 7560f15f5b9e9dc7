-- What is available of the references of a range's places: the references, or only how many each place has.
use Rattle.std.specs.Prelude.{◌≡◌, ◌<◌, ◌+◌, ℕ, Bool, true, false, List, [], length, map, slice_index}
use Rattle.model_base.specs.declared.reference.Reference.{Reference}
use Rattle.model_base.specs.declared.statement.Statement.{Statement}
use Rattle.model_base.specs.References.{batch_references, references}
use Rattle.log_batch.specs.declared.referred.References.{References}
use Rattle.log_batch.specs.declared.referred.References.TheVariants.{Found, Counted}

-- whether the references were found
abbrev pub is_found : References → Bool
is_found (Found listed) = true
is_found (Counted counts) = false

-- those that were found
abbrev pub listed_in : References → List (List Reference)
listed_in (Found listed) = listed
listed_in (Counted counts) = []

-- how many each place has
abbrev pub counts_in : References → List ℕ
counts_in (Found listed) = map (λ (list : List Reference). length list) listed
counts_in (Counted counts) = counts.items

-- this many references have this many places of the log, from the first of a range on
pub record AreCounts (log : List Statement) (first size : ℕ) (counts : List ℕ) : Type 0 where
  pub every : length counts ≡ size
  pub each : (index : ℕ) → index < size → slice_index counts index ≡ length (references log first (first + index))

-- it is available for a range of the log: the references of its places, if they were found, and how many each place has
pub record AreAtHand (log : List Statement) (first size : ℕ) (at_hand : References) : Type 0 where
  pub found : is_found at_hand ≡ true → listed_in at_hand ≡ batch_references log first (first + size)
  pub counts : AreCounts log first size (counts_in at_hand)
