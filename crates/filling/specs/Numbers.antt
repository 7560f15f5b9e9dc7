-- The listed ends of some records, by their numbers in the list.
use Rattle.std.specs.Prelude.{◌==◌, ◌++◌, ℕ, Option, List, [], ◌∷◌}
use Rattle.std.specs.List.{position}
use Rattle.std.specs.Option.{option_to_list}
use Rattle.bohm_core_base.specs.Batch.{Batch, rank_at}

-- the number of the listed end of the record of a rank, if there is one
abbrev pub number_at : Batch → List ℕ → ℕ → Option ℕ
number_at batch listed ranked = position (λ slot. rank_at batch slot == ranked) listed

-- those of some records, in order
abbrev pub numbers_at : Batch → List ℕ → List ℕ → List ℕ
numbers_at batch listed [] = []
numbers_at batch listed (ranked ∷ ranks) = option_to_list (number_at batch listed ranked) ++ numbers_at batch listed ranks
