-- The references of a batch, gathered from what the partitions found.
use Rattle.std.specs.Prelude.{ℕ, zero, suc, List, [], ◌∷◌, fold, slice_index_or, slice_range, slice_set}
use Rattle.model_base.specs.declared.reference.Reference.{Reference}
use Rattle.model_base.specs.declared.reference.Reference.TheVariants.{At}
use Rattle.placing.specs.declared.part.Found.{Found}
use Rattle.placing.specs.Parts.{PartOf}

-- the list in pieces, which end where the numbers say; the first begins at this index
abbrev pub pieces : ℕ → List ℕ → List Reference → List (List Reference)
pieces start [] references = []
pieces start (end ∷ ends) references = slice_range references start end ∷ pieces end ends references

-- where the piece of this index begins
abbrev pub start_at : ℕ → List ℕ → ℕ → ℕ
start_at start ends zero = start
start_at start ends (suc index) = slice_index_or ends index 0

-- the references with what was found at its index
abbrev pub with_found : List Reference → Found → List Reference
with_found references found = slice_set references found.index (At found.place)

-- the references with all that a partition found
abbrev pub with_part : List Reference → PartOf → List Reference
with_part references part = fold with_found references part.found

-- where the references of each place end, and how many there are, by the first part; all parts of a batch say the same
abbrev pub first_ends : List PartOf → List ℕ
first_ends [] = []
first_ends (part ∷ parts) = part.ends

abbrev pub first_count : List PartOf → ℕ
first_count [] = 0
first_count (part ∷ parts) = part.count
