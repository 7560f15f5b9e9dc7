-- The records of an outcome as they are appended: by their places alone, or each with its grantee.
use Rattle.std.specs.Prelude.{ℕ, Some, List, [], ◌∷◌, ◌++◌}
use Rattle.std.specs.Fmt.{decimal}
use Rattle.std.specs.List.{flat_map}
use Rattle.model_base.specs.declared.deed.Grantee.{Grantee}
use Rattle.model_base.specs.Ranks.{place_of_rank}
use Rattle.report.specs.Text.{spelled_record}

-- the place of each record after a space
abbrev pub places_text : List ℕ → List ℕ
places_text ranks = flat_map (λ ranked. 32 ∷ decimal (place_of_rank ranked)) ranks

-- each record with its grantee after a space, as long as there are both
abbrev pub spelled_records : List (List ℕ) → List ℕ → List Grantee → List ℕ
spelled_records users [] grantees = []
spelled_records users (ranked ∷ ranks) [] = []
spelled_records users (ranked ∷ ranks) (grantee ∷ grantees) =
    32 ∷ spelled_record users ranked (Some grantee) ++ spelled_records users ranks grantees
