-- The needs of a statement, drawn down from the front.
use Rattle.std.specs.Prelude.{ℕ, false, List, ◌++◌, map}
use Rattle.std.specs.List.{flat_map}
use Rattle.model_base.specs.declared.deed.Kind.{Kind}
use Rattle.model_base.specs.declared.deed.Kinds.{Kinds}
use Rattle.model_base.specs.declared.deed.Need.{Need}
use Rattle.model_base.specs.declared.statement.Access.{Access}
use Rattle.model_base.specs.Outcomes.{kinds_in, needs_of_access}

-- a kind on a table, without the option
abbrev pub need_on : ℕ → Kind → Need
need_on table kind = record { table = table; kind = kind; option = false }

-- those of one access by its kinds that are left, of the accesses after it, and those of the deed
abbrev pub needs_left : ℕ → Kinds → List Access → List Need → List Need
needs_left table kinds accesses deed = map (need_on table) (kinds_in kinds) ++ (flat_map needs_of_access accesses ++ deed)
