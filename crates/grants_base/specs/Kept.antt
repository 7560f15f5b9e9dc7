-- What is kept under a grantee, kind and table, by how many grants were made.
use Rattle.std.specs.Prelude.{ℕ, Option, Some, None, [], ◌∷◌, if◌then◌else◌, is_none}
use Rattle.grants_base.specs.Force.{held_by_one, no_grant_slots, no_privilege, privilege_of}
use Rattle.grants_base.specs.declared.force.Given.{Given}
use Rattle.grants_base.specs.declared.side.Kept.{Kept}
use Rattle.grants_base.specs.declared.side.Kept.TheVariants.{Nothing, One, Many}
use Rattle.grants_base.specs.declared.side.Only.{Only}
use Rattle.grants_base.specs.declared.side.Several.{Several}

abbrev pub no_side : Several
no_side = record { made = []; privilege = no_privilege }

-- the only grant, if it is in force
abbrev pub one_in_force : Only → Option Given
one_in_force only = if is_none only.lost then Some only.given else None

-- the place at which it left force, if it did and has the option
abbrev pub lost_with_option : Only → Option ℕ
lost_with_option only = if only.given.option then only.lost else None

abbrev pub several_of_one : Only → Several
several_of_one only = record {
  made = only.given.slot ∷ [];
  privilege = privilege_of (held_by_one (one_in_force only)) no_grant_slots only.lost (lost_with_option only);
}

abbrev pub several_of : Kept → Several
several_of Nothing = no_side
several_of (One only) = several_of_one only
several_of (Many several) = several.value

-- it isn't that of a single grant
abbrev pub IsWide : Kept → Type 0
IsWide Nothing = Unit {0}
IsWide (One only) = ⊥
IsWide (Many several) = Unit {0}
