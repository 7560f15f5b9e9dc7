-- What is kept beside some records, so that they are found.
use Rattle.std.specs.Prelude.{◌≡◌, ◌≤◌, ℕ, Some, Option, IsSomeAnd, List, slice_get}
use Rattle.model_base.specs.declared.deed.Record.{Record}
use Rattle.grants_base.specs.Index.{is_to}
use Rattle.grants_base.specs.InForce.{KeepsInForce, made_under}
use Rattle.grants_base.specs.Sides.{Indexes, is_made_by, slots_under}
use Rattle.grants_base.specs.declared.index.Index.{Index}
use Rattle.grants_base.specs.declared.in_force.GranteeIndex.{GranteeIndex}

-- no record ends after this place; where there is none, no record has an end
abbrev pub EndBy : Option ℕ → List Record → Type 0
EndBy last entries =
    (slot place : ℕ) (entry : Record) → slice_get entries slot ≡ Some entry → entry.end ≡ Some place → IsSomeAnd last (λ it. place ≤ it)

-- the records are found by their grantees and by their grantors, and those in force by their grantees too; and when the last of them ended
pub record AreIndexed (entries : List Record) (by : Index) (last_end : Option ℕ) (in_force : GranteeIndex) : Type 0 where
  pub grantees : Indexes is_to (made_under in_force) entries
  pub grantors : Indexes is_made_by (slots_under by) entries
  pub last : EndBy last_end entries
  pub kept : KeepsInForce in_force entries
