-- Statements that name no table of a deed make none.
use Rattle.std.proofs.Common.{◌≡◌, ℕ, Bool, true, not, [], Option, None, Some, refl, true≢false}
use Rattle.std.specs.Prelude.{is_some}
use Rattle.std.specs.Option.{option_to_list}
use Rattle.model_base.specs.declared.statement.Form.{Form}
use Rattle.model_base.specs.Outcomes.{deeds_of}
use Rattle.model_base.specs.References.{deed_tables}

pub no_deeds : (place user : ℕ) (form : Form) → [] ≡ deed_tables form → deeds_of place user form ≡ []
no_deeds place user (Form.Create table columns) none = refl
no_deeds place user (Form.Run accesses steps None) none = refl
no_deeds place user (Form.Run accesses steps (Some deed)) none = absurd (cc)
no_deeds place user (Form.Deed deed) none = absurd (cc)

-- no table is an empty list of them
pub none_listed : (table : Option ℕ) (none : Bool) → is_some table ≡ not none → none ≡ true → [] ≡ option_to_list table
none_listed None none is found = refl
none_listed (Some table) none is found = let never : true ≡ not true = rw found at is in absurd (true≢false never)
