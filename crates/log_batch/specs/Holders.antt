-- Users, and PUBLIC, each with a kind on a table.
use Rattle.std.specs.Prelude.{◌==◌, ◌&&◌, None, Option, Some, ℕ, Bool, if◌then◌else◌}
use Rattle.std.specs.BTreeSet.{contains}
use Rattle.std.specs.Ordering.{nat_cmp, ordering_then}
use Rattle.std.specs.declared.cmp.Ordering.{Ordering}
use Rattle.model_base.specs.declared.deed.Grant.{Grant}
use Rattle.model_base.specs.declared.deed.Grantee.{Grantee}
use Rattle.model_base.specs.declared.deed.Grantee.TheVariants.{User}
use Rattle.model_base.specs.declared.deed.Kind.{Kind}
use Rattle.log_batch.specs.declared.holders.HolderKey.{HolderKey}
use Rattle.log_batch.specs.declared.holders.Holders.{Holders}
use Rattle.grants_base.specs.Sides.{holder_code}
use Rattle.model_base.specs.Ranks.{kind_code}

-- a grantee with a kind on a table; a grantor is the user that it is
abbrev pub holder_of : Grantee → Kind → ℕ → HolderKey
holder_of holder kind table = record { holder = holder_code holder; table = table; kind = kind_code kind }

-- whom a grant is to, and by whom it is, with its kind on its table
abbrev pub grantee_holder : Grant → HolderKey
grantee_holder grant = holder_of grant.grantee grant.kind grant.table

abbrev pub grantor_of : Grant → HolderKey
grantor_of grant = holder_of (User grant.grantor) grant.kind grant.table

abbrev pub holder_cmp : HolderKey → HolderKey → Ordering
holder_cmp a b = ordering_then (nat_cmp a.holder b.holder) (ordering_then (nat_cmp a.table b.table) (nat_cmp a.kind b.kind))

abbrev pub same_holder : HolderKey → HolderKey → Bool
same_holder a b = (a.holder == b.holder) && ((a.table == b.table) && (a.kind == b.kind))

-- whether it is among these
abbrev pub has_holder : Holders → HolderKey → Bool
has_holder holders holder = contains holder_cmp holders.holders holder

-- the user to whom a grant gives the option, if it isn't among these with the grant's kind and table
abbrev pub new_holder : Holders → Grant → Option ℕ → Option ℕ
new_holder lent grant None = None
new_holder lent grant (Some user) = if has_holder lent (holder_of (User user) grant.kind grant.table) then None else Some user
