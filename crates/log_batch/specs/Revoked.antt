-- The grants that revocations name: those by a user to a grantee, of a kind on a table.
use Rattle.std.specs.Prelude.{◌==◌, ◌&&◌, Bool, List}
use Rattle.std.specs.BTreeSet.{contains}
use Rattle.std.specs.Ordering.{nat_cmp, ordering_then}
use Rattle.std.specs.declared.cmp.Ordering.{Ordering}
use Rattle.model_base.specs.declared.deed.Grant.{Grant}
use Rattle.model_base.specs.declared.deed.Grantee.{Grantee}
use Rattle.model_base.specs.declared.deed.Kind.{Kind}
use Rattle.model_base.specs.declared.deed.Revocation.{Revocation}
use Rattle.model_base.specs.Privileges.{concerns, has_grantee, has_kind}
use Rattle.grants_base.specs.Force.{gives_by}
use Rattle.log_batch.specs.declared.revoked.Named.{Named}
use Rattle.log_batch.specs.declared.revoked.Revoked.{Revoked}
use Rattle.log_batch.specs.Holders.{grantee_holder, holder_cmp, holder_of, same_holder}

-- those of a kind to a grantee that a revocation names if it speaks of both
abbrev pub named_by : Revocation → Grantee → Kind → Named
named_by revocation grantee kind = record {
  grantor = revocation.grantor;
  holder = holder_of grantee kind revocation.table;
}

-- whether the grant is one of them: by its grantor to the grantee, of the kind on its table
abbrev pub is_between : Revocation → Grantee → Kind → Grant → Bool
is_between revocation grantee kind = gives_by revocation.grantor grantee kind revocation.table

-- whether the revocation speaks of the kind and names the grant by it, if it speaks of the grantee
abbrev pub names_of_kind : Revocation → Grantee → Kind → Grant → Bool
names_of_kind revocation grantee kind grant = has_kind revocation.kinds kind && is_between revocation grantee kind grant

-- whether the revocation names the grant, if it speaks of these grantees
abbrev pub names_to : Revocation → List Grantee → Grant → Bool
names_to revocation grantees grant =
    (revocation.grantor == grant.grantor) && (has_grantee grantees grant.grantee && concerns revocation grant)

-- those that a revocation of the grant names
abbrev pub named_with : Grant → Named
named_with grant = record { grantor = grant.grantor; holder = grantee_holder grant }

abbrev pub named_cmp : Named → Named → Ordering
named_cmp a b = ordering_then (nat_cmp a.grantor b.grantor) (holder_cmp a.holder b.holder)

abbrev pub same_named : Named → Named → Bool
same_named a b = (a.grantor == b.grantor) && same_holder a.holder b.holder

-- whether they are among these
abbrev pub has_named : Revoked → Named → Bool
has_named revoked named = contains named_cmp revoked.named named

-- whether the grant is
abbrev pub is_named_by : Revoked → Grant → Bool
is_named_by revoked grant = has_named revoked (named_with grant)
