-- The order of the records of grants: by the place of their deed, at one place by kind, and of one kind by the position of the grantee in
-- the deed. Each repeated grant is a record by itself: R. Fagin, "On an Authorization Mechanism", ACM Transactions on Database Systems 3
-- (1978).
use Rattle.std.specs.Prelude.{◌+◌, ◌*◌, ◌/◌, ◌%◌, ℕ}
use Rattle.model_base.specs.declared.deed.Kind.{Kind}
use Rattle.model_base.specs.declared.deed.Kind.TheVariants.{Read, Insert, Update, Delete}
use Rattle.model_base.specs.declared.deed.Position.{Position}
use Rattle.model_base.specs.declared.deed.Position.TheVariants.{First, Second, Third, Fourth, Fifth, Sixth, Seventh, Eighth}
use Rattle.model_base.specs.declared.deed.Grant.{Grant}
use Rattle.model_base.specs.declared.deed.Deed.{Deed}
use Rattle.model_base.specs.declared.deed.Deed.TheVariants.{Granting, Revoking}

-- the code of a kind, in order
abbrev pub kind_code : Kind → ℕ
kind_code Read = 0
kind_code Insert = 1
kind_code Update = 2
kind_code Delete = 3

-- the code of a position, in order
abbrev pub position_code : Position → ℕ
position_code First = 0
position_code Second = 1
position_code Third = 2
position_code Fourth = 3
position_code Fifth = 4
position_code Sixth = 5
position_code Seventh = 6
position_code Eighth = 7

-- the rank of a record: by place, then by kind, then by position
unfoldable pub rank_of : ℕ → Kind → Position → ℕ
rank_of place kind position = (place * 4 + kind_code kind) * 8 + position_code position

-- the rank of the record of a grant
abbrev pub rank : Grant → ℕ
rank grant = rank_of grant.place grant.kind grant.position

-- the place of the record of a rank
abbrev pub place_of_rank : ℕ → ℕ
place_of_rank ranked = ranked / 32

-- the code of the position of the record of a rank
abbrev pub position_of_rank : ℕ → ℕ
position_of_rank ranked = ranked % 8

-- the number of a deed: a grant's rank; of a revocation, the last of its place, so that no grant of the place comes after it
abbrev pub deed_number : Deed → ℕ
deed_number (Granting grant) = rank grant
deed_number (Revoking revocation) = revocation.place * 32 + 31
