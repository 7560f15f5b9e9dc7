-- The slots of the grants under each grantee or grantor, kind and table.
use Rattle.std.specs.Prelude.{◌≡◌, ◌==◌, ◌<◌, ◌+◌, ◌-◌, ◌*◌, ◌%◌, ◌^◌, ◌&&◌, ℕ, Bool, bit_xor, List, [], ◌∷◌, ◌++◌, All, if◌then◌else◌, length, take, unwrap_or}
use Rattle.std.specs.HashMap.{get}
use Rattle.model_base.specs.declared.deed.Grant.{Grant}
use Rattle.model_base.specs.declared.deed.Grantee.{Grantee}
use Rattle.model_base.specs.declared.deed.Grantee.TheVariants.{Public, User}
use Rattle.model_base.specs.declared.deed.Kind.{Kind}
use Rattle.model_base.specs.declared.deed.Record.{Record}
use Rattle.model_base.specs.Privileges.{same_grantee}
use Rattle.model_base.specs.Ranks.{kind_code}
use Rattle.model_base.specs.Records.{recorded}
use Rattle.grants_base.specs.declared.index.Index.{Index}
use Rattle.grants_base.specs.declared.index.HolderKey.{HolderKey}
use Rattle.grants_base.specs.Index.{is_about}

-- the code of a grantee, and so of a user: 0 for PUBLIC, else one more than the user's number
abbrev pub holder_code : Grantee → ℕ
holder_code (User user) = user + 1
holder_code Public = 0

-- what is looked up for a grantee, a kind and a table
abbrev pub side_of : Grantee → Kind → ℕ → HolderKey
side_of holder kind table = record { holder = holder_code holder; table = table; kind = kind_code kind }

-- and for a grantor, which is looked up as the user that it is
abbrev pub side_by : ℕ → Kind → ℕ → HolderKey
side_by user kind table = side_of (User user) kind table

-- the side of a grant's grantee
abbrev pub to_side : Grant → HolderKey
to_side grant = side_of grant.grantee grant.kind grant.table

-- and that of its grantor
abbrev pub by_side : Grant → HolderKey
by_side grant = side_by grant.grantor grant.kind grant.table

-- whether the grant is by this one, of this kind on this table; PUBLIC makes no grant
abbrev pub is_made_by : Grantee → Kind → ℕ → Grant → Bool
is_made_by grantor kind table grant = same_grantee (User grant.grantor) grantor && is_about kind table grant

abbrev pub same_side : HolderKey → HolderKey → Bool
same_side a b = (a.holder == b.holder) && ((a.table == b.table) && (a.kind == b.kind))

-- the number of a side that is hashed
abbrev pub side_word : HolderKey → ℕ
side_word side = bit_xor (bit_xor side.holder (side.table * 2 ^ 34 % 2 ^ 64)) (side.kind * 2 ^ 50 % 2 ^ 64)

-- the slots that an index has under a side
abbrev pub slots_under : Index → HolderKey → List ℕ
slots_under index side = unwrap_or (get same_side index.sides side) []

-- there are no slots under any side
abbrev pub IsEmpty : (HolderKey → List ℕ) → Type 0
IsEmpty slots = (side : HolderKey) → slots side ≡ []

-- there are under each side those that were there
abbrev pub IsSame : (HolderKey → List ℕ) → (HolderKey → List ℕ) → Type 0
IsSame old new = (other : HolderKey) → new other ≡ old other

-- and under one side a slot more, which is the last
abbrev pub IsPushed : HolderKey → ℕ → (HolderKey → List ℕ) → (HolderKey → List ℕ) → Type 0
IsPushed side slot old new = (other : HolderKey) → new other ≡ (if same_side side other then old other ++ slot ∷ [] else old other)

-- or all but the last under one side
abbrev pub IsPopped : HolderKey → (HolderKey → List ℕ) → (HolderKey → List ℕ) → Type 0
IsPopped side old new =
    (other : HolderKey) → new other ≡ (if same_side side other then take (length (old other) - 1) (old other) else old other)

-- each slot lies below the later ones
abbrev pub AreAscending : List ℕ → Type 0
AreAscending [] = Unit {0}
AreAscending (slot ∷ slots) = All (λ later. slot < later) slots × AreAscending slots

-- the slots of the grants that pass, counted from this one
abbrev pub slots_from : (Grant → Bool) → ℕ → List Grant → List ℕ
slots_from passes slot [] = []
slots_from passes slot (grant ∷ grants) =
    if passes grant then slot ∷ slots_from passes (slot + 1) grants else slots_from passes (slot + 1) grants

-- under each holder, kind and table are the slots of the records whose grants pass for these, in order
abbrev pub Indexes : (Grantee → Kind → ℕ → Grant → Bool) → (HolderKey → List ℕ) → List Record → Type 0
Indexes passes slots entries =
    (holder : Grantee) (kind : Kind) (table : ℕ)
    → slots (side_of holder kind table) ≡ slots_from (passes holder kind table) 0 (recorded entries)
