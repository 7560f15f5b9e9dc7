-- The name of a record by its rank.
use Rattle.std.specs.Prelude.{◌≡◌, ◌<◌, ◌/◌, ◌%◌, ℕ, zero, suc}
use Rattle.std.proofs.Common.{arith, refl}
use Rattle.model_base.specs.declared.deed.Kind.{Kind}
use Rattle.model_base.specs.declared.deed.Kind.TheVariants.{Read, Insert, Update, Delete}
use Rattle.model_base.specs.declared.deed.Position.{Position}
use Rattle.model_base.specs.declared.deed.Position.TheVariants.{First, Second, Third, Fourth, Fifth, Sixth, Seventh, Eighth}
use Rattle.model_base.specs.declared.deed.RecordName.TheInside.{Inside}
use Rattle.model_base.specs.Ranks.{kind_code, position_code, rank_of}

-- the kind of a code
abbrev pub kind_of_code : ℕ → Kind
kind_of_code zero = Read
kind_of_code (suc zero) = Insert
kind_of_code (suc (suc zero)) = Update
kind_of_code (suc (suc (suc _))) = Delete

-- the kind of the record of a rank
abbrev pub kind_of_rank : ℕ → Kind
kind_of_rank ranked = kind_of_code (ranked / 8 % 4)

-- the position of a code
abbrev pub position_of_code : ℕ → Position
position_of_code zero = First
position_of_code (suc zero) = Second
position_of_code (suc (suc zero)) = Third
position_of_code (suc (suc (suc zero))) = Fourth
position_of_code (suc (suc (suc (suc zero)))) = Fifth
position_of_code (suc (suc (suc (suc (suc zero))))) = Sixth
position_of_code (suc (suc (suc (suc (suc (suc zero)))))) = Seventh
position_of_code (suc (suc (suc (suc (suc (suc (suc _))))))) = Eighth

-- the name of the record of a rank
abbrev pub named : ℕ → Inside
named ranked = record {
  place = ranked / 32;
  kind = kind_of_code (ranked / 8 % 4);
  position = position_of_code (ranked % 8);
}

pub kind-back : (kind : Kind) → kind_of_code (kind_code kind) ≡ kind
kind-back Read = refl
kind-back Insert = refl
kind-back Update = refl
kind-back Delete = refl

pub position-back : (position : Position) → position_of_code (position_code position) ≡ position
position-back First = refl
position-back Second = refl
position-back Third = refl
position-back Fourth = refl
position-back Fifth = refl
position-back Sixth = refl
position-back Seventh = refl
position-back Eighth = refl

pub few_kinds : (kind : Kind) → kind_code kind < 4
few_kinds Read = omega arith
few_kinds Insert = omega arith
few_kinds Update = omega arith
few_kinds Delete = omega arith

pub few_positions : (position : Position) → position_code position < 8
few_positions First = omega arith
few_positions Second = omega arith
few_positions Third = omega arith
few_positions Fourth = omega arith
few_positions Fifth = omega arith
few_positions Sixth = omega arith
few_positions Seventh = omega arith
few_positions Eighth = omega arith

pub named-undoes : (name : Inside) → named (rank_of name.place name.kind name.position) ≡ name
unfolding rank_of
named-undoes name =
    let kinds = few_kinds name.kind in
    let positions = few_positions name.position in
    let place : rank_of name.place name.kind name.position / 32 ≡ name.place = omega arith in
    let kind : rank_of name.place name.kind name.position / 8 % 4 ≡ kind_code name.kind = omega arith in
    let position : rank_of name.place name.kind name.position % 8 ≡ position_code name.position = omega arith in
    rw (place, kind, position, kind-back name.kind, position-back name.position) refl
