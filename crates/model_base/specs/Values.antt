-- Up to `MOST_VALUES` whole numbers: the first `len` of an array of this many, whose others are 0, so that equal lists of numbers are equal
-- values.
use Rattle.std.specs.Prelude.{◌≡◌, ◌-◌, ◌≤◌, ◌++◌, ℤ, pos, List, length, take, replicate}
use Rattle.std.proofs.Common.{arith, refl}
use Rattle.std.proofs.lemmas.List.{length-take-le}
use Rattle.model_base.specs.declared.limits.TheConstants.{MOST_VALUES}
use Rattle.model_base.specs.declared.row.Values.TheInside.{Inside}

-- the numbers that are seen
abbrev pub values_of : Inside → List ℤ
values_of v = take v.len v.values

-- the numbers fit the array, and 0 is after them
pub record IsPadded (v : Inside) : Type 0 where
  pub within : v.len ≤ MOST_VALUES
  pub whole : length v.values ≡ MOST_VALUES
  pub zeros : v.values ≡ take v.len v.values ++ replicate (MOST_VALUES - v.len) (pos 0)

-- the array of these numbers
abbrev pub padded : List ℤ → Inside
padded xs = record { len = length xs; values = xs ++ replicate (MOST_VALUES - length xs) (pos 0) }

pub padded-undoes : (v : Inside) → IsPadded v → padded (values_of v) ≡ v
padded-undoes v ok =
    let fits : v.len ≤ length v.values = omega arith in
    let same : length (take v.len v.values) ≡ v.len = length-take-le v.len v.values fits in
    rw (same, ← ok.zeros) refl
