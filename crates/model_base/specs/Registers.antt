-- Up to `MOST_COLUMNS` registers: the first `len` of an array of this many, whose others are register 0, so that equal lists of registers
-- are equal values.
use Rattle.std.specs.Prelude.{◌≡◌, ℕ, ◌-◌, ◌≤◌, ◌++◌, List, length, take, replicate}
use Rattle.std.proofs.Common.{arith, refl}
use Rattle.std.proofs.lemmas.List.{length-take-le}
use Rattle.model_base.specs.declared.limits.TheConstants.{MOST_COLUMNS}
use Rattle.model_base.specs.declared.statement.Registers.TheInside.{Inside}

-- the registers that are seen
abbrev pub registers_of : Inside → List ℕ
registers_of r = take r.len r.registers

-- the registers fit the array, and register 0 is after them
pub record IsPadded (r : Inside) : Type 0 where
  pub within : r.len ≤ MOST_COLUMNS
  pub whole : length r.registers ≡ MOST_COLUMNS
  pub zeros : r.registers ≡ take r.len r.registers ++ replicate (MOST_COLUMNS - r.len) 0

-- the array of these registers
abbrev pub padded : List ℕ → Inside
padded rs = record { len = length rs; registers = rs ++ replicate (MOST_COLUMNS - length rs) 0 }

pub padded-undoes : (r : Inside) → IsPadded r → padded (registers_of r) ≡ r
padded-undoes r ok =
    let fits : r.len ≤ length r.registers = omega arith in
    let same : length (take r.len r.registers) ≡ r.len = length-take-le r.len r.registers fits in
    rw (same, ← ok.zeros) refl
