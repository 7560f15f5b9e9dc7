-- The table of the bytes that may be in a name.
use Rattle.std.proofs.Common.{◌≡◌, ℕ, zero, suc, ◌+◌, ◌<◌, ◌&&◌, Bool, true, false, not, eqb, List, [], ◌∷◌, length, get_or, refl, ap, ◌∙◌, arith}
use Rattle.std.specs.Prelude.{codes}
use Rattle.std.proofs.lemmas.Bool.{and_parts}
use Rattle.line_words.specs.Words.{is_name_byte}

abbrev pub name_table : List ℕ
name_table = codes "................................................nnnnnnnnnn.....................................n.nnnnnnnnnnnnnnnnnnnnnnnnnn....................................................................................................................................."

abbrev agree : Bool → Bool → Bool
agree true b = b
agree false b = not b

agreed : (a b : Bool) → agree a b ≡ true → a ≡ b
agreed true true e = refl
agreed true false e = absurd (cc)
agreed false true e = absurd (cc)
agreed false false e = refl

-- whether each entry of a table, counted from a byte on, says of its byte
abbrev tells : ℕ → List ℕ → Bool
tells byte [] = true
tells byte (entry ∷ entries) = agree (eqb entry 110) (is_name_byte byte) && tells (byte + 1) entries

told : (byte : ℕ) (entries : List ℕ) (k : ℕ) → tells byte entries ≡ true → k < length entries → eqb (get_or entries k 0) 110 ≡ is_name_byte (byte + k)
told byte [] k all lt = absurd (omega arith)
told byte (entry ∷ entries) zero all lt =
    agreed (eqb entry 110) (is_name_byte byte) (and_parts (agree (eqb entry 110) (is_name_byte byte)) (tells (byte + 1) entries) all).0
    ∙ ap is_name_byte (let same : byte ≡ byte + 0 = omega arith in same)
told byte (entry ∷ entries) (suc k) all lt =
    told (byte + 1) entries k (and_parts (agree (eqb entry 110) (is_name_byte byte)) (tells (byte + 1) entries) all).1 (omega arith)
    ∙ ap is_name_byte (let same : byte + 1 + k ≡ byte + suc k = omega arith in same)

-- what is looked up is whether the byte may be in a name
pub looked_up : (byte index : ℕ) → byte < 256 → index ≡ byte → eqb (get_or name_table index 0) 110 ≡ is_name_byte byte
looked_up byte index low is =
    told 0 name_table index refl (omega (arith, low, is)) ∙ ap is_name_byte (let same : 0 + index ≡ byte = omega arith in same)
