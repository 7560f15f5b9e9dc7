-- What a place refers to, and the one record that it ends.
use Rattle.std.proofs.Common.{◌≡◌, ◌+◌, ◌<◌, ℕ, suc, true, List, [], ◌∷◌, length, Some, inl, inr, ⊎_elim, ap, sym, ◌∙◌, arith, eq-eqb}
use Rattle.std.specs.Prelude.{slice_index_or}
use Rattle.bohm_core_base.specs.Batch.{Batch}
use Rattle.bohm_core_base.specs.Serial.{is_end, serial_ends}
use Rattle.words.specs.declared.knowledge.Knowledge.{Knowledge}
use Rattle.words.specs.Layout.{listed_slot_at}
use Rattle.words.specs.Meanings.{EndMeans}
use Rattle.words.specs.Views.{In}

-- references that are all 0 are to no place
pub none-refer : (references : List ℕ) → ((number : ℕ) → number < length references → slice_index_or references number 0 ≡ 0)
    → (other : ℕ) → ¬ (In (suc other) references)
none-refer [] all other has = has
none-refer (reference ∷ references) all other has = elim has [
  | inl is ↦ absurd (let zero = all 0 (omega arith) in omega (arith, is, zero))
  | inr more ↦ none-refer references (λ number less. all (suc number) (omega (arith, less))) other more
]

-- a place ends the record whose end is read as that place
pub ends-it : (batch : Batch) (slot index end : ℕ) (view : Knowledge) → EndMeans batch slot view (Some end) → end ≡ batch.first + index
    → serial_ends batch index slot ≡ true
unfolding serial_ends
ends-it batch slot index end view tells is =
    ⊎_elim
    (λ none. absurd (cc))
    (λ some. ap (is_end (batch.first + index)) (some.2 ∙ sym some.1) ∙ eq-eqb end (batch.first + index) is)
    tells.none_or

-- what is in a list of one is that
pub one-listed : (listed : List ℕ) (slot : ℕ) → length listed ≡ 1 → In slot listed → In slot (listed_slot_at listed 0 ∷ [])
one-listed [] slot is has = absurd has
one-listed (one ∷ []) slot is has = has
one-listed (one ∷ two ∷ more) slot is has = absurd (omega (arith, is))
