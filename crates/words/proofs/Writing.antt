-- A row in which references and fronts are stored word by word.
use Rattle.std.proofs.Common.{◌≡◌, ◌≢◌, ℕ, suc, ◌<◌, Bool, true, false, true≢false, List, length, get_or, set, refl, sym, ap, ◌∙◌, inl, inr, ⊎_elim, arith, length-set, get_or-set_same, replicate}
use Rattle.std.proofs.lemmas.Bool.{cases_eq}
use Rattle.std.proofs.lemmas.List.{get_or-set_other, length-replicate}
use mathlib.Core.Logic.{dite}
use native.Mathlib.Decide.{ℕ_discrete}
use Rattle.bohm_core_base.specs.Batch.{Batch, IsSoundBatch, reference_words}
use Rattle.bohm_core_base.specs.Machine.{reach}
use Rattle.words.specs.Layout.{Counts, Has, IsListed, Meaning, ShowsState, claim_code, claim_word, optional_word, end_word, front_word, listed_slot_at, own_word, position, reference_at, reference_word, shown, total}
use Rattle.words.specs.Written.{IsWritten, is_other}
use Rattle.words.proofs.Members.{replicate-same}
use Rattle.words.proofs.Past.{placed-reference}
use Rattle.words.proofs.Placings.{placed-blank, placed-ends, placed-free, placed-front, placings}
use Rattle.words.proofs.Showing.{position-apart, position-below}

module _ (b : Batch) (listed : List ℕ) where
  -- nothing is stored at first
  pub none-written : (row : List ℕ) → row ≡ replicate (total b listed) 0 → IsWritten b listed row 0 0 0
  none-written row is = record {
    wide = ap (λ (l : List ℕ). length l) is ∙ length-replicate (total b listed) 0;
    references = λ i r below within before. absurd (⊎_elim (λ less. omega arith) (λ (t : (i ≡ 0) × (r < 0)). let less = t.1 in omega arith) before);
    fronts = λ p less below. absurd (omega arith);
    others = λ m has other. ap (λ (l : List ℕ). get_or l (position b m) 0) is ∙ replicate-same (total b listed) (position b m) 0;
  }

  -- one word is stored: another keeps its value
  other-word : (row : List ℕ) (m o : Meaning) (word : ℕ) → Has b listed m → Has b listed o → o ≢ m
      → get_or (set row (position b m) word) (position b o) 0 ≡ get_or row (position b o) 0
  other-word row m o word has has' differ =
      get_or-set_other row (position b m) (position b o) word 0 (λ same. differ (position-apart b listed o m has' has same))

  this-word : (row : List ℕ) (m : Meaning) (word : ℕ) → length row ≡ total b listed → Has b listed m
      → get_or (set row (position b m) word) (position b m) 0 ≡ word
  this-word row m word wide has = get_or-set_same row (position b m) word 0 (let low = position-below b listed m has in omega arith)

  -- one more reference
  pub reference-written : (row : List ℕ) (i r word : ℕ) → IsWritten b listed row i r 0 → i < b.size → r < length (reference_words b i) → word ≡ reference_at b i r
      → IsWritten b listed (set row (position b (reference_word i r)) word) i (suc r) 0
  reference-written row i r word was below within is = record {
    wide = length-set row (position b (reference_word i r)) word ∙ was.wide;
    references = λ j q low in_row before. dite (ℕ_discrete (position b (reference_word j q)) (position b (reference_word i r)))
        (λ same.
        let equal = position-apart b listed (reference_word j q) (reference_word i r) (low, in_row) (below, within) same in
        ap (λ (n : ℕ). get_or (set row (position b (reference_word i r)) word) n 0) same ∙ this-word row (reference_word i r) word was.wide (below, within)
        ∙ is ∙ sym (ap value equal))
        (λ differ.
        other-word row (reference_word i r) (reference_word j q) word (below, within) (low, in_row) (λ same. differ (ap (position b) same))
        ∙ was.references j q low in_row (⊎_elim (λ less. inl less)
        (λ (t : (j ≡ i) × (q < suc r)). inr (
          t.0,
          elim (cases_eq q r) [
            | inl same ↦ absurd (differ (let j_is = t.0 in λ z. position b (reference_word (j_is z) (same z))))
            | inr ne ↦ let less = t.1 in omega arith
          ],
        ))
        before));
    fronts = λ p less. absurd (omega arith);
    others = λ m has other.
        other-word row (reference_word i r) m word (below, within) has (λ same. true≢false (sym other ∙ ap is_other same))
        ∙ was.others m has other;
  }
    where
      value : Meaning → ℕ
      value (claim_word j) = 0
      value (own_word j q) = 0
      value (reference_word j q) = reference_at b j q
      value (front_word p) = 0
      value (end_word e) = 0

  -- those of a place are all
  pub place-written : (row : List ℕ) (i r : ℕ) → IsWritten b listed row i r 0 → length (reference_words b i) ≡ r → IsWritten b listed row (suc i) 0 0
  place-written row i r was all = record {
    wide = was.wide;
    references = λ j q low in_row before. was.references j q low in_row (⊎_elim
        (λ less. elim (cases_eq j i) [
          | inl same ↦ inr (same, (let long : length (reference_words b j) ≡ length (reference_words b i) = ap (λ n. length (reference_words b n)) same in omega arith))
          | inr ne ↦ inl (omega arith)
        ])
        (λ (t : (j ≡ suc i) × (q < 0)). absurd (let less = t.1 in omega arith))
        before);
    fronts = was.fronts;
    others = was.others;
  }

  -- one more front
  pub front-written : (row : List ℕ) (p word : ℕ) → IsWritten b listed row b.size 0 p → p < b.partitions → word ≡ b.size
      → IsWritten b listed (set row (position b (front_word p)) word) b.size 0 (suc p)
  front-written row p word was below is = record {
    wide = length-set row (position b (front_word p)) word ∙ was.wide;
    references = λ j q low in_row before.
        other-word row (front_word p) (reference_word j q) word below (low, in_row) (λ same. true≢false (ap referred same))
        ∙ was.references j q low in_row before;
    fronts = λ q less low. elim (cases_eq q p) [
      | inl same ↦ ap (λ (n : ℕ). get_or (set row (position b (front_word p)) word) (position b (front_word n)) 0) same ∙ this-word row (front_word p) word was.wide below ∙ is
      | inr ne ↦
          other-word row (front_word p) (front_word q) word below low (λ same. ne (ap number same))
          ∙ was.fronts q (omega arith) low
    ];
    others = λ m has other.
        other-word row (front_word p) m word below has (λ same. true≢false (sym other ∙ ap is_other same))
        ∙ was.others m has other;
  }
    where
      referred : Meaning → Bool
      referred (claim_word j) = false
      referred (own_word j q) = false
      referred (reference_word j q) = true
      referred (front_word q) = false
      referred (end_word e) = false

      number : Meaning → ℕ
      number (claim_word j) = 0
      number (own_word j q) = 0
      number (reference_word j q) = 0
      number (front_word q) = q
      number (end_word e) = 0

  -- such a row shows that all is placed
  pub shows-written : (row : List ℕ) (sound : IsSoundBatch b) → IsListed b listed → IsWritten b listed row b.size 0 b.partitions
      → ShowsState b listed row (reach b (placings b))
  shows-written row sound slots was = record { wide = was.wide; at = at }
    where
      at : (m : Meaning) → Has b listed m → Counts b (reach b (placings b)) m → get_or row (position b m) 0 ≡ shown listed (reach b (placings b)) m
      at (claim_word i) has counts = was.others (claim_word i) has refl ∙ sym (ap claim_code (placed-free b sound i))
      at (own_word i m) has counts = was.others (own_word i m) has refl ∙ sym (ap (λ (own : List ℕ). get_or own m 0) (placed-blank b sound i))
      at (end_word r) has counts =
          was.others (end_word r) has refl
          ∙ sym (ap optional_word (placed-ends b sound (listed_slot_at listed r) ∙ slots.unended r has))
      at (front_word p) has counts = was.fronts p has has ∙ sym (placed-front b sound p has)
      at (reference_word i r) has counts =
          was.references i r has.0 has.1 (inl has.0)
          ∙ sym (placed-reference b sound (placings b) i r has.0 has.1 counts)
