-- Where blocks begin, found place by place.
use Rattle.std.proofs.Common.{◌≡◌, ℕ, suc, ◌+◌, ◌<◌, List, [], ◌∷◌, ◌++◌, length, get_or, sym, ap, ◌∙◌, arith, inl, inr}
use Rattle.std.proofs.lemmas.Bool.{cases_lt}
use Rattle.std.proofs.lemmas.List.{get_or_append_left, get_or_push, length_push}
use Rattle.bohm_core_base.specs.Batch.{Batch, reference_words}
use Rattle.words.specs.Layout.{block_begin, block_length, reference_begin}
use Rattle.words.specs.Passes.{AreBlocks, AreReferences}

-- the beginnings for this many places, and where the next place's block begins
pub record IsBegun (b : Batch) (places index ends : ℕ) (begins : List ℕ) : Type 0 where
  pub size : b.size ≡ places
  pub every : length begins ≡ index
  pub next : ends ≡ block_begin b index
  pub each : (i : ℕ) → i < index → get_or begins i 0 ≡ block_begin b i

pub one-more : (b : Batch) (places index ends next : ℕ) (begins : List ℕ) → IsBegun b places index ends begins → next ≡ ends + block_length b index
    → IsBegun b places (suc index) next (begins ++ ends ∷ [])
one-more b places index ends next begins begun is = record {
  size = begun.size;
  every = length_push begins ends ∙ (let every = begun.every in omega arith);
  next = (let from = begun.next in omega arith);
  each = λ i less. elim (cases_lt i index) [
    | inl below ↦ get_or_append_left begins (ends ∷ []) 0 i (let every = begun.every in omega arith) ∙ begun.each i below
    | inr not_below ↦ (let same : i ≡ index = omega arith in rw same (get_or_push begins ends 0 index begun.every ∙ begun.next))
  ];
}

-- all places have been gone through
pub all-begun : (b : Batch) (places index ends : ℕ) (begins : List ℕ) → IsBegun b places index ends begins → index ≡ places → AreBlocks b begins ends
all-begun b places index ends begins begun last =
    let size : b.size ≡ index = begun.size ∙ sym last in
    record { every = begun.every ∙ sym size; begin = λ i below. begun.each i (omega arith); end = begun.next ∙ ap (block_begin b) (sym size) }

-- the same for the references
pub record IsReferred (b : Batch) (places index end : ℕ) (begins : List ℕ) : Type 0 where
  pub size : b.size ≡ places
  pub every : length begins ≡ index
  pub next : end ≡ reference_begin b index
  pub each : (i : ℕ) → i < index → get_or begins i 0 ≡ reference_begin b i

pub one-more_referred : (b : Batch) (places index end next : ℕ) (begins : List ℕ) → IsReferred b places index end begins
    → next ≡ end + length (reference_words b index) → IsReferred b places (suc index) next (begins ++ end ∷ [])
one-more_referred b places index end next begins begun is = record {
  size = begun.size;
  every = length_push begins end ∙ (let every = begun.every in omega arith);
  next = (let from = begun.next in omega arith);
  each = λ i less. elim (cases_lt i index) [
    | inl below ↦ get_or_append_left begins (end ∷ []) 0 i (let every = begun.every in omega arith) ∙ begun.each i below
    | inr not_below ↦ (let same : i ≡ index = omega arith in rw same (get_or_push begins end 0 index begun.every ∙ begun.next))
  ];
}

pub all-referred : (b : Batch) (places index end : ℕ) (begins : List ℕ) → IsReferred b places index end begins → index ≡ places → AreReferences b begins end
all-referred b places index end begins begun last =
    let size : b.size ≡ index = begun.size ∙ sym last in
    record { every = begun.every ∙ sym size; begin = λ i below. begun.each i (omega arith); end = begun.next ∙ ap (reference_begin b) (sym size) }
