-- What lists of places and of slots tell.
use Rattle.std.proofs.Common.{◌≡◌, ◌⊎◌, ◌<◌, ◌+◌, ◌==◌, ◌||◌, ℕ, zero, suc, Bool, true, false, Some, List, [], ◌∷◌, get_or, length, take, refl, ap, sym, ◌∙◌, subst, arith, inl, inr}
use Rattle.std.specs.List.{list_any}
use Rattle.std.proofs.lemmas.Bool.{cases_lt, eq-eqb}
use Rattle.std.proofs.lemmas.List.{take_more}
use Rattle.std.proofs.lemmas.List.Folds.{list_any-append}
use Rattle.model_base.proofs.Replay.{by_cases}
use Rattle.bohm_core_base.specs.Batch.{Batch}
use Rattle.bohm_core_base.specs.Serial.{serial_ends, whole_end}
use Rattle.words.specs.Closing.{IsSettledBy, ClosedLayout, end_word_in}
use Rattle.words.specs.Layout.{IsListed, listed_slot_at}
use Rattle.words.specs.Views.{In}
use Rattle.filling.specs.declared.completion.ends.Ends.{Ends}
use Rattle.filling.specs.Ends.{AreSerialEnds, NotesWord, noted_end}
use Rattle.filling.specs.BatchProgress.{HasDone, NotesEndsOfDone}
use Rattle.filling.proofs.EndsTelling.{Takes, taken-word}

-- a number that stands somewhere is among them
pub any-at : (places : List ℕ) (k place : ℕ) → k < length places → place ≡ get_or places k 0 → list_any (λ one. one == place) places ≡ true
any-at [] k place within is = absurd (omega arith)
any-at (first ∷ places) zero place within is = let same : (first == place) ≡ true = eq-eqb first place (sym is) in rw same refl
any-at (first ∷ places) (suc k) place within is =
    let rest = any-at places k place (omega arith) is in
    by_cases (first == place) (λ same. rw same refl) (λ other. rw other rest)

-- one that is among one more is among the others, or is that one
pub any-more : (test : ℕ → Bool) (places : List ℕ) (k : ℕ) → k < length places → list_any test (take (k + 1) places) ≡ true
    → (list_any test (take k places) ≡ true) ⊎ (test (get_or places k 0) ≡ true)
any-more test places k within any =
    let both : (list_any test (take k places) || (test (get_or places k 0) || false)) ≡ true =
    sym (ap (list_any test) (take_more places k 0 within) ∙ list_any-append test (take k places) (get_or places k 0 ∷ [])) ∙ any in
    by_cases (list_any test (take k places))
    (λ found. inl found)
    (λ none. by_cases (test (get_or places k 0))
    (λ here. inr here)
    (λ other. let no : false ≡ true = rw (none, other) at both in absurd (cc)))

-- where one that is listed stands
pub in-at : (slot : ℕ) (listed : List ℕ) → In slot listed → (k : ℕ) × (k < length listed) × (get_or listed k 0 ≡ slot)
in-at slot [] has = absurd has
in-at slot (first ∷ listed) has = elim has [ inl is ↦ (0, omega arith, sym is) | inr more ↦ (let at = in-at slot listed more in (suc at.0, (let low = at.1 in omega arith), at.2)) ]

module _ (b : Batch) (listed : List ℕ) (closed : ClosedLayout) (settled : IsSettledBy b listed closed) where
  -- a closed batch has what is done in it
  pub settled-done : HasDone b closed
  settled-done = record { begins = settled.begins; claims = settled.claims; owns = settled.owns; own = settled.own }

  module _ (right : IsListed b listed) where
    -- a word of the ends tells the end of the serial run
    word-whole : (n word : ℕ) → n < length listed → word ≡ end_word_in closed n → (end : ℕ) → word ≡ suc end → whole_end b (listed_slot_at listed n) ≡ Some end
    word-whole n word within is end one =
        elim (settled.end n within) [
          | inl none ↦ absurd (omega (arith, none, is, one))
          | inr some ↦ (let same : some.0 ≡ end = (let set = some.1 in omega (arith, set, is, one)) in subst (λ place. whole_end b (listed_slot_at listed n) ≡ Some place) same some.2)
        ]

    -- the ends of this many words are given
    pub record Told (count : ℕ) (ends : Ends) : Type 0 where
      pub told : AreSerialEnds b ends
      pub taken : (end place : ℕ) → end < count → end_word_in closed end ≡ suc place → noted_end ends (listed_slot_at listed end) ≡ Some place

    pub told-next : (n word : ℕ) (old new : Ends) → n < length listed → word ≡ end_word_in closed n → Told n old → NotesWord (listed_slot_at listed n) word old new → Told (n + 1) new
    told-next n word old new within is before takes =
        let next : Takes b (listed_slot_at listed n) word old new =
        taken-word b old new (listed_slot_at listed n) word before.told (right.within n within) (word-whole n word within is) takes in
        record {
          told = next.told;
          taken = λ end place less set. elim (cases_lt end n) [
            | inl low ↦ next.keeps (listed_slot_at listed end) place (before.taken end place low set)
            | inr last ↦ (let same : n ≡ end = omega arith in
                subst (λ k. noted_end new (listed_slot_at listed k) ≡ Some place) same (next.here place (is ∙ ap (end_word_in closed) same ∙ set)))
          ];
        }

    -- so the places that are done are told of
    pub told-done : (ends : Ends) → Told (length listed) ends → NotesEndsOfDone b closed ends
    told-done ends all index within claim slot low sets =
        let at = in-at slot listed (right.every index slot low sets) in
        let here = subst (λ k. serial_ends b index k ≡ true) (sym at.2) sets in
        let set = settled.ended index at.0 within at.1 here claim in
        subst (λ k. noted_end ends k ≡ Some (b.first + index)) at.2 (all.taken at.0 (b.first + index) at.1 set)
