-- Fronts: how many places each partition has placed, and what is below.
use Rattle.std.proofs.Common.{◌≡◌, ℕ, zero, suc, ◌+◌, ◌<◌, ◌≤◌, Bool, true, false, List, [], ◌∷◌, ◌++◌, length, get_or, refl, sym, ap, ◌∙◌, arith, eq-eqb, inl, inr, get_or-set_same}
use Rattle.std.specs.Prelude.{nat_lt}
use Rattle.std.proofs.lemmas.Bool.{and_parts, cases_eq, lt-ltb, ltb-true, ne_eqb}
use Rattle.std.proofs.lemmas.List.{get_or-set_other}
use Rattle.bohm_core_base.specs.declared.event.Event.{Event}
use Rattle.bohm_core_base.specs.declared.event.Event.TheVariants.{Place, Claim, Fill, End, Finish, GiveBack}
use Rattle.bohm_core_base.specs.Batch.{Batch, IsSoundBatch, reference_words}
use Rattle.bohm_core_base.specs.Machine.{State, all_past, change, effect, front_of, guard, reach, run_from, start, stored_references_of}
use Rattle.bohm_core_base.proofs.Kept.{chosen}
use Rattle.bohm_core_base.proofs.Lists.{list_all-get}
use Rattle.bohm_core_base.proofs.Reach.{reach-keeps}
use Rattle.words.specs.Layout.{partition_at, reference_at}
use Rattle.words.specs.Legal.{IsEffective, is_placing_in, placings_in}
use Rattle.words.proofs.Members.{all-of, replicate-same}
use Rattle.words.proofs.Reached.{IsReached, reached-effect, reached-start, run-append, sizes}
use Rattle.model_base.proofs.Replay.{by_cases}

abbrev one_if : Bool → ℕ
one_if true = 1
one_if false = 0

plain : (x y : ℕ) → x ≡ y → x + 0 ≡ y
plain x y is = omega arith

-- a test that the partition passes chooses the reference
chosen-at : (test : ℕ → Bool) (partitions new : List ℕ) (k : ℕ) → length partitions ≡ length new → k < length new
    → test (get_or partitions k 0) ≡ true → get_or (chosen test partitions new) k 0 ≡ get_or new k 0
chosen-at test [] [] k len within passes = refl
chosen-at test [] (x ∷ new) k len within passes = absurd (omega arith)
chosen-at test (q ∷ partitions) [] k len within passes = refl
chosen-at test (q ∷ partitions) (x ∷ new) zero len within passes = rw passes refl
chosen-at test (q ∷ partitions) (x ∷ new) (suc k) len within passes =
    chosen-at test partitions new k (omega arith) (omega arith) passes

module _ (b : Batch) (sound : IsSoundBatch b) where
  -- an event that may happen moves the front of its own partition alone, by one
  count-step : (s : State) (e : Event) (p : ℕ) → guard b s e ≡ true → front_of (change b s e) p ≡ front_of s p + one_if (is_placing_in p e)
  count-step s (Claim c n) p may = sym (plain _ _ refl)
  count-step s (Fill c n) p may = sym (plain _ _ refl)
  count-step s (End c n j) p may = sym (plain _ _ refl)
  count-step s (Finish c n) p may = sym (plain _ _ refl)
  count-step s (GiveBack c n) p may = sym (plain _ _ refl)
  count-step s (Place q) p may =
      let within : q < length s.fronts = ltb-true q (length s.fronts) (and_parts (nat_lt q (length s.fronts)) _ may).0 in
      elim (cases_eq p q) [
        | inl same ↦
            rw (eq-eqb q p (sym same), same) (get_or-set_same s.fronts q (suc (front_of s q)) 0 within ∙ omega arith)
        | inr differ ↦
            rw (ne_eqb q p (λ is. differ (sym is))) (get_or-set_other s.fronts q p (suc (front_of s q)) 0 differ ∙ sym (plain _ _ refl))
      ]

  counts : (es : List Event) (s : State) (p : ℕ) → IsEffective b s es
      → front_of (run_from b s es) p ≡ front_of s p + length (placings_in p es)
  counts [] s p works = sym (plain _ _ refl)
  counts (e ∷ es) s p works =
      let is : effect b s e ≡ change b s e = rw (works.0) refl in
      let step = count-step s e p works.0 in
      let rest = counts es (effect b s e) p works.1 in
      let same : front_of (effect b s e) p ≡ front_of (change b s e) p = ap (λ t. front_of t p) is in
      let both : length (placings_in p (e ∷ es)) ≡ one_if (is_placing_in p e) + length (placings_in p es) =
      by_cases (is_placing_in p e) (λ yes. rw yes (omega arith)) (λ no. rw no (omega arith)) in
      omega arith

  -- a front is as many places as its partition's events
  pub front-is : (es : List Event) (p : ℕ) → IsEffective b (start b) es → front_of (reach b es) p ≡ length (placings_in p es)
  front-is es p works =
      let all = counts es (start b) p works in
      let none : front_of (start b) p ≡ 0 = replicate-same b.partitions p 0 in
      omega arith

  -- fronts only grow, and go no further than the batch
  grow-step : (s : State) (e : Event) (p : ℕ) → front_of s p ≤ front_of (effect b s e) p
  grow-step s e p =
      by_cases (guard b s e)
      (λ may. rw may (let step = count-step s e p may in omega arith))
      (λ no. rw no (omega arith))

  pub front-grows : (es : List Event) (s : State) (p : ℕ) → front_of s p ≤ front_of (run_from b s es) p
  front-grows [] s p = omega arith
  front-grows (e ∷ es) s p = let step = grow-step s e p in let rest = front-grows es (effect b s e) p in omega arith

  most-change : (s : State) (e : Event) (p : ℕ) → IsReached b s → guard b s e ≡ true → front_of s p ≤ b.size → front_of (change b s e) p ≤ b.size
  most-change s (Claim c n) p leads may most = most
  most-change s (Fill c n) p leads may most = most
  most-change s (End c n j) p leads may most = most
  most-change s (Finish c n) p leads may most = most
  most-change s (GiveBack c n) p leads may most = most
  most-change s (Place q) p leads may most =
      let parts = and_parts (nat_lt q (length s.fronts)) _ may in
      let within : q < length s.fronts = ltb-true q (length s.fronts) parts.0 in
      let less : front_of s q < length s.references = ltb-true (front_of s q) (length s.references) parts.1 in
      let size = (sizes b sound s leads).references in
      elim (cases_eq p q) [
        | inl same ↦ let is : front_of (change b s (Place q)) p ≡ suc (front_of s q) = rw same (get_or-set_same s.fronts q (suc (front_of s q)) 0 within) in omega arith
        | inr differ ↦ let is : front_of (change b s (Place q)) p ≡ front_of s p = get_or-set_other s.fronts q p (suc (front_of s q)) 0 differ in omega arith
      ]

  most-run : (es : List Event) (s : State) (p : ℕ) → IsReached b s → front_of s p ≤ b.size → front_of (run_from b s es) p ≤ b.size
  most-run [] s p leads most = most
  most-run (e ∷ es) s p leads most =
      most-run es (effect b s e) p (reached-effect b s e leads)
      (by_cases (guard b s e) (λ may. rw may (most-change s e p leads may most)) (λ no. rw no most))

  pub front-most : (es : List Event) (p : ℕ) → front_of (reach b es) p ≤ b.size
  front-most es p =
      most-run es (start b) p (reached-start b) (let none : front_of (start b) p ≡ 0 = replicate-same b.partitions p 0 in omega arith)

  pub front-later : (es fs : List Event) (p : ℕ) → front_of (reach b es) p ≤ front_of (reach b (es ++ fs)) p
  front-later es fs p = rw (run-append b (start b) es fs) (front-grows fs (reach b es) p)

  -- below its partition's front a reference is stored
  pub placed-reference : (es : List Event) (n k : ℕ) → n < b.size → k < length (reference_words b n) → n < front_of (reach b es) (partition_at b n k)
      → get_or (stored_references_of (reach b es) n) k 0 ≡ reference_at b n k
  placed-reference es n k below within past =
      let s = reach b es in
      ap (λ (l : List ℕ). get_or l k 0) ((reach-keeps b sound es).placed n below)
      ∙ chosen-at (λ p. nat_lt n (front_of s p)) (b.partitions_of n) (reference_words b n) k (sound.same_length n) within
      (lt-ltb n (front_of s (partition_at b n k)) past)

  -- every partition has placed a place that lies below each front, and no other
  pub past-all : (es : List Event) (i : ℕ) → ((p : ℕ) → p < b.partitions → i < front_of (reach b es) p) → all_past (reach b es) i ≡ true
  past-all es i each =
      let s = reach b es in
      let len = (reach-keeps b sound es).fronts_length in
      all-of (λ front. nat_lt i front) 0 s.fronts (λ q within. lt-ltb i (front_of s q) (each q (omega arith)))

  pub past-each : (es : List Event) (i p : ℕ) → all_past (reach b es) i ≡ true → p < b.partitions → i < front_of (reach b es) p
  past-each es i p past below =
      let s = reach b es in
      let len = (reach-keeps b sound es).fronts_length in
      ltb-true i (front_of s p) (list_all-get (λ front. nat_lt i front) s.fronts p 0 past (omega arith))
