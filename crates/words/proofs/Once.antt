-- In an effective list a place is finished at most once, and just once where it is done.
use Rattle.std.proofs.Common.{◌≡◌, ℕ, ◌+◌, ◌<◌, Bool, true, false, List, [], ◌∷◌, length, get_or, set, refl, sym, ap, subst, arith, eq-eqb, inl, inr, get_or-set_same}
use Rattle.std.specs.Prelude.{◌==◌, if◌then◌else◌, nat_lt}
use Rattle.std.proofs.lemmas.Bool.{and_parts, cases_eq, ltb-true, ne_eqb}
use Rattle.std.proofs.lemmas.List.{get_or-set_other}
use Rattle.bohm_core_base.specs.declared.event.Event.{Event}
use Rattle.bohm_core_base.specs.declared.event.Event.TheVariants.{Place, Claim, Fill, End, Finish, GiveBack}
use Rattle.bohm_core_base.specs.declared.hold.Hold.{Hold}
use Rattle.bohm_core_base.specs.declared.hold.Hold.TheVariants.{Free, Held, Done}
use Rattle.bohm_core_base.specs.Batch.{Batch, IsSoundBatch}
use Rattle.bohm_core_base.specs.Machine.{State, all_past, change, effect, guard, hold_of, is_done, is_free, is_held_by, reach, run_from, start}
use Rattle.words.specs.Legal.{IsEffective, finishes_of, is_finish_of}
use Rattle.words.proofs.Members.{replicate-same}
use Rattle.words.proofs.Reached.{IsReached, held-not_free, held-within as holder-within, reached-effect, reached-start, sizes}
use Rattle.bohm_core_base.proofs.Steps.{free-not_done, held-not_done}
use Rattle.model_base.proofs.Replay.{by_cases}

abbrev count_of : Bool → ℕ
count_of true = 1
count_of false = 0

module _ (b : Batch) (sound : IsSoundBatch b) where
  -- where a place changes hands, and isn't done before
  hands : (s : State) (n i : ℕ) (hold : Hold) (x : ℕ) → n < length s.holds → is_done (hold_of s n) ≡ false
      → count_of (is_done hold) ≡ x
      → count_of (is_done (hold_of s i)) + (if n == i then x else 0) ≡ count_of (is_done (get_or (set s.holds n hold) i Free))
  hands s n i hold x within undone is =
      elim (cases_eq i n) [
        | inl same ↦
            rw (same, eq-eqb n n refl, get_or-set_same s.holds n hold Free within, undone, is) (omega arith)
        | inr differ ↦
            rw (ne_eqb n i (λ same. differ (sym same)), get_or-set_other s.holds n i hold Free differ) (omega arith)
      ]

  held-within : (s : State) (c n : ℕ) → IsReached b s → is_held_by c (hold_of s n) ≡ true → n < length s.holds
  held-within s c n leads held =
      (let size = holder-within b sound s leads n (held-not_free c (hold_of s n) held) in let len = (sizes b sound s leads).holds in omega arith)

  plain : (x y : ℕ) → x ≡ y → x + 0 ≡ y
  plain x y is = omega arith

  one-step : (s : State) (e : Event) (i : ℕ) → IsReached b s → guard b s e ≡ true
      → count_of (is_done (hold_of s i)) + count_of (is_finish_of i e) ≡ count_of (is_done (hold_of (change b s e) i))
  one-step s (Place p) i leads may = plain _ _ refl
  one-step s (Fill c n) i leads may = plain _ _ refl
  one-step s (End c n j) i leads may = plain _ _ refl
  one-step s (Claim c n) i leads may =
      let free = and_parts (is_free (hold_of s n)) _ may in
      let within : n < length s.holds = ltb-true n (length s.holds) (and_parts (nat_lt n (length s.holds)) (all_past s n) free.1).0 in
      subst (λ (x : ℕ). count_of (is_done (hold_of s i)) + x ≡ count_of (is_done (get_or (set s.holds n (Held c)) i Free))) (none (n == i))
      (hands s n i (Held c) 0 within (free-not_done (hold_of s n) free.0) refl)
    where
      none : (x : Bool) → ◌≡◌ {A = ℕ} (if x then 0 else 0) 0
      none true = refl
      none false = refl
  one-step s (GiveBack c n) i leads may =
      let held = (and_parts (is_held_by c (hold_of s n)) _ may).0 in
      subst (λ (x : ℕ). count_of (is_done (hold_of s i)) + x ≡ count_of (is_done (get_or (set s.holds n Free) i Free))) (none (n == i))
      (hands s n i Free 0 (held-within s c n leads held) (held-not_done c (hold_of s n) held) refl)
    where
      none : (x : Bool) → ◌≡◌ {A = ℕ} (if x then 0 else 0) 0
      none true = refl
      none false = refl
  one-step s (Finish c n) i leads may =
      let held = (and_parts (is_held_by c (hold_of s n)) _ may).0 in
      subst (λ (x : ℕ). count_of (is_done (hold_of s i)) + x ≡ count_of (is_done (get_or (set s.holds n Done) i Free))) (one (n == i))
      (hands s n i Done 1 (held-within s c n leads held) (held-not_done c (hold_of s n) held) refl)
    where
      one : (x : Bool) → ◌≡◌ {A = ℕ} (if x then 1 else 0) (count_of x)
      one true = refl
      one false = refl

  counts : (es : List Event) (s : State) (i : ℕ) → IsReached b s → IsEffective b s es
      → count_of (is_done (hold_of s i)) + finishes_of i es ≡ count_of (is_done (hold_of (run_from b s es) i))
  counts [] s i leads works = plain _ _ refl
  counts (e ∷ es) s i leads works =
      let is : effect b s e ≡ change b s e = rw (works.0) refl in
      let step = one-step s e i leads works.0 in
      let rest = counts es (effect b s e) i (reached-effect b s e leads) works.1 in
      let same : count_of (is_done (hold_of (effect b s e) i)) ≡ count_of (is_done (hold_of (change b s e) i)) = ap (λ t. count_of (is_done (hold_of t i))) is in
      let both : finishes_of i (e ∷ es) ≡ count_of (is_finish_of i e) + finishes_of i es = by_cases (is_finish_of i e) (λ yes. rw yes (omega arith)) (λ no. rw no (omega arith)) in
      omega arith

  -- the number of times that a place is finished: once if it is done, else never
  pub finished-once : (es : List Event) (i : ℕ) → IsEffective b (start b) es
      → finishes_of i es ≡ (if is_done (hold_of (reach b es) i) then 1 else 0)
  finished-once es i works =
      let all = counts es (start b) i (reached-start b) works in
      let none : count_of (is_done (hold_of (start b) i)) ≡ 0 = rw (replicate-same b.size i Free) refl in
      let shown : count_of (is_done (hold_of (reach b es) i)) ≡ (if is_done (hold_of (reach b es) i) then 1 else 0) = told (is_done (hold_of (reach b es) i)) in
      omega arith
    where
      told : (x : Bool) → count_of x ≡ (if x then 1 else 0)
      told true = refl
      told false = refl
