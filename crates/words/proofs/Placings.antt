-- The state once all is placed.
use Rattle.std.proofs.Common.{◌≡◌, ◌≢◌, ℕ, zero, suc, ◌+◌, ◌<◌, ◌≤◌, Bool, true, List, [], ◌∷◌, ◌++◌, length, refl, sym, ap, ◌∙◌, subst, arith, inl, inr, ⊎_elim, get_or-set_same}
use Rattle.std.specs.Prelude.{◌&&◌, nat_lt, replicate, None}
use Rattle.std.proofs.lemmas.Bool.{lt-ltb, cases_lt}
use Rattle.std.proofs.lemmas.List.{get_or-set_other}
use Rattle.bohm_core_base.specs.declared.event.Event.{Event}
use Rattle.bohm_core_base.specs.declared.event.Event.TheVariants.{Place}
use Rattle.bohm_core_base.specs.declared.hold.Hold.TheVariants.{Free}
use Rattle.bohm_core_base.specs.Batch.{Batch, IsSoundBatch}
use Rattle.bohm_core_base.specs.Laws.{actor_of}
use Rattle.bohm_core_base.specs.Machine.{State, change, effect, end_of, front_of, guard, hold_of, own_of, run_from, start, reach}
use Rattle.words.specs.Legal.{IsEffective}
use Rattle.words.specs.Views.{In}
use Rattle.words.proofs.Members.{in_cases, replicate-same}
use Rattle.words.proofs.Reached.{IsReached, reached-effect, run-append, sizes}

-- all events of the placers: each partition's placer goes through the whole batch
abbrev pub placings_of : Batch → ℕ → List Event
placings_of batch zero = []
placings_of batch (suc partition) = placings_of batch partition ++ replicate batch.size (Place partition)

abbrev pub placings : Batch → List Event
placings batch = placings_of batch batch.partitions

pub and-both : (a b : Bool) → a ≡ true → b ≡ true → (a && b) ≡ true
and-both a b x y = rw (x, y) refl

-- events in two lists may happen where both lists may, one after the other
pub effective-append : (b : Batch) (s : State) (es fs : List Event) → IsEffective b s es → IsEffective b (run_from b s es) fs → IsEffective b s (es ++ fs)
effective-append b s [] fs first later = later
effective-append b s (e ∷ es) fs first later = (first.0, effective-append b (effect b s e) es fs first.1 later)

pub effective-later : (b : Batch) (s : State) (es fs : List Event) → IsEffective b s (es ++ fs) → IsEffective b (run_from b s es) fs
effective-later b s [] fs both = both
effective-later b s (e ∷ es) fs both = effective-later b (effect b s e) es fs both.1

-- what a state is after some events of one placer
record IsPassed (b : Batch) (s t : State) (es : List Event) (p front : ℕ) : Type 0 where
  pub works : IsEffective b s es
  pub here : front_of t p ≡ front
  pub others : (q : ℕ) → q ≢ p → front_of t q ≡ front_of s q
  pub holds : t.holds ≡ s.holds
  pub own : t.own ≡ s.own
  pub ends : t.ends ≡ s.ends

-- none of them has an actor
placing-unacted : (p k : ℕ) (e : Event) → In e (replicate k (Place p)) → actor_of e ≡ None
placing-unacted p zero e has = absurd has
placing-unacted p (suc k) e has = ⊎_elim (λ is. ap actor_of is) (λ more. placing-unacted p k e more) has

unacted-so-far : (b : Batch) (n : ℕ) (e : Event) → In e (placings_of b n) → actor_of e ≡ None
unacted-so-far b zero e has = absurd has
unacted-so-far b (suc n) e has =
    ⊎_elim (λ old. unacted-so-far b n e old) (λ new. placing-unacted n b.size e new)
    (in_cases e (placings_of b n) (replicate b.size (Place n)) has)

pub placings-unacted : (b : Batch) (e : Event) → In e (placings b) → actor_of e ≡ None
placings-unacted b e has = unacted-so-far b b.partitions e has

module _ (b : Batch) (sound : IsSoundBatch b) where
  -- a placer with places left may place
  may-place : (s : State) (p : ℕ) → IsReached b s → p < b.partitions → front_of s p < b.size → guard b s (Place p) ≡ true
  may-place s p leads partition left =
      and-both (nat_lt p (length s.fronts)) (nat_lt (front_of s p) (length s.references))
      (lt-ltb p (length s.fronts) (let len = (sizes b sound s leads).fronts in omega arith))
      (lt-ltb (front_of s p) (length s.references) (let len = (sizes b sound s leads).references in omega arith))

  -- it goes through the rest of the batch
  passes : (k : ℕ) (s : State) (p : ℕ) → IsReached b s → p < b.partitions → front_of s p + k ≡ b.size
      → IsPassed b s (run_from b s (replicate k (Place p))) (replicate k (Place p)) p b.size
  passes zero s p leads partition left = record {
    works = tt;
    here = omega arith;
    others = λ q other. refl;
    holds = refl;
    own = refl;
    ends = refl;
  }
  passes (suc k) s p leads partition left =
      let may = may-place s p leads partition (omega arith) in
      let t = change b s (Place p) in
      let is : effect b s (Place p) ≡ t = rw may refl in
      let within : p < length s.fronts = (let len = (sizes b sound s leads).fronts in omega arith) in
      let front : front_of t p ≡ suc (front_of s p) = get_or-set_same s.fronts p (suc (front_of s p)) 0 within in
      let rest = passes k t p (rw is at (reached-effect b s (Place p) leads)) partition (omega arith) in
      subst (λ u. IsPassed b s (run_from b u (replicate k (Place p))) (Place p ∷ replicate k (Place p)) p b.size) (sym is) record {
        works = (may, subst (λ u. IsEffective b u (replicate k (Place p))) (sym is) rest.works);
        here = rest.here;
        others = λ q other. rest.others q other ∙ get_or-set_other s.fronts p q (suc (front_of s p)) 0 other;
        holds = rest.holds;
        own = rest.own;
        ends = rest.ends;
      }

  record IsPlacedSoFar (t : State) (n : ℕ) : Type 0 where
    pub works : IsEffective b (start b) (placings_of b n)
    pub done : (q : ℕ) → q < n → front_of t q ≡ b.size
    pub left : (q : ℕ) → n ≤ q → front_of t q ≡ 0
    pub holds : t.holds ≡ (start b).holds
    pub own : t.own ≡ (start b).own
    pub ends : t.ends ≡ (start b).ends

  placed-so-far : (n : ℕ) → n ≤ b.partitions → IsPlacedSoFar (reach b (placings_of b n)) n
  placed-so-far zero within = record {
    works = tt;
    done = λ q below. absurd (omega arith);
    left = λ q more. replicate-same b.partitions q 0;
    holds = refl;
    own = refl;
    ends = refl;
  }
  placed-so-far (suc n) within =
      let before = placed-so-far n (omega arith) in
      let s = reach b (placings_of b n) in
      let more = replicate b.size (Place n) in
      let zero_front = before.left n (omega arith) in
      let passed = passes b.size s n (record { events = placings_of b n; is = refl }) (omega arith) (omega arith) in
      rw (run-append b (start b) (placings_of b n) more) record {
        works = effective-append b (start b) (placings_of b n) more before.works passed.works;
        done = λ q below.
            elim (cases_lt q n) [
              | inl less ↦ passed.others q (λ same. omega arith) ∙ before.done q less
              | inr not_less ↦ let same : q ≡ n = omega arith in rw same passed.here
            ];
        left = λ q past. passed.others q (λ same. omega arith) ∙ before.left q (omega arith);
        holds = passed.holds ∙ before.holds;
        own = passed.own ∙ before.own;
        ends = passed.ends ∙ before.ends;
      }

  -- the state once all is placed
  abbrev pub placed : State
  placed = reach b (placings b)

  pub placed-works : IsEffective b (start b) (placings b)
  placed-works = (placed-so-far b.partitions (omega arith)).works

  -- nothing is held or stored there
  pub placed-free : (i : ℕ) → hold_of placed i ≡ Free
  placed-free i = rw (placed-so-far b.partitions (omega arith)).holds (replicate-same b.size i Free)

  pub placed-blank : (i : ℕ) → own_of placed i ≡ []
  placed-blank i = rw (placed-so-far b.partitions (omega arith)).own (replicate-same b.size i [])

  pub placed-ends : (j : ℕ) → end_of placed j ≡ end_of (start b) j
  placed-ends j = rw (placed-so-far b.partitions (omega arith)).ends refl

  -- every partition has placed every place
  pub placed-front : (q : ℕ) → q < b.partitions → front_of placed q ≡ b.size
  placed-front q below = (placed-so-far b.partitions (omega arith)).done q below
