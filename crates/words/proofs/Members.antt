-- Tests, membership in lists, repeated elements, and the events of one actor.
use Rattle.std.proofs.Common.{◌≡◌, ◌≢◌, ◌⊎◌, ℕ, zero, suc, ◌<◌, Bool, true, false, List, [], ◌∷◌, ◌++◌, length, get_or, refl, sym, ap, inl, inr, ⊎_elim, arith, eq-eqb, replicate}
use Rattle.std.specs.Prelude.{Some}
use Rattle.std.specs.List.{list_all}
use Rattle.std.proofs.lemmas.Bool.{eqb-true}
use mathlib.Core.Option.{some, some-ne-none, some-injective}
use lib.ListN.{get_elem?}
use Rattle.bohm_core_base.specs.declared.event.Event.{Event}
use Rattle.bohm_core_base.specs.declared.event.Event.TheVariants.{Place, Claim, Fill, End, Finish, GiveBack}
use Rattle.bohm_core_base.specs.Laws.{actor_of}
use Rattle.words.specs.Legal.{events_by, is_event_of, is_placing_in, placings_in}
use Rattle.words.specs.Views.{In}
use Rattle.model_base.proofs.Replay.{by_cases}

-- each element of a repeated one is that
pub replicate-same : {A : Type 0} (n i : ℕ) (x : A) → get_or (replicate n x) i x ≡ x
replicate-same zero i x = refl
replicate-same (suc n) zero x = refl
replicate-same (suc n) (suc i) x = replicate-same n i x

module _ {A : Type 0} where
  pub in_cases : (x : A) (l m : List A) → In x (l ++ m) → In x l ⊎ In x m
  in_cases x [] m h = inr h
  in_cases x (y ∷ l) m h = ⊎_elim (λ e. inl (inl e)) (λ t. ⊎_elim (λ a. inl (inr a)) (λ b. inr b) (in_cases x l m t)) h

  pub in_front : (x : A) (l m : List A) → In x l → In x (l ++ m)
  in_front x [] m h = absurd h
  in_front x (y ∷ l) m h = ⊎_elim (λ e. inl e) (λ t. inr (in_front x l m t)) h

  pub in_back : (x : A) (l m : List A) → In x m → In x (l ++ m)
  in_back x [] m h = h
  in_back x (y ∷ l) m h = inr (in_back x l m h)

  pub in_one : (x y : A) → In x (y ∷ []) → x ≡ y
  in_one x y h = ⊎_elim (λ e. e) (λ no. absurd no) h

  pub at_below : (l : List A) (i : ℕ) (x : A) → get_elem? l i ≡ some x → i < length l
  at_below [] i x e = absurd (some-ne-none x (sym e))
  at_below (y ∷ l) zero x e = omega arith
  at_below (y ∷ l) (suc i) x e = let h = at_below l i x e in omega arith

  -- all pass where each by its number does
  pub all-of : (test : A → Bool) (d : A) (l : List A) → ((i : ℕ) → i < length l → test (get_or l i d) ≡ true) → list_all test l ≡ true
  all-of test d [] each = refl
  all-of test d (x ∷ l) each = rw (each 0 (omega arith)) (all-of test d l (λ i below. each (suc i) (omega arith)))

pub read_at : (l : List ℕ) (i x : ℕ) → get_elem? l i ≡ some x → x ≡ get_or l i 0
read_at [] i x e = absurd (some-ne-none x (sym e))
read_at (y ∷ l) zero x e = sym (some-injective y x e)
read_at (y ∷ l) (suc i) x e = read_at l i x e

-- whose event it is
pub by-actor : (a : ℕ) (e : Event) → actor_of e ≡ Some a → is_event_of a e ≡ true
by-actor a (Place p) of = cc
by-actor a (Claim b i) of = let same : b ≡ a = cc in eq-eqb b a same
by-actor a (Fill b i) of = let same : b ≡ a = cc in eq-eqb b a same
by-actor a (End b i j) of = let same : b ≡ a = cc in eq-eqb b a same
by-actor a (Finish b i) of = let same : b ≡ a = cc in eq-eqb b a same
by-actor a (GiveBack b i) of = let same : b ≡ a = cc in eq-eqb b a same

pub actor-by : (a : ℕ) (e : Event) → is_event_of a e ≡ true → actor_of e ≡ Some a
actor-by a (Place p) by = cc
actor-by a (Claim b i) by = ap Some (eqb-true b a by)
actor-by a (Fill b i) by = ap Some (eqb-true b a by)
actor-by a (End b i j) by = ap Some (eqb-true b a by)
actor-by a (Finish b i) by = ap Some (eqb-true b a by)
actor-by a (GiveBack b i) by = ap Some (eqb-true b a by)

pub not-by : (a : ℕ) (e : Event) → actor_of e ≢ Some a → is_event_of a e ≡ false
not-by a e other = by_cases (is_event_of a e) (λ by. absurd (other (actor-by a e by))) (λ no. no)

pub by-append : (a : ℕ) (es fs : List Event) → events_by a (es ++ fs) ≡ events_by a es ++ events_by a fs
by-append a [] fs = refl
by-append a (e ∷ es) fs =
    by_cases (is_event_of a e)
    (λ by. rw (by, by-append a es fs) refl)
    (λ no. rw (no, by-append a es fs) refl)

pub by-one : (a : ℕ) (e : Event) → actor_of e ≡ Some a → events_by a (e ∷ []) ≡ e ∷ []
by-one a e of = rw (by-actor a e of) refl

-- none of these is the actor's
pub by-none : (a : ℕ) (es : List Event) → ((e : Event) → In e es → actor_of e ≢ Some a) → events_by a es ≡ []
by-none a [] none = refl
by-none a (e ∷ es) none = rw (not-by a e (none e (inl refl))) (by-none a es (λ f h. none f (inr h)))

-- an event with an actor is no placer's
pub acted-no_placing : (p a : ℕ) (e : Event) → actor_of e ≡ Some a → is_placing_in p e ≡ false
acted-no_placing p a (Place q) of = absurd (cc)
acted-no_placing p a (Claim b i) of = refl
acted-no_placing p a (Fill b i) of = refl
acted-no_placing p a (End b i j) of = refl
acted-no_placing p a (Finish b i) of = refl
acted-no_placing p a (GiveBack b i) of = refl

pub placings-append : (p : ℕ) (es fs : List Event) → placings_in p (es ++ fs) ≡ placings_in p es ++ placings_in p fs
placings-append p [] fs = refl
placings-append p (e ∷ es) fs =
    by_cases (is_placing_in p e)
    (λ by. rw (by, placings-append p es fs) refl)
    (λ no. rw (no, placings-append p es fs) refl)

-- none of these is of the partition
pub placings-none : (p : ℕ) (es : List Event) → ((e : Event) → In e es → is_placing_in p e ≡ false) → placings_in p es ≡ []
placings-none p [] none = refl
placings-none p (e ∷ es) none = rw (none e (inl refl)) (placings-none p es (λ f h. none f (inr h)))
