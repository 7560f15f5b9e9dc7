-- What is counted of bodies over steps.
use Rattle.std.proofs.Common.{◌≡◌, ◌+◌, ◌-◌, ◌^◌, ◌<◌, ℕ, zero, suc, min, List, [], ◌∷◌, ◌++◌, refl, sym, ap, ◌∙◌, subst, ⊎_elim, append_assoc, append-nil, add-zero, zero-add, arith}
use Rattle.std.specs.Prelude.{sum_by}
use Rattle.std.proofs.lemmas.List.Sums.{sum_by-append}
use Rattle.bohm_core_base.specs.declared.event.Event.{Event}
use Rattle.bohm_core_base.specs.declared.event.Event.TheVariants.{Claim, GiveBack}
use Rattle.words.specs.declared.claims.Claimed.{Claimed}
use Rattle.words.specs.declared.claims.Claimed.TheVariants as claimed
use Rattle.words.specs.declared.claims.Seen.{Seen}
use Rattle.words.specs.declared.claims.Seen.TheVariants as seen
use Rattle.words.specs.declared.knowledge.Knowledge.{Knowledge}
use Rattle.words.specs.Passes.{PassState, gone_on}
use Rattle.words.specs.Meanings.{ClaimMeans, FoundHeld, LookMeans}
use Rattle.words.specs.Views.{with_event}
use Rattle.filling_base.specs.Counting.{CountsBodies, counted_more, finish_of, finished_places}
use Rattle.filling_base.specs.Extending.{Finishes, OnlyLearns}

finished-append : (l m : List Event) → finished_places (l ++ m) ≡ finished_places l ++ finished_places m
finished-append [] m = refl
finished-append (e ∷ l) m =
    ap (λ (k : List ℕ). finish_of e ++ k) (finished-append l m) ∙ sym (append_assoc (finish_of e) (finished_places l) (finished_places m))

-- one more event finishes what it finishes
pub finished-one : (v : Knowledge) (e : Event) → finished_places (with_event v e).events ≡ finished_places v.events ++ finish_of e
finished-one v e =
    finished-append v.events (e ∷ []) ∙ ap (λ (k : List ℕ). finished_places v.events ++ k) (append-nil (finish_of e))

-- a claim, and what is given back, finish none
pub finished-claim : (v w : Knowledge) (a i : ℕ) → w ≡ with_event v (Claim a i) → finished_places w.events ≡ finished_places v.events
finished-claim v w a i is = ap (λ (u : Knowledge). finished_places u.events) is ∙ finished-one v (Claim a i) ∙ append-nil (finished_places v.events)

pub finished-back : (v w : Knowledge) (a i : ℕ) → w ≡ with_event v (GiveBack a i) → finished_places w.events ≡ finished_places v.events
finished-back v w a i is = ap (λ (u : Knowledge). finished_places u.events) is ∙ finished-one v (GiveBack a i) ∙ append-nil (finished_places v.events)

-- this many more, and then this many more
counted-again : (b m n : ℕ) → counted_more (counted_more b m) n ≡ counted_more b (m + n)
counted-again b zero n = ap (counted_more b) (sym (zero-add n))
counted-again b (suc m) zero = ap (counted_more b) (sym (add-zero (suc m)))
counted-again b (suc m) (suc n) =
    let least : min (min (b + suc m) (2 ^ 64 - 1) + suc n) (2 ^ 64 - 1) ≡ min (b + suc (m + suc n)) (2 ^ 64 - 1) = omega arith in
    let more : suc (m + suc n) ≡ suc m + suc n = omega arith in
    least ∙ ap (counted_more b) more

-- below the greatest number the count is a sum
pub counted-sum : (b n : ℕ) → b < 2 ^ 64 → counted_more b n ≡ min (b + n) (2 ^ 64 - 1)
counted-sum b zero few = omega arith
counted-sum b (suc n) few = refl

module _ (runs : ℕ → ℕ) where
  pub counts-none : (p q : PassState) → finished_places q.view.events ≡ finished_places p.view.events → q.bodies ≡ p.bodies → CountsBodies runs p q
  counts-none p q is bodies = record { places = []; finishes = is ∙ sym (append-nil (finished_places p.view.events)); bodies = bodies }

  pub counts-self : (p : PassState) → CountsBodies runs p p
  counts-self p = counts-none p p refl refl

  pub counts-is : (p q : PassState) → q ≡ p → CountsBodies runs p q
  counts-is p q is = counts-none p q (ap (λ (x : PassState). finished_places x.view.events) is) (ap (λ (x : PassState). x.bodies) is)

  -- it has gone on to a view by which it finished none
  pub counts-on : (p q : PassState) (v : Knowledge) → q ≡ gone_on p v → finished_places v.events ≡ finished_places p.view.events → CountsBodies runs p q
  counts-on p q v is none =
      counts-none p q (ap (λ (x : PassState). finished_places x.view.events) is ∙ none) (ap (λ (x : PassState). x.bodies) is)

  pub counts-then : (p q r : PassState) → CountsBodies runs p q → CountsBodies runs q r → CountsBodies runs p r
  counts-then p q r a b = record {
    places = a.places ++ b.places;
    finishes = b.finishes ∙ ap (λ (l : List ℕ). l ++ b.places) a.finishes ∙ append_assoc (finished_places p.view.events) a.places b.places;
    bodies = b.bodies ∙ ap (λ (n : ℕ). counted_more n (sum_by runs b.places)) a.bodies
        ∙ counted-again p.bodies (sum_by runs a.places) (sum_by runs b.places) ∙ ap (counted_more p.bodies) (sym (sum_by-append runs a.places b.places));
  }

  -- the pass by another name
  pub counts-from : (o p q : PassState) → p ≡ o → CountsBodies runs p q → CountsBodies runs o q
  counts-from o p q is counts = subst (λ (x : PassState). CountsBodies runs x q) is counts

  pub counts-to : (p q r : PassState) → r ≡ q → CountsBodies runs p q → CountsBodies runs p r
  counts-to p q r is counts = subst (λ (x : PassState). CountsBodies runs p x) (sym is) counts

  held-finished : (i : ℕ) (v w : Knowledge) → FoundHeld i v w → finished_places w.events ≡ finished_places v.events
  held-finished i v w found =
      ⊎_elim (λ mine. ap (λ (u : Knowledge). finished_places u.events) mine.0) (λ others. ap (λ (u : Knowledge). finished_places u.events) others.0) found

  look-finished : (i : ℕ) (v w : Knowledge) (found : Seen) → LookMeans i v found w → finished_places w.events ≡ finished_places v.events
  look-finished i v w seen.Free tells = ap (λ (u : Knowledge). finished_places u.events) tells
  look-finished i v w seen.Held tells = held-finished i v w tells
  look-finished i v w seen.Done tells = ap (λ (u : Knowledge). finished_places u.events) tells

  claim-finished : (a i : ℕ) (v w : Knowledge) (found : Claimed) → ClaimMeans a i v found w → finished_places w.events ≡ finished_places v.events
  claim-finished a i v w claimed.Won tells = finished-claim v w a i tells.0
  claim-finished a i v w claimed.Held tells = held-finished i v w tells
  claim-finished a i v w claimed.Done tells = ap (λ (u : Knowledge). finished_places u.events) tells

  -- who looks or claims counts none
  pub counts-look : (p q : PassState) (i : ℕ) (found : Seen) → q ≡ gone_on p q.view → LookMeans i p.view found q.view → CountsBodies runs p q
  counts-look p q i found is tells = counts-on p q q.view is (look-finished i p.view q.view found tells)

  pub counts-claim : (p q : PassState) (i : ℕ) (found : Claimed) → q ≡ gone_on p q.view → ClaimMeans p.number i p.view found q.view → CountsBodies runs p q
  counts-claim p q i found is tells = counts-on p q q.view is (claim-finished p.number i p.view q.view found tells)

  pub counts-back : (p q : PassState) (i : ℕ) → q ≡ gone_on p (with_event p.view (GiveBack p.number i)) → CountsBodies runs p q
  counts-back p q i is =
      let v = with_event p.view (GiveBack p.number i) in counts-on p q v is (finished-back p.view v p.number i refl)

  -- a place was filled, or memory was wanting for it
  pub counts-filled : (p q : PassState) (i : ℕ) → Finishes i p.view q.view → q.bodies ≡ counted_more p.bodies (runs i) → CountsBodies runs p q
  counts-filled p q i finishes bodies = record {
    places = i ∷ [];
    finishes = finishes.finishes;
    bodies = bodies ∙ ap (counted_more p.bodies) (sym (zero-add (runs i)));
  }

  pub counts-starved : (p q : PassState) → OnlyLearns p.view q.view → q.bodies ≡ p.bodies → CountsBodies runs p q
  counts-starved p q learns bodies = counts-none p q (ap finished_places learns.events) bodies
