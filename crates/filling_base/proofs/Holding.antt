-- Which places a pass holds.
use Rattle.std.proofs.Common.{◌≡◌, ◌≢◌, ◌↔◌, ℕ, List, [], ◌∷◌, ◌++◌, false, refl, sym, ap, ◌∙◌, subst, inl, inr, ⊎_elim, eq-eqb}
use Rattle.std.specs.Prelude.{Some, None}
use Rattle.std.proofs.lemmas.Bool.{cases_eq, ne_eqb}
use Rattle.bohm_core_base.specs.declared.event.Event.{Event}
use Rattle.bohm_core_base.specs.declared.event.Event.TheVariants.{Claim, End, Fill, Finish, GiveBack}
use Rattle.words.specs.declared.knowledge.Knowledge.{Knowledge}
use Rattle.words.specs.Meanings.{FoundHeld}
use Rattle.words.specs.Views.{Holds, HoldsNone, In, Stored, is_event_at, track, with_event, with_known, with_sighting}
use Rattle.filling_base.specs.Extending.{HoldsJust, HoldsOthers}
use Rattle.words.proofs.Taking.{track-snoc, claimed-holds}

some-none : (m : ℕ) (js : List ℕ) (t : Stored) → t ≡ None → t ≡ Some (m, js) → ⊥
some-none m js t nothing some = let both : None ≡ Some (m, js) = sym nothing ∙ some in absurd (cc)

-- an event about another place changes nothing of this one
pub elsewhere : (v : Knowledge) (e : Event) (i m : ℕ) (js : List ℕ) → is_event_at i e ≡ false → Holds v i m js ↔ Holds (with_event v e) i m js
elsewhere v e i m js other =
    let is : track i None (v.events ++ e ∷ []) ≡ track i None v.events = track-snoc i None v.events e ∙ rw other refl in
    ((λ holds. is ∙ holds), (λ holds. sym is ∙ holds))

pub finished-free : (v : Knowledge) (a i m : ℕ) (js : List ℕ) → ¬ (Holds (with_event v (Finish a i)) i m js)
finished-free v a i m js holds =
    some-none m js (track i None (v.events ++ Finish a i ∷ [])) (track-snoc i None v.events (Finish a i) ∙ rw (eq-eqb i i refl) refl) holds

given_back-free : (v : Knowledge) (a i m : ℕ) (js : List ℕ) → ¬ (Holds (with_event v (GiveBack a i)) i m js)
given_back-free v a i m js holds =
    some-none m js (track i None (v.events ++ GiveBack a i ∷ [])) (track-snoc i None v.events (GiveBack a i) ∙ rw (eq-eqb i i refl) refl) holds

-- what a step about one place leaves alone
pub others-same : (i : ℕ) (v : Knowledge) → HoldsOthers i v v
others-same i v other m js differ = ((λ holds. holds), (λ holds. holds))

pub others-then : (i : ℕ) (u v w : Knowledge) → HoldsOthers i u v → HoldsOthers i v w → HoldsOthers i u w
others-then i u v w a b other m js differ =
    let one = a other m js differ in
    let two = b other m js differ in
    ((λ holds. two.0 (one.0 holds)), (λ holds. one.1 (two.1 holds)))

pub others-fill : (v : Knowledge) (a i : ℕ) → HoldsOthers i v (with_event v (Fill a i))
others-fill v a i other m js differ = elsewhere v (Fill a i) other m js (ne_eqb i other (λ is. differ (sym is)))

pub others-end : (v : Knowledge) (a i slot : ℕ) → HoldsOthers i v (with_event v (End a i slot))
others-end v a i slot other m js differ = elsewhere v (End a i slot) other m js (ne_eqb i other (λ is. differ (sym is)))

pub others-finish : (v : Knowledge) (a i : ℕ) → HoldsOthers i v (with_known (with_event v (Finish a i)) i)
others-finish v a i other m js differ = elsewhere v (Finish a i) other m js (ne_eqb i other (λ is. differ (sym is)))

others-back : (v : Knowledge) (a i : ℕ) → HoldsOthers i v (with_event v (GiveBack a i))
others-back v a i other m js differ = elsewhere v (GiveBack a i) other m js (ne_eqb i other (λ is. differ (sym is)))

pub holds-nothing : (v : Knowledge) → HoldsNone v → HoldsJust v []
holds-nothing v none = record { these = λ i has. absurd has; only = λ i m js holds. none i m js holds }

pub same-events : (v w : Knowledge) (xs : List ℕ) → w.events ≡ v.events → HoldsJust v xs → HoldsJust w xs
same-events v w xs is held = record {
  these = λ i has. ap (track i None) is ∙ held.these i has;
  only = λ i m js holds. held.only i m js (ap (track i None) (sym is) ∙ holds);
}

pub reorder : (v : Knowledge) (xs ys : List ℕ) → ((i : ℕ) → In i xs → In i ys) → ((i : ℕ) → In i ys → In i xs) → HoldsJust v xs → HoldsJust v ys
reorder v xs ys to from held = record {
  these = λ i has. held.these i (from i has);
  only = λ i m js holds. to i (held.only i m js holds);
}

takes-at : (v : Knowledge) (a r : ℕ) (xs : List ℕ) → HoldsJust v xs → ((i : ℕ) → In i xs → r ≢ i) → HoldsJust (with_event v (Claim a r)) (r ∷ xs)
takes-at v a r xs held apart = record {
  these = λ i has. ⊎_elim
      (λ is. subst (λ (j : ℕ). Holds (with_event v (Claim a r)) j 0 []) (sym is) (claimed-holds v a r))
      (λ old. (elsewhere v (Claim a r) i 0 [] (ne_eqb r i (apart i old))).0 (held.these i old)) has;
  only = λ i m js holds. elim (cases_eq i r) [
    | inl is ↦ inl is
    | inr differ ↦ inr (held.only i m js ((elsewhere v (Claim a r) i m js (ne_eqb r i (λ is. differ (sym is)))).1 holds))
  ];
}

pub takes : (v w : Knowledge) (a r : ℕ) (xs : List ℕ) → HoldsJust v xs → ((i : ℕ) → In i xs → r ≢ i) → w ≡ with_event v (Claim a r) → HoldsJust w (r ∷ xs)
takes v w a r xs held apart is = subst (λ (u : Knowledge). HoldsJust u (r ∷ xs)) (sym is) (takes-at v a r xs held apart)

pub frees : (v w : Knowledge) (x : ℕ) (xs : List ℕ) → HoldsJust v (x ∷ xs) → ((i : ℕ) → In i xs → x ≢ i)
    → HoldsOthers x v w → ((m : ℕ) (js : List ℕ) → ¬ (Holds w x m js)) → HoldsJust w xs
frees v w x xs held apart others free = record {
  these = λ i has. (others i 0 [] (λ is. apart i has (sym is))).0 (held.these i (inr has));
  only = λ i m js holds. elim (cases_eq i x) [
    | inl is ↦ absurd (free m js (subst (λ (j : ℕ). Holds w j m js) is holds))
    | inr differ ↦ ⊎_elim (λ is. absurd (differ is)) (λ old. old) (held.only i m js ((others i m js differ).1 holds))
  ];
}

gives-at : (v : Knowledge) (a x : ℕ) (xs : List ℕ) → HoldsJust v (x ∷ xs) → ((i : ℕ) → In i xs → x ≢ i) → HoldsJust (with_event v (GiveBack a x)) xs
gives-at v a x xs held apart = frees v (with_event v (GiveBack a x)) x xs held apart (others-back v a x) (λ m js. given_back-free v a x m js)

pub gives : (v w : Knowledge) (a x : ℕ) (xs : List ℕ) → HoldsJust v (x ∷ xs) → ((i : ℕ) → In i xs → x ≢ i) → w ≡ with_event v (GiveBack a x) → HoldsJust w xs
gives v w a x xs held apart is = subst (λ (u : Knowledge). HoldsJust u xs) (sym is) (gives-at v a x xs held apart)

-- a place that is found held is another's, if the pass doesn't hold it
pub met : (v w : Knowledge) (r : ℕ) (xs : List ℕ) → HoldsJust v xs → ¬ (In r xs) → FoundHeld r v w → (w ≡ with_sighting v r) × (v.sole ≡ false)
met v w r xs held out found =
    ⊎_elim (λ own. absurd (out (held.only r own.1.0 own.1.1 own.1.2))) (λ other. other) found
