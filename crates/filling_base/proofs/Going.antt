-- What a pass keeps over steps.
use Rattle.std.proofs.Common.{◌≡◌, ℕ, ◌+◌, ◌≤◌, List, [], ◌∷◌, ◌++◌, length, refl, sym, ap, ◌∙◌, subst, inl, inr, ⊎_elim, append_assoc, append-nil, length-append, arith}
use Rattle.bohm_core_base.specs.declared.event.Event.{Event}
use Rattle.bohm_core_base.specs.declared.event.Event.TheVariants.{Claim, Fill, End, Finish, GiveBack}
use Rattle.bohm_core_base.specs.Batch.{Batch}
use Rattle.words.specs.declared.knowledge.Knowledge.{Knowledge}
use Rattle.words.specs.Passes.{PassState, gone_on}
use Rattle.words.specs.Views.{In, KeepsFronts, KnowsReferences, with_all_placed, with_event, with_front, with_known, with_sighting}
use Rattle.filling_base.specs.Extending.{Extends, IsSamePass, NoPlace, OnlyLearns}
use Rattle.filling_base.specs.Tries.{HasToWait, IsKnownDone}
use Rattle.words.proofs.Known.{keeps-found, keeps-same, keeps-then}
use Rattle.filling_base.proofs.Members.{in_back, in_cases, in_front, in_one}

pub same-self : (p : PassState) → IsSamePass p p
same-self p = record { table = refl; number = refl; bodies = omega arith }

pub same-on : (p q : PassState) (v : Knowledge) → q ≡ gone_on p v → IsSamePass p q
same-on p q v is = subst (λ (x : PassState). IsSamePass p x) (sym is) (record { table = refl; number = refl; bodies = omega arith })

pub same-then : (p q r : PassState) → IsSamePass p q → IsSamePass q r → IsSamePass p r
same-then p q r a b = record {
  table = b.table ∙ a.table;
  number = b.number ∙ a.number;
  bodies = (let one = a.bodies in let two = b.bodies in omega arith);
}

-- nothing more happened
pub nothing-more : (v w : Knowledge) (P : ℕ → Type 0) → w.events ≡ v.events → ((x : ℕ) → In x v.known → In x w.known) → w.kept ≡ v.kept → w.sole ≡ v.sole → KeepsFronts v w → Extends P v w
nothing-more v w P is knows kept sole fronts = record {
  knows = knows;
  events = [];
  adds = is ∙ sym (append-nil v.events);
  gives_back = λ a i has. absurd has;
  kept = kept;
  sole = sole;
  fronts = fronts;
}

pub goes-same : (P : ℕ → Type 0) (v w : Knowledge) → w ≡ v → Extends P v w
goes-same P v w is = subst (λ (u : Knowledge). Extends P v u) (sym is) (nothing-more v v P refl (λ x has. has) refl refl (keeps-same v))

pub goes-known : (P : ℕ → Type 0) (v w : Knowledge) (i : ℕ) → w ≡ with_known v i → Extends P v w
goes-known P v w i is = subst (λ (u : Knowledge). Extends P v u) (sym is) (nothing-more v (with_known v i) P refl (λ x has. in_front x v.known (i ∷ []) has) refl refl (keeps-same v))

pub goes-sighting : (P : ℕ → Type 0) (v w : Knowledge) (i : ℕ) → w ≡ with_sighting v i → Extends P v w
goes-sighting P v w i is = subst (λ (u : Knowledge). Extends P v u) (sym is) (nothing-more v (with_sighting v i) P refl (λ x has. has) refl refl (keeps-same v))

pub goes-event : (P : ℕ → Type 0) (v w : Knowledge) (e : Event) → ((a i : ℕ) → GiveBack a i ≡ e → P i) → w ≡ with_event v e → Extends P v w
goes-event P v w e gives is = subst (λ (u : Knowledge). Extends P v u) (sym is) (record {
  knows = λ x has. has;
  events = e ∷ [];
  adds = refl;
  gives_back = λ a i has. gives a i (in_one (GiveBack a i) e has);
  kept = refl;
  sole = refl;
  fronts = keeps-same v;
})

-- events that give nothing back
no-claim : (a i b j : ℕ) → GiveBack a i ≡ Claim b j → ⊥
no-claim a i b j is = cc

no-fill : (a i b j : ℕ) → GiveBack a i ≡ Fill b j → ⊥
no-fill a i b j is = cc

no-end : (a i b j k : ℕ) → GiveBack a i ≡ End b j k → ⊥
no-end a i b j k is = cc

no-finish : (a i b j : ℕ) → GiveBack a i ≡ Finish b j → ⊥
no-finish a i b j is = cc

same-place : (a i b j : ℕ) → GiveBack a i ≡ GiveBack b j → j ≡ i
same-place a i b j is = cc

pub goes-claim : (v w : Knowledge) (b j : ℕ) → w ≡ with_event v (Claim b j) → Extends NoPlace v w
goes-claim v w b j is = goes-event NoPlace v w (Claim b j) (λ a i same. no-claim a i b j same) is

pub goes-fill : (v w : Knowledge) (b j : ℕ) → w ≡ with_event v (Fill b j) → Extends NoPlace v w
goes-fill v w b j is = goes-event NoPlace v w (Fill b j) (λ a i same. no-fill a i b j same) is

pub goes-end : (v w : Knowledge) (b j k : ℕ) → w ≡ with_event v (End b j k) → Extends NoPlace v w
goes-end v w b j k is = goes-event NoPlace v w (End b j k) (λ a i same. no-end a i b j k same) is

pub goes-finish : (v w : Knowledge) (b j : ℕ) → w ≡ with_event v (Finish b j) → Extends NoPlace v w
goes-finish v w b j is = goes-event NoPlace v w (Finish b j) (λ a i same. no-finish a i b j same) is

pub goes-back : (P : ℕ → Type 0) (v w : Knowledge) (b j : ℕ) → P j → w ≡ with_event v (GiveBack b j) → Extends P v w
goes-back P v w b j may is = goes-event P v w (GiveBack b j) (λ a i same. subst P (same-place a i b j same) may) is

pub goes-then : (P : ℕ → Type 0) (u v w : Knowledge) → Extends P u v → Extends P v w → Extends P u w
goes-then P u v w a b = record {
  knows = λ x has. b.knows x (a.knows x has);
  events = a.events ++ b.events;
  adds = b.adds ∙ ap (λ (l : List Event). l ++ b.events) a.adds ∙ append_assoc u.events a.events b.events;
  gives_back = λ n i has. ⊎_elim (λ front. a.gives_back n i front) (λ back. b.gives_back n i back) (in_cases (GiveBack n i) a.events b.events has);
  kept = b.kept ∙ a.kept;
  sole = b.sole ∙ a.sole;
  fronts = keeps-then u v w a.fronts b.fronts;
}

pub goes-wider : (P Q : ℕ → Type 0) (v w : Knowledge) → ((i : ℕ) → P i → Q i) → Extends P v w → Extends Q v w
goes-wider P Q v w wider g = record {
  knows = g.knows;
  events = g.events;
  adds = g.adds;
  gives_back = λ a i has. wider i (g.gives_back a i has);
  kept = g.kept;
  sole = g.sole;
  fronts = g.fronts;
}

pub goes-none : (P : ℕ → Type 0) (v w : Knowledge) → Extends NoPlace v w → Extends P v w
goes-none P v w g = goes-wider NoPlace P v w (λ i none. absurd none) g

pub goes-longer : (P : ℕ → Type 0) (v w : Knowledge) → Extends P v w → length v.events ≤ length w.events
goes-longer P v w g =
    let is : length w.events ≡ length v.events + length g.events = ap length g.adds ∙ length-append v.events g.events in omega arith

pub now-known : (v w : Knowledge) (i : ℕ) → w ≡ with_known v i → In i w.known
now-known v w i is = subst (λ (u : Knowledge). In i u.known) (sym is) (in_back i v.known (i ∷ []) (inl refl))

pub learns-nothing : (v : Knowledge) → OnlyLearns v v
learns-nothing v = record { goes = goes-same NoPlace v v refl; events = refl; sightings = refl }

pub learns-known : (v w : Knowledge) (r : ℕ) → w ≡ with_known v r → OnlyLearns v w
learns-known v w r is = record {
  goes = goes-known NoPlace v w r is;
  events = ap (λ (u : Knowledge). u.events) is;
  sightings = ap (λ (u : Knowledge). u.sightings) is;
}

-- a front that is found is only learnt
pub learns-front : (v w : Knowledge) (p found : ℕ) → w ≡ with_front v p found → OnlyLearns v w
learns-front v w p found is = record {
  goes = subst (λ (u : Knowledge). Extends NoPlace v u) (sym is) (nothing-more v (with_front v p found) NoPlace refl (λ x has. has) refl refl (keeps-found v p found));
  events = ap (λ (u : Knowledge). u.events) is;
  sightings = ap (λ (u : Knowledge). u.sightings) is;
}

-- and so it is that all is placed
pub learns-placed : (v w : Knowledge) → w ≡ with_all_placed v → OnlyLearns v w
learns-placed v w is = record {
  goes = subst (λ (u : Knowledge). Extends NoPlace v u) (sym is) (nothing-more v (with_all_placed v) NoPlace refl (λ x has. has) refl refl ((λ _. refl), (λ partition count has. has)));
  events = ap (λ (u : Knowledge). u.events) is;
  sightings = ap (λ (u : Knowledge). u.sightings) is;
}

-- who knows more knows the references that were known, and what they settle
pub refers-later : (b : Batch) (v w : Knowledge) (i : ℕ) → ((x : ℕ) → In x v.known → In x w.known) → KnowsReferences b v i → KnowsReferences b w i
refers-later b v w i more knows other has = more other (knows other has)

pub told-later : (b : Batch) (v w : Knowledge) (i : ℕ) → ((x : ℕ) → In x v.known → In x w.known) → IsKnownDone b v i → IsKnownDone b w i
told-later b v w i more told =
    ⊎_elim (λ known. inl (more i known))
    (λ settled. inr (settled.0, settled.1, settled.2, settled.3, refers-later b v w settled.0 more settled.4, settled.5, settled.6)) told

-- and what had to wait later had to before
pub waited-before : (b : Batch) (v w : Knowledge) (i : ℕ) → ((x : ℕ) → In x v.known → In x w.known) → HasToWait b w i → HasToWait b v i
waited-before b v w i more waits = λ knows. waits (refers-later b v w i more knows)
