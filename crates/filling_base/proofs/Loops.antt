-- The loops that store a place.
use Rattle.std.proofs.Common.{◌≡◌, ℕ, zero, suc, ◌<◌, List, [], ◌∷◌, ◌++◌, refl, sym, ap, ◌∙◌, subst, inl, ⊎_elim, append-nil, arith}
use Rattle.bohm_core_base.specs.declared.event.Event.TheVariants.{Fill, End, Finish}
use Rattle.words.specs.declared.knowledge.Knowledge.{Knowledge}
use Rattle.words.specs.Views.{Holds, In, with_event, with_known}
use Rattle.filling_base.specs.Extending.{Finishes, NoPlace}
use Rattle.filling_base.specs.Storing.{Stores, ended_below, slot_of}
use Rattle.filling_base.specs.Counting.{finished_places}
use Rattle.filling_base.proofs.Counting.{finished-one}
use Rattle.filling_base.proofs.Going.{goes-end, goes-fill, goes-finish, goes-known, goes-same, goes-then, now-known}
use Rattle.filling_base.proofs.Holding.{finished-free, others-end, others-fill, others-finish, others-same, others-then}
use Rattle.filling_base.proofs.Members.{in_back, in_cases, in_front, in_one}
use Rattle.filling_base.proofs.Paths.{below-suc}
use Rattle.words.proofs.Taking.{ended-holds, filled-holds}

pub begun-storing : (i : ℕ) (v : Knowledge) (m : ℕ) (js : List ℕ) → Holds v i m js → Stores i v v m js
begun-storing i v m js holds = record { goes = goes-same NoPlace v v refl; finishes = refl; sightings = refl; others = others-same i v; holds = holds }

pub filled-more : (i a m n : ℕ) (v u w : Knowledge) (js : List ℕ) → Stores i v u m js → w ≡ with_event u (Fill a i) → n ≡ suc m → Stores i v w n js
filled-more i a m n v u w js stores is next =
    subst (λ (k : ℕ). Stores i v w k js) (sym next) (subst (λ (x : Knowledge). Stores i v x (suc m) js) (sym is) (record {
      goes = goes-then NoPlace v u (with_event u (Fill a i)) stores.goes (goes-fill u (with_event u (Fill a i)) a i refl);
      finishes = finished-one u (Fill a i) ∙ append-nil (finished_places u.events) ∙ stores.finishes;
      sightings = stores.sightings;
      others = others-then i v u (with_event u (Fill a i)) stores.others (others-fill u a i);
      holds = filled-holds u a i m js stores.holds;
    }))

pub ended-more : (i a m n k : ℕ) (v u w : Knowledge) (listed ends : List ℕ) → Stores i v u m (ended_below listed ends n) → w ≡ with_event u (End a i (slot_of listed ends n)) → k ≡ suc n
    → Stores i v w m (ended_below listed ends k)
ended-more i a m n k v u w listed ends stores is next =
    let slot = slot_of listed ends n in
    subst (λ (x : ℕ). Stores i v w m (ended_below listed ends x)) (sym next) (subst (λ (x : Knowledge). Stores i v x m (ended_below listed ends (suc n))) (sym is) (record {
      goes = goes-then NoPlace v u (with_event u (End a i slot)) stores.goes (goes-end u (with_event u (End a i slot)) a i slot refl);
      finishes = finished-one u (End a i slot) ∙ append-nil (finished_places u.events) ∙ stores.finishes;
      sightings = stores.sightings;
      others = others-then i v u (with_event u (End a i slot)) stores.others (others-end u a i slot);
      holds = ended-holds u a i slot m (ended_below listed ends n) stores.holds;
    }))

pub stores-then : (i : ℕ) (v u w : Knowledge) (m n : ℕ) (js ks : List ℕ) → Stores i v u m js → Stores i u w n ks → Stores i v w n ks
stores-then i v u w m n js ks a b = record {
  goes = goes-then NoPlace v u w a.goes b.goes;
  finishes = b.finishes ∙ a.finishes;
  sightings = b.sightings ∙ a.sightings;
  others = others-then i v u w a.others b.others;
  holds = b.holds;
}

pub now-finished : (i a m : ℕ) (v u w : Knowledge) (js : List ℕ) → Stores i v u m js → w ≡ with_known (with_event u (Finish a i)) i → Finishes i v w
now-finished i a m v u w js stores is =
    let x = with_event u (Finish a i) in
    let all : Finishes i v (with_known x i) = record {
      goes = goes-then NoPlace v u (with_known x i) stores.goes
          (goes-then NoPlace u x (with_known x i) (goes-finish u x a i refl) (goes-known NoPlace x (with_known x i) i refl));
      finishes = finished-one u (Finish a i) ∙ ap (λ (l : List ℕ). l ++ i ∷ []) stores.finishes;
      sightings = stores.sightings;
      known = now-known x (with_known x i) i refl;
      others = others-then i v u (with_known x i) stores.others (others-finish u a i);
      free = λ count ended holds. finished-free u a i count ended holds;
    } in
    subst (λ (y : Knowledge). Finishes i v y) (sym is) all

-- a slot among the first this many has a number below
pub in-ended : (listed ends : List ℕ) (n slot : ℕ) → In slot (ended_below listed ends n) → (m : ℕ) × (m < n) × (slot ≡ slot_of listed ends m)
in-ended listed ends zero slot has = absurd has
in-ended listed ends (suc n) slot has =
    ⊎_elim (λ old. let rest = in-ended listed ends n slot old in let less = rest.1 in (rest.0, (omega arith), rest.2))
    (λ new. (n, (omega arith), in_one slot (slot_of listed ends n) new))
    (in_cases slot (ended_below listed ends n) (slot_of listed ends n ∷ []) has)

pub among-ended : (listed ends : List ℕ) (n m slot : ℕ) → m < n → slot_of listed ends m ≡ slot → In slot (ended_below listed ends n)
among-ended listed ends zero m slot below is = absurd (omega arith)
among-ended listed ends (suc n) m slot below is =
    ⊎_elim
    (λ same. in_back slot (ended_below listed ends n) (slot_of listed ends n ∷ []) (inl (sym is ∙ ap (slot_of listed ends) same)))
    (λ less. in_front slot (ended_below listed ends n) (slot_of listed ends n ∷ []) (among-ended listed ends n m slot less is))
    (below-suc m n below)
