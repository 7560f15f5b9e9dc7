-- How what is held is given back.
use Rattle.std.proofs.Common.{◌≡◌, ℕ, List, ap, ◌∙◌}
use Rattle.bohm_core_base.specs.declared.event.Event.TheVariants.{GiveBack}
use Rattle.words.specs.declared.knowledge.Knowledge.{Knowledge}
use Rattle.words.specs.Views.{In, with_event}
use Rattle.filling_base.specs.Walks.{Released}
use Rattle.filling_base.proofs.Going.{goes-back, goes-then}

pub released-first : (xs : List ℕ) (v w : Knowledge) (a x : ℕ) → In x xs → w ≡ with_event v (GiveBack a x) → Released xs v w
released-first xs v w a x has is = record {
  goes = goes-back (λ i. In i xs) v w a x has is;
  sightings = ap (λ (u : Knowledge). u.sightings) is;
}

pub released-more : (xs : List ℕ) (u v w : Knowledge) (a x : ℕ) → Released xs u v → In x xs → w ≡ with_event v (GiveBack a x) → Released xs u w
released-more xs u v w a x so-far has is = record {
  goes = goes-then (λ i. In i xs) u v w so-far.goes (goes-back (λ i. In i xs) v w a x has is);
  sightings = ap (λ (t : Knowledge). t.sightings) is ∙ so-far.sightings;
}
