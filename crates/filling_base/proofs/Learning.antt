-- What follows after a pass that only learnt.
use Rattle.std.proofs.Common.{◌≡◌, ℕ, List, [], ◌∷◌, ◌++◌, refl, sym, ap, ◌∙◌}
use Rattle.std.specs.Prelude.{None}
use Rattle.bohm_core_base.specs.declared.event.Event.{Event}
use Rattle.words.specs.declared.knowledge.Knowledge.{Knowledge}
use Rattle.words.specs.Views.{Holds, HoldsNone, In, KeepsFronts, track, with_known}
use Rattle.filling_base.specs.Counting.{finished_places}
use Rattle.filling_base.specs.Extending.{Finishes, HoldsOthers, NoPlace, OnlyLearns}
use Rattle.filling_base.proofs.Going.{goes-then, learns-known, nothing-more}
use Rattle.filling_base.proofs.Holding.{others-then}

pub found : (v : Knowledge) (i : ℕ) → OnlyLearns v (with_known v i)
found v i = learns-known v (with_known v i) i refl

pub stands : (v w : Knowledge) → ((x : ℕ) → In x v.known → In x w.known) → w.events ≡ v.events → w.kept ≡ v.kept → w.sightings ≡ v.sightings → w.sole ≡ v.sole → KeepsFronts v w → OnlyLearns v w
stands v w knows events kept sightings sole fronts = record { goes = nothing-more v w NoPlace events knows kept sole fronts; events = events; sightings = sightings }

pub again : (u v w : Knowledge) → OnlyLearns u v → OnlyLearns v w → OnlyLearns u w
again u v w a b = record { goes = goes-then NoPlace u v w a.goes b.goes; events = b.events ∙ a.events; sightings = b.sightings ∙ a.sightings }

pub holds : (v w : Knowledge) (i m : ℕ) (js : List ℕ) → OnlyLearns v w → Holds v i m js → Holds w i m js
holds v w i m js learns held = ap (track i None) learns.events ∙ held

pub none-later : (v w : Knowledge) → OnlyLearns v w → HoldsNone v → HoldsNone w
none-later v w learns none i m js held = none i m js (sym (ap (track i None) learns.events) ∙ held)

others : (v w : Knowledge) (i : ℕ) → OnlyLearns v w → HoldsOthers i v w
others v w i learns other m js differ =
    let is = ap (track other None) learns.events in
    ((λ held. is ∙ held), (λ held. sym is ∙ held))

pub finishes : (u v w : Knowledge) (i : ℕ) → OnlyLearns u v → Finishes i v w → Finishes i u w
finishes u v w i learns done = record {
  goes = goes-then NoPlace u v w learns.goes done.goes;
  finishes = done.finishes ∙ ap (λ (l : List Event). finished_places l ++ i ∷ []) learns.events;
  sightings = done.sightings ∙ learns.sightings;
  known = done.known;
  others = others-then i u v w (others u v i learns) done.others;
  free = done.free;
}
