-- What a pass knows of fronts over steps.
use Rattle.std.proofs.Common.{◌<◌, ◌≤◌, ℕ, [], ◌∷◌, refl, inl, inr, ⊎_elim, arith}
use Rattle.bohm_core_base.specs.Batch.{Batch}
use Rattle.words.specs.declared.knowledge.Knowledge.{Knowledge}
use Rattle.words.specs.Views.{In, KeepsFronts, KnowsFront, KnowsPast, joined, with_front}
use Rattle.words.proofs.Members.{in_back, in_front}
use Rattle.model_base.proofs.Replay.{by_cases}

-- who knows no fewer fronts knows the same
pub front-later : (v w : Knowledge) (p i : ℕ) → KeepsFronts v w → KnowsFront v p i → KnowsFront w p i
front-later v w p i keeps knows = ⊎_elim
    (λ all. inl (keeps.0 all))
    (λ (t : (count : ℕ) × In (p, count) v.fronts × (i < count)). inr (t.0, keeps.1 p t.0 t.1, t.2))
    knows

front-less : (v : Knowledge) (p i j : ℕ) → j ≤ i → KnowsFront v p i → KnowsFront v p j
front-less v p i j low knows = ⊎_elim
    (λ all. inl all)
    (λ (t : (count : ℕ) × In (p, count) v.fronts × (i < count)). inr (t.0, t.1, (let high = t.2 in omega arith)))
    knows

-- and each place that was known to be past, and each before it
pub past-later : (b : Batch) (v w : Knowledge) (i j : ℕ) → KeepsFronts v w → j ≤ i → KnowsPast b v i → KnowsPast b w j
past-later b v w i j keeps low knows p below = front-less w p i j low (front-later v w p i keeps (knows p below))

pub keeps-same : (v : Knowledge) → KeepsFronts v v
keeps-same v = ((λ all. all), (λ p count has. has))

pub keeps-then : (u v w : Knowledge) → KeepsFronts u v → KeepsFronts v w → KeepsFronts u w
keeps-then u v w a c = ((λ all. c.0 (a.0 all)), (λ p count has. c.1 p count (a.1 p count has)))

pub keeps-found : (v : Knowledge) (p found : ℕ) → KeepsFronts v (with_front v p found)
keeps-found v p found = ((λ all. all), (λ q count has. in_front (q, count) v.fronts ((p, found) ∷ []) has))

pub found-front : (v : Knowledge) (p found i : ℕ) → i < found → KnowsFront (with_front v p found) p i
found-front v p found i below = inr (found, in_back (p, found) v.fronts ((p, found) ∷ []) (inl refl), below)

pub keeps-first : (v w : Knowledge) (n : ℕ) → KeepsFronts v (joined v n w)
keeps-first v w n = ((λ all. rw all refl), (λ p count has. in_front (p, count) v.fronts w.fronts has))

pub keeps-second : (v w : Knowledge) (n : ℕ) → KeepsFronts w (joined v n w)
keeps-second v w n =
    ((λ all. by_cases v.placed (λ here. rw here refl) (λ not_here. rw (not_here, all) refl)), (λ p count has. in_back (p, count) v.fronts w.fronts has))
