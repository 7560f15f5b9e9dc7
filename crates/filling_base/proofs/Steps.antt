-- What each step of a walk does.
use Rattle.std.proofs.Common.{◌≡◌, ◌≢◌, ℕ, suc, ◌<◌, List, [], ◌∷◌, ◌++◌, length, refl, sym, ap, ◌∙◌, subst, inl, inr, ⊎_elim, arith}
use Rattle.bohm_core_base.specs.Batch.{Batch, reference_words}
use Rattle.bohm_core_base.specs.declared.event.Event.TheVariants.{Claim}
use Rattle.words.specs.declared.knowledge.Knowledge.{Knowledge}
use Rattle.words.specs.Meanings.{FoundHeld}
use Rattle.words.specs.Views.{In, KeepsFronts, with_event, with_known}
use Rattle.filling_base.specs.declared.walk.Frame.{Frame}
use Rattle.filling_base.specs.Extending.{Finishes, NoPlace, OnlyLearns}
use Rattle.filling_base.specs.References.{IsRevocation, reference}
use Rattle.filling_base.specs.Tries.{HasToWait, IsKnownDone}
use Rattle.filling_base.specs.Walks.{IsWalk, KnownTo, LackedMemory, MetHeld, GoesFurther, Spot, Stays, bottom, cost, waiting}
use Rattle.words.proofs.Known.{keeps-same, past-later}
use Rattle.filling_base.proofs.Costs.{costs-snoc, less-enter, less-leave, less-next}
use Rattle.filling_base.proofs.Falling.{falls-at, named}
use Rattle.filling_base.proofs.Going.{goes-claim, goes-sighting, learns-known, learns-nothing, nothing-more, now-known}
use Rattle.filling_base.proofs.Holding.{frees, met, reorder, same-events, takes}
use Rattle.filling_base.proofs.Paths.{bottom-snoc, known-more, one-more, path-more, path-over, path-pop, path-push, path-top, to-back, to-front, under}

abbrev pub at-spot : Knowledge → ℕ → ℕ → List Frame → Spot
at-spot v at n fs = record { view = v; at = at; next = n; frames = fs }

module _ (b : Batch) where
  -- one more reference is known to need nothing
  pub went-on : (v w : Knowledge) (at n m : ℕ) (fs : List Frame) → IsWalk b (at-spot v at n fs) → n < length (reference_words b at) → OnlyLearns v w
      → ((other : ℕ) → reference b at n ≡ suc other → In other w.known) → m ≡ suc n → GoesFurther b (at-spot v at n fs) (at-spot w at m fs)
  went-on v w at n m fs h short learns here is =
      let g = learns.goes in
      let less = less-next b at n short in
      let same : cost b at m ≡ cost b at (suc n) = ap (cost b at) is in record {
        walks = record {
          path = path-more b v.known w.known g.knows fs at h.path;
          ready = subst (λ (k : ℕ). KnownTo b w.known at k) (sym is) (one-more b w.known at n (known-more b v.known w.known at n g.knows h.ready) here);
          short = omega arith;
          holds = same-events v w (at ∷ waiting fs) learns.events h.holds;
          past = past-later b v w (bottom fs at) (bottom fs at) g.fronts (omega arith) h.past;
        };
        goes = g;
        sightings = learns.sightings;
        for = refl;
        less = omega arith;
        waits = λ i has. inl has;
      }

  -- the reference names what stood before the batch
  pub went-base : (v : Knowledge) (at n m : ℕ) (fs : List Frame) → IsWalk b (at-spot v at n fs) → n < length (reference_words b at) → reference b at n ≡ 0
      → m ≡ suc n → GoesFurther b (at-spot v at n fs) (at-spot v at m fs)
  went-base v at n m fs h short base is =
      went-on v v at n m fs h short (learns-nothing v) (λ other names. absurd (let both : 0 ≡ suc other = sym base ∙ names in omega arith)) is

  -- the place that it names is done
  pub went-next : (v w : Knowledge) (at n m r : ℕ) (fs : List Frame) → IsWalk b (at-spot v at n fs) → n < length (reference_words b at) → reference b at n ≡ suc r
      → w ≡ with_known v r → m ≡ suc n → GoesFurther b (at-spot v at n fs) (at-spot w at m fs)
  went-next v w at n m r fs h short names is next =
      went-on v w at n m fs h short (learns-known v w r is)
      (λ other other-names. (let both : suc r ≡ suc other = sym names ∙ other-names in let same : r ≡ other = omega arith in
      subst (λ (x : ℕ). In x w.known) same (now-known v w r is))) next

  -- a place one of whose references isn't known done has to wait
  has-to-wait : (v : Knowledge) (at n r : ℕ) → n < length (reference_words b at) → reference b at n ≡ suc r → ¬ (IsKnownDone b v r) → HasToWait b v at
  has-to-wait v at n r short names untold = λ knows. untold (inl (knows r (named b at n r short names)))

  in-at : (v w : Knowledge) (a r n : ℕ) (fs : List Frame) (f : Frame) → bottom fs f.index < b.size → IsWalk b (at-spot v f.index n fs) → n < length (reference_words b f.index)
      → reference b f.index n ≡ suc r → f.next ≡ suc n → ¬ (IsKnownDone b v r) → w ≡ with_event v (Claim a r)
      → GoesFurther b (at-spot v f.index n fs) (at-spot w r 0 (fs ++ f ∷ []))
  in-at v w a r n fs f within h short names next untold is =
      let g = goes-claim v w a r is in
      let below = falls-at b f.index n r short names in
      let top = path-top b v.known fs f.index h.path in
      let less = less-enter b f.index r n (omega arith) short below in
      let sums = costs-snoc b fs f in
      let same : cost b f.index f.next ≡ cost b f.index (suc n) = ap (cost b f.index) next in
      let apart : (i : ℕ) → In i (f.index ∷ waiting fs) → r ≢ i = λ i has e. (let low = under b v.known fs f.index n r h.path short names i has in absurd (omega arith)) in record {
        walks = record {
          path = path-push b w.known fs f r (path-more b v.known w.known g.knows fs f.index h.path)
              (record { number = n; next = next; short = short; ready = known-more b v.known w.known f.index n g.knows h.ready; names = names });
          ready = λ m other less-zero _. absurd (omega arith);
          short = omega arith;
          holds = reorder w (r ∷ (f.index ∷ waiting fs)) (r ∷ waiting (fs ++ f ∷ []))
              (λ i has. ⊎_elim (λ e. inl e) (λ more. inr (to-back fs f i more)) has)
              (λ i has. ⊎_elim (λ e. inl e) (λ more. inr (to-front fs f i more)) has)
              (takes v w a r (f.index ∷ waiting fs) h.holds apart is);
          past = past-later b v w (bottom fs f.index) (bottom (fs ++ f ∷ []) r) g.fronts (let same = bottom-snoc fs f r in omega arith) h.past;
        };
        goes = g;
        sightings = ap (λ (u : Knowledge). u.sightings) is;
        for = bottom-snoc fs f r;
        less = omega arith;
        waits = λ i has. ⊎_elim
            (λ e. inr (subst (λ (x : ℕ). HasToWait b v x) (sym e) (has-to-wait v f.index n r short names untold)))
            (λ old. inl old) (to-front fs f i has);
      }

  -- it was claimed
  pub went-in : (v w : Knowledge) (a at r n m : ℕ) (fs gs : List Frame) → bottom fs at < b.size → IsWalk b (at-spot v at n fs) → n < length (reference_words b at)
      → reference b at n ≡ suc r → m ≡ suc n → ¬ (IsKnownDone b v r) → w ≡ with_event v (Claim a r) → gs ≡ fs ++ record { index = at; next = m } ∷ []
      → GoesFurther b (at-spot v at n fs) (at-spot w r 0 gs)
  went-in v w a at r n m fs gs within h short names next untold is more =
      subst (λ (ks : List Frame). GoesFurther b (at-spot v at n fs) (at-spot w r 0 ks)) (sym more)
      (in-at v w a r n fs (record { index = at; next = m }) within h short names next untold is)

  -- nothing was claimed, given back or stored
  stays : (v w : Knowledge) (at n : ℕ) (fs gs : List Frame) → IsWalk b (at-spot v at n fs) → ((x : ℕ) → In x v.known → In x w.known) → w.events ≡ v.events
      → w.kept ≡ v.kept → w.sole ≡ v.sole → KeepsFronts v w → gs ≡ fs → Stays b (at-spot v at n fs) (at-spot w at n gs)
  stays v w at n fs gs h knows events kept sole fronts back =
      subst (λ (ks : List Frame). Stays b (at-spot v at n fs) (at-spot w at n ks)) (sym back) (record {
        walks = record {
          path = path-more b v.known w.known knows fs at h.path;
          ready = known-more b v.known w.known at n knows h.ready;
          short = h.short;
          holds = same-events v w (at ∷ waiting fs) events h.holds;
          past = past-later b v w (bottom fs at) (bottom fs at) fronts (omega arith) h.past;
        };
        goes = nothing-more v w NoPlace events knows kept sole fronts;
        events = events;
        at = refl;
        frames = refl;
      })

  pub met-other : (v w : Knowledge) (at n r : ℕ) (fs gs : List Frame) → IsWalk b (at-spot v at n fs) → n < length (reference_words b at) → reference b at n ≡ suc r
      → ¬ (IsKnownDone b v r) → FoundHeld r v w → gs ≡ fs → MetHeld r b (at-spot v at n fs) (at-spot w at n gs)
  met-other v w at n r fs gs h short names untold found back =
      let out : ¬ (In r (at ∷ waiting fs)) = λ has. (let low = under b v.known fs at n r h.path short names r has in absurd (omega arith)) in
      let m = met v w r (at ∷ waiting fs) h.holds out found in
      let g = goes-sighting NoPlace v w r m.0 in
      let low = falls-at b at n r short names in
      let top = path-top b v.known fs at h.path in record {
        stays = stays v w at n fs gs h g.knows (ap (λ (u : Knowledge). u.events) m.0) g.kept g.sole g.fronts back;
        sightings = ap (λ (u : Knowledge). u.sightings) m.0;
        most = omega arith;
        shared = m.1;
        untold = untold;
        waits = has-to-wait v at n r short names untold;
      }

  -- there was no memory to wait in
  pub no-room : (v : Knowledge) (at n r : ℕ) (fs gs : List Frame) → IsWalk b (at-spot v at n fs) → n < length (reference_words b at) → reference b at n ≡ suc r
      → ¬ (IsKnownDone b v r) → gs ≡ fs → LackedMemory b (at-spot v at n fs) (at-spot v at n gs)
  no-room v at n r fs gs h short names untold back = record {
    stays = stays v v at n fs gs h (λ x has. has) refl refl refl (keeps-same v) back;
    sightings = refl;
    lacks = inl (has-to-wait v at n r short names untold);
  }

  -- there was none to revoke
  pub starved : (v w : Knowledge) (at n : ℕ) (fs : List Frame) → IsWalk b (at-spot v at n fs) → OnlyLearns v w → IsRevocation b at → LackedMemory b (at-spot v at n fs) (at-spot w at n fs)
  starved v w at n fs h learns revokes =
      let g = learns.goes in record {
        stays = stays v w at n fs fs h g.knows learns.events g.kept g.sole g.fronts refl;
        sightings = learns.sightings;
        lacks = inr revokes;
      }

  out-at : (v w : Knowledge) (at n : ℕ) (gs : List Frame) (f : Frame) → IsWalk b (at-spot v at n (gs ++ f ∷ [])) → Finishes at v w
      → GoesFurther b (at-spot v at n (gs ++ f ∷ [])) (at-spot w f.index f.next gs)
  out-at v w at n gs f h finishes =
      let g = finishes.goes in
      let popped = path-pop b v.known gs f at h.path in
      let waits = popped.1 in
      let less = less-leave b at n h.short in
      let sums = costs-snoc b gs f in
      let short = waits.short in
      let next = waits.next in record {
        walks = record {
          path = path-more b v.known w.known g.knows gs f.index popped.0;
          ready = subst (λ (k : ℕ). KnownTo b w.known f.index k) (sym next)
              (one-more b w.known f.index waits.number (known-more b v.known w.known f.index waits.number g.knows waits.ready)
              (λ other names. (let both : suc at ≡ suc other = sym waits.names ∙ names in let same : at ≡ other = omega arith in subst (λ (x : ℕ). In x w.known) same finishes.known)));
          short = omega arith;
          holds = frees v w at (f.index ∷ waiting gs)
              (reorder v (at ∷ waiting (gs ++ f ∷ [])) (at ∷ (f.index ∷ waiting gs))
              (λ i has. ⊎_elim (λ e. inl e) (λ more. inr (to-front gs f i more)) has)
              (λ i has. ⊎_elim (λ e. inl e) (λ more. inr (to-back gs f i more)) has) h.holds)
              (λ i has e. (let over = path-over b v.known (gs ++ f ∷ []) at h.path i (to-back gs f i has) in absurd (omega arith)))
              finishes.others finishes.free;
          past = past-later b v w (bottom (gs ++ f ∷ []) at) (bottom gs f.index) g.fronts (let same = bottom-snoc gs f at in omega arith) h.past;
        };
        goes = g;
        sightings = finishes.sightings;
        for = sym (bottom-snoc gs f at);
        less = omega arith;
        waits = λ i has. inl (to-back gs f i (inr has));
      }

  -- the place at hand is done, and the one that waits for it goes on
  pub went-out : (v w : Knowledge) (at n : ℕ) (fs gs : List Frame) (f : Frame) → IsWalk b (at-spot v at n fs) → Finishes at v w → fs ≡ gs ++ f ∷ []
      → GoesFurther b (at-spot v at n fs) (at-spot w f.index f.next gs)
  went-out v w at n fs gs f h finishes is =
      (subst (λ (ks : List Frame). IsWalk b (at-spot v at n ks) → GoesFurther b (at-spot v at n ks) (at-spot w f.index f.next gs)) (sym is) (λ k. out-at v w at n gs f k finishes)) h
