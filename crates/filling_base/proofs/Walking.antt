-- A call from its claim to its answer.
use Rattle.std.proofs.Common.{◌≡◌, ℕ, true, false, true≢false, List, [], ◌∷◌, ◌++◌, length, refl, sym, ap, ◌∙◌, subst, inl, inr, ⊎_elim, arith}
use Rattle.std.specs.Prelude.{Result, Ok, Err, is_err}
use Rattle.bohm_core_base.specs.declared.event.Event.TheVariants.{Claim}
use Rattle.bohm_core_base.specs.Batch.{Batch}
use Rattle.words.specs.declared.knowledge.Knowledge.{Knowledge}
use Rattle.words.specs.Meanings.{FoundHeld}
use Rattle.words.specs.Views.{HoldsNone, In, KnowsPast, KnowsReferences, with_event, with_known}
use Rattle.filling_base.specs.declared.run.Tried.TheVariants.{Done, Busy, NotPlaced}
use Rattle.filling_base.specs.declared.walk.Frame.{Frame}
use Rattle.filling_base.specs.Counting.{FillCounts, counted_more}
use Rattle.filling_base.specs.Extending.{Extends, Finishes, HoldsJust, NoPlace, OnlyLearns}
use Rattle.filling_base.specs.References.{IsRevocation}
use Rattle.filling_base.specs.Tries.{FillMeans, HasToWait, IsKnownDone, LacksMemory, MayLackMemory, MeetsUnplaced, StopsWith, TakesPlaced, TriedMeans}
use Rattle.filling_base.specs.Walks.{IsWalk, LackedMemory, MetHeld, GoesFurther, Released, Spot, asked_place, bottom, held, waiting}
use Rattle.filling_base.proofs.Going.{goes-claim, goes-known, goes-longer, goes-none, goes-sighting, goes-then, goes-wider, now-known, refers-later, told-later, waited-before}
use Rattle.filling_base.proofs.Holding.{frees, holds-nothing, met, takes}
use Rattle.filling_base.proofs.Learning.{none-later}

-- the call began with what v knows, and is at s; each place that waits had to as it began
pub record Running (b : Batch) (index : ℕ) (v : Knowledge) (s : Spot) : Type 0 where
  pub walks : IsWalk b s
  pub for : asked_place s ≡ index
  pub goes : Extends NoPlace v s.view
  pub sightings : s.view.sightings ≡ v.sightings
  pub waits : (i : ℕ) → In i (waiting s.frames) → HasToWait b v i

module _ (b : Batch) (index : ℕ) where
  pub found-done : (v w u : Knowledge) → HoldsNone w → OnlyLearns v w → u ≡ with_known w index → StopsWith b index v Done u
  found-done v w u none learns is = record {
    tells = (goes-then NoPlace v w u learns.goes (goes-known NoPlace w u index is), ap (λ (x : Knowledge). x.sightings) is ∙ learns.sightings, now-known w u index is);
    idle = subst (λ (x : Knowledge). HoldsNone x) (sym is) none;
    told = λ _. refl;
  }

  pub found-held : (v w u : Knowledge) → HoldsNone w → OnlyLearns v w → ¬ (IsKnownDone b w index) → FoundHeld index w u → StopsWith b index v (Busy index) u
  found-held v w u none learns untold found =
      let m = met w u index [] (holds-nothing w none) (λ nowhere. nowhere) found in
      let before = goes-longer NoPlace v w learns.goes in
      let g = goes-then NoPlace v w u learns.goes (goes-sighting NoPlace w u index m.0) in
      let longer = goes-longer NoPlace w u (goes-sighting NoPlace w u index m.0) in
      let mine : ¬ (IsKnownDone b v index) = λ told. untold (told-later b v w index learns.goes.knows told) in record {
        tells = (
          goes-none (HasToWait b v) v u g,
          record {
            most = omega arith;
            shared = sym learns.goes.sole ∙ m.1;
            untold = mine;
            count = length w.events;
            began = before;
            ended = longer;
            sighting = ap (λ (x : Knowledge). x.sightings) m.0 ∙ ap (λ (l : List (ℕ × ℕ)). l ++ (index, length w.events) ∷ []) learns.sightings;
          },
        );
        idle = subst (λ (x : Knowledge). HoldsNone x) (sym m.0) none;
        told = λ told. absurd (mine told);
      }

  pub found-unplaced : (partition : ℕ) (v w : Knowledge) → HoldsNone v → MeetsUnplaced b index partition v w → ¬ (IsKnownDone b v index) → StopsWith b index v (NotPlaced partition) w
  found-unplaced partition v w none meets untold = record {
    tells = meets;
    idle = none-later v w meets.learns none;
    told = λ told. absurd (untold told);
  }

  -- placed by all, so it was claimed
  pub claimed : (v w u : Knowledge) (a : ℕ) → HoldsNone w → OnlyLearns v w → ¬ (IsKnownDone b v index) → KnowsPast b w index → u ≡ with_event w (Claim a index) → TakesPlaced b index v u
  claimed v w u a none learns untold past is = record {
    goes = goes-then NoPlace v w u learns.goes (goes-claim w u a index is);
    sightings = ap (λ (x : Knowledge). x.sightings) is ∙ learns.sightings;
    holds = takes w u a index [] (holds-nothing w none) (λ i has. absurd has) is;
    past = subst (λ (x : Knowledge). KnowsPast b x index) (sym is) past;
    untold = untold;
  }

  begun-at : (v w : Knowledge) → TakesPlaced b index v w → Running b index v (record { view = w; at = index; next = 0; frames = [] })
  begun-at v w took = record {
    walks = record { path = tt; ready = λ m other below _. absurd (omega arith); short = omega arith; holds = took.holds; past = took.past };
    for = refl;
    goes = took.goes;
    sightings = took.sightings;
    waits = λ i has. absurd has;
  }

  pub begun : (v w : Knowledge) (fs : List Frame) → TakesPlaced b index v w → fs ≡ [] → Running b index v (record { view = w; at = index; next = 0; frames = fs })
  begun v w fs took is = subst (λ (gs : List Frame). Running b index v (record { view = w; at = index; next = 0; frames = gs })) (sym is) (begun-at v w took)

  pub round : (v : Knowledge) (s t : Spot) → Running b index v s → GoesFurther b s t → Running b index v t
  round v s t r o = record {
    walks = o.walks;
    for = o.for ∙ r.for;
    goes = goes-then NoPlace v s.view t.view r.goes o.goes;
    sightings = o.sightings ∙ r.sightings;
    waits = λ i has. ⊎_elim (λ old. r.waits i old) (λ new. waited-before b v s.view i r.goes.knows new) (o.waits i has);
  }

  -- the place at hand is done, and none waits for it
  pub over : (v w : Knowledge) (s : Spot) → Running b index v s → Finishes s.at s.view w → s.frames ≡ [] → TriedMeans b index v (Ok Done) w
  over v w s r f none =
      let here : s.at ≡ index = sym (ap (λ (fs : List Frame). bottom fs s.at) none) ∙ r.for in
      (goes-then NoPlace v s.view w r.goes f.goes, f.sightings ∙ r.sightings, subst (λ (i : ℕ). In i w.known) here f.known)

  pub over-idle : (v w : Knowledge) (s : Spot) → Running b index v s → Finishes s.at s.view w → s.frames ≡ [] → HoldsNone w
  over-idle v w s r f none i m js holds =
      let free = frees s.view w s.at [] (subst (λ (fs : List Frame). HoldsJust s.view (s.at ∷ waiting fs)) none r.walks.holds) (λ i has. absurd has) f.others f.free in
      free.only i m js holds

  -- what is given back is the place at hand, and those that wait
  given : (v : Knowledge) (s t : Spot) (P : ℕ → Type 0) → Running b index v s → t.at ≡ s.at → t.frames ≡ s.frames → ((i : ℕ) → HasToWait b v i → P i) → P s.at
      → (i : ℕ) → In i (held t) → P i
  given v s t P r at frames waits here i has =
      ⊎_elim (λ is. subst P (sym (is ∙ at)) here)
      (λ old. waits i (r.waits i (subst (λ (fs : List Frame). In i (waiting fs)) frames old))) has

  pub busy : (other : ℕ) (v w : Knowledge) (s t : Spot) → Running b index v s → MetHeld other b s t → Released (held t) t.view w → TriedMeans b index v (Ok (Busy other)) w
  busy other v w s t r m l =
      let P = HasToWait b v in
      let to-t = goes-then NoPlace v s.view t.view r.goes m.stays.goes in
      let after = goes-wider (λ i. In i (held t)) P t.view w
      (given v s t P r m.stays.at m.stays.frames (λ i waits. waits) (waited-before b v s.view s.at r.goes.knows m.waits)) l.goes in
      let most = m.most in
      let for = r.for in
      let before = goes-longer NoPlace v s.view r.goes in
      let between = goes-longer NoPlace s.view t.view m.stays.goes in
      let behind = goes-longer P t.view w after in (
        goes-then P v t.view w (goes-none P v t.view to-t) after,
        record {
          most = omega arith;
          shared = sym r.goes.sole ∙ m.shared;
          untold = λ told. m.untold (told-later b v s.view other r.goes.knows told);
          count = length s.view.events;
          began = before;
          ended = omega arith;
          sighting = l.sightings ∙ m.sightings ∙ ap (λ (k : List (ℕ × ℕ)). k ++ (other, length s.view.events) ∷ []) r.sightings;
        },
      )

  -- where the references of the place asked for were known done, no place waits
  alone : (v : Knowledge) (fs : List Frame) (at : ℕ) → ((i : ℕ) → In i (waiting fs) → HasToWait b v i) → KnowsReferences b v (bottom fs at) → bottom fs at ≡ at
  alone v [] at waits knows = refl
  alone v (f ∷ fs) at waits knows = absurd (waits f.index (inl refl) knows)

  revoking : (v : Knowledge) (s : Spot) → Running b index v s → MayLackMemory b s.view s.at → KnowsReferences b v index → IsRevocation b index
  revoking v s r lacks knows =
      let there : KnowsReferences b v (asked_place s) = subst (λ (i : ℕ). KnowsReferences b v i) (sym r.for) knows in
      let is : asked_place s ≡ s.at = alone v s.frames s.at r.waits there in
      let here : index ≡ s.at = sym r.for ∙ is in
      ⊎_elim
      (λ waits. absurd (waits (refers-later b v s.view s.at r.goes.knows (subst (λ (i : ℕ). KnowsReferences b v i) here knows))))
      (λ revokes. subst (λ (i : ℕ). IsRevocation b i) (sym here) revokes) lacks

  pub out-of-memory : (v w : Knowledge) (s t : Spot) → Running b index v s → LackedMemory b s t → Released (held t) t.view w → LacksMemory b index v w
  out-of-memory v w s t r m l =
      let P = MayLackMemory b v in
      let to-t = goes-then NoPlace v s.view t.view r.goes m.stays.goes in
      let here : P s.at = ⊎_elim (λ waits. inl (waited-before b v s.view s.at r.goes.knows waits)) (λ revokes. inr revokes) m.lacks in
      let after = goes-wider (λ i. In i (held t)) P t.view w (given v s t P r m.stays.at m.stays.frames (λ i waits. inl waits) here) l.goes in (
        goes-then P v t.view w (goes-none P v t.view to-t) after,
        l.sightings ∙ m.sightings ∙ r.sightings,
        λ knows. revoking v s r m.lacks knows,
      )

-- what a fill did, by whether memory ran out
pub filled-all : {A E : Type 0} (b : Batch) (i n m k : ℕ) (v w : Knowledge) (r : Result A E) → is_err r ≡ false → FillMeans b i v r w → FillCounts n m r k → Finishes i v w × (k ≡ counted_more m n)
filled-all b i n m k v w (Ok x) is tells counts = (tells, counts)
filled-all b i n m k v w (Err e) is tells counts = absurd (true≢false is)

pub filled-none : {A E : Type 0} (b : Batch) (i n m k : ℕ) (v w : Knowledge) (r : Result A E) → is_err r ≡ true → FillMeans b i v r w → FillCounts n m r k → OnlyLearns v w × IsRevocation b i × (k ≡ m)
filled-none b i n m k v w (Ok x) is tells counts = absurd (true≢false (sym is))
filled-none b i n m k v w (Err e) is tells counts = (tells.0, tells.1, counts)
