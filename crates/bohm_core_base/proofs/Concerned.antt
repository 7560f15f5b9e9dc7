-- A revocation by which a record ends is of the kind and on the table of the record's grant.
use Rattle.std.proofs.Common.{◌≡◌, ◌<◌, ◌≤◌, ℕ, Bool, true, false, Some, List, [], ◌∷◌, ◌++◌, length, get_or, refl, sym, ◌∙◌, ap, arith}
use Rattle.std.specs.Prelude.{All, slice_get}
use Rattle.std.proofs.lemmas.Bool.{and_parts, not-true}
use Rattle.std.proofs.lemmas.List.{get_or-map}
use Rattle.std.proofs.lemmas.List.Elements.{All-get_or, All-weaker}
use Rattle.std.proofs.lemmas.Option.{get_or_from_slice_get}
use Rattle.model_base.specs.declared.deed.Deed.{Deed}
use Rattle.model_base.specs.declared.deed.Deed.TheVariants.{Revoking}
use Rattle.model_base.specs.declared.deed.Grant.{Grant}
use Rattle.model_base.specs.declared.deed.Revocation.{Revocation}
use Rattle.model_base.specs.Ranks.{rank}
use Rattle.model_base.specs.Privileges.{concerns, is_among, kept, place_of}
use Rattle.model_base.specs.Laws.{IsRising}
use Rattle.model_base.specs.Records.{grants_of}
use Rattle.model_base.proofs.Replay.{by_cases}
use Rattle.model_base.proofs.Parts.{part-all, part-beginning}
use Rattle.model_base.proofs.Places.{among_all}
use Rattle.model_base.proofs.Records.{grants-append}
use Rattle.model_base.proofs.Recorded.{All-both, part-kept_grants, rising-grants, rising-unique}
use Rattle.model_base.proofs.Covered.{contrary}
use Rattle.model_base.proofs.Ended.{kept-stays_other}
use Rattle.model_base.proofs.Ends.{is_ended}
use Rattle.bohm_core_base.specs.Deeds.{is_made, made_before, named_before}
use Rattle.bohm_core_base.specs.Batch.{Batch, IsSoundBatch, batch_deeds, rank_at, batch_slots}
use Rattle.bohm_core_base.specs.Laws.{EndsByRevocation}
use Rattle.bohm_core_base.specs.Serial.{serial_ends, batch_world_before}
use Rattle.bohm_core_base.proofs.Slots.{made-named, made-split, slots-rise}
use Rattle.bohm_core_base.proofs.Whole.{deeds-made, no_grant, part-grants_filter, serial-only, serial-placed, serial_deeds}

-- a revocation that takes the one grant of a rank out of force concerns it
ends-concerned : (owners : List ℕ) (past : List Deed) (revocation : Revocation) (ranked : ℕ) (grant : Grant)
    → All (λ g. rank g ≡ ranked → g ≡ grant) (kept owners past) → is_ended owners past (Revoking revocation) ranked ≡ true
    → concerns revocation grant ≡ true
ends-concerned owners past revocation ranked grant same ends =
    by_cases (concerns revocation grant) (λ yes. yes)
    (λ fails.
    let parts = and_parts (is_among ranked (kept owners past)) _ ends in
    let after = is_among ranked (kept owners (past ++ Revoking revocation ∷ [])) in
    contrary after (left fails parts.0) (not-true after parts.1))
  where
    left : concerns revocation grant ≡ false → is_among ranked (kept owners past) ≡ true
        → is_among ranked (kept owners (past ++ Revoking revocation ∷ [])) ≡ true
    left fails found =
        let Same : Grant → Type 0 = λ g. rank g ≡ ranked → g ≡ grant in
        let Stays : Grant → Type 0
        = λ g. concerns revocation g ≡ false → is_among (rank g) (kept owners (past ++ Revoking revocation ∷ [])) ≡ true in
        let Found : ℕ → Type 0 = λ p. p ≡ ranked → is_among ranked (kept owners (past ++ Revoking revocation ∷ [])) ≡ true in
        among_all Found (kept owners past) ranked
        (All-weaker (λ g. Same g × Stays g) (λ g. Found (rank g))
        (λ g both at.
        let unconcerned : concerns revocation g ≡ false = ap (concerns revocation) (both.0 at) ∙ fails in
        rw at at (both.1 unconcerned))
        (kept owners past) (All-both Same Stays (kept owners past) same (kept-stays_other owners revocation past))) found refl

module _ (b : Batch) (sound : IsSoundBatch b) (k : ℕ) (slot : k < length (batch_slots b)) where
  abbrev pub grant_here : Grant
  grant_here = get_or (batch_slots b) k no_grant

  -- of a slot's rank there is no other grant
  abbrev pub Same : Grant → Type 0
  Same g = rank g ≡ rank_at b k → g ≡ grant_here

  slots-same : All Same (batch_slots b)
  unfolding batch_slots
  slots-same =
      let grants = batch_slots b in
      let Alone : Grant → Grant → Type 0 = λ grant g. rank g ≡ rank grant → g ≡ grant in
      let rise : IsRising grants
      = slots-rise (batch_deeds b (λ _. false)) sound.placed (rising-grants b.owners b.before sound.proper) b.size in
      let here : rank_at b k ≡ rank grant_here = get_or-map rank grants k no_grant 0 slot in
      All-weaker (Alone grant_here) Same (λ g alone at. alone (at ∙ here)) grants
      (All-get_or (λ grant. All (Alone grant) grants) grants k no_grant slot (rising-unique grants rise))

  -- so it is among those in force
  pub kept-same : (n : ℕ) → n ≤ b.size → All Same (kept b.owners (batch_world_before b n).deeds)
  unfolding batch_slots
  kept-same n within =
      let d = serial_deeds b in
      let placed = serial-placed b sound in
      let split = made-split d placed b.size n within in
      let test : Deed → Bool = λ deed. is_made d (place_of deed) in
      let all : All Same (grants_of (made_before d b.size))
      = rw (made-named d placed b.size) (part-all Same (part-grants_filter test (named_before d b.size)) slots-same) in
      let both : All Same (grants_of (made_before d n) ++ grants_of split.0) = rw (← grants-append (made_before d n) split.0) (rw split.1 at all) in
      let here : All Same (grants_of (batch_world_before b n).deeds)
      = rw (deeds-made b sound n) (part-all Same (part-beginning (grants_of (made_before d n)) (grants_of split.0)) both) in
      part-all Same (part-kept_grants b.owners (batch_world_before b n).deeds) here

  pub ends-by-revocation : (n : ℕ) → serial_ends b n k ≡ true → EndsByRevocation b n k
  ends-by-revocation n ends =
      let only = serial-only b sound n k slot ends in
      let concerned = ends-concerned b.owners (batch_world_before b n).deeds only.revocation (rank_at b k) grant_here
      (kept-same n (let less = only.within in omega arith)) only.ended in
      record {
        within = only.within;
        revocation = only.revocation;
        deed = only.deed;
        concerned = λ grant at. ap (concerns only.revocation) (sym-get grant at) ∙ concerned;
      }
    where
      sym-get : (grant : Grant) → slice_get (batch_slots b) k ≡ Some grant → grant ≡ grant_here
      sym-get grant at = sym (get_or_from_slice_get (batch_slots b) k grant no_grant at)
