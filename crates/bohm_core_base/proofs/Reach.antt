-- What holds in every reached state.
use Rattle.std.proofs.Common.{◌≡◌, ◌≢◌, ◌<◌, ◌≤◌, ◌+◌, ℕ, suc, zero, Bool, true, false, Option, Some, None, is_none, List, [], ◌∷◌, ◌++◌, length, get_or, set, drop, map, refl, sym, ◌∙◌, ap, arith, inl, inr, append_assoc, ◌-◌, subst}
use Rattle.std.specs.Prelude.{nat_lt, All}
use Rattle.std.proofs.lemmas.Bool.{eqb-true, and_parts, ltb-true, lt-ltb, le-ltb, cases_lt}
use Rattle.std.proofs.lemmas.List.{length-replicate, append-nil, length_push, get_or_push, get_or_append_left, get_or_past, get_or-set_other, length-map, get_or-map, take-append-drop}
use Rattle.std.specs.Option.{option_or}
use Rattle.model_base.specs.declared.deed.Deed.{Deed}
use Rattle.model_base.specs.declared.deed.Grant.{Grant}
use Rattle.model_base.specs.declared.row.Key.{Key}
use Rattle.model_base.specs.Ranks.{rank}
use Rattle.model_base.specs.Records.{end_below, end_after}
use Rattle.model_base.specs.Privileges.{place_of}
use Rattle.model_base.proofs.Records.{end-append}
use Rattle.model_base.proofs.Ends.{end-within}
use Rattle.model_base.proofs.Replay.{by_cases}
use Rattle.model_base.proofs.Covered.{contrary}
use Rattle.bohm_core_base.specs.declared.event.Event.{Event}
use Rattle.bohm_core_base.specs.declared.event.Event.TheVariants.{Place, Claim, Fill, End, Finish, GiveBack}
use Rattle.bohm_core_base.specs.declared.hold.Hold.TheVariants.{Free, Held, Done}
use Rattle.bohm_core_base.specs.declared.hold.Hold.{Hold}
use Rattle.bohm_core_base.specs.Deeds.{made_before}
use Rattle.bohm_core_base.specs.Batch.{Batch, place_has_deed_on, is_listed, table_at, changes_key, reference_words, writer_reference, was_done, batch_slots, rank_at, batch_deeds, IsSoundBatch}
use Rattle.bohm_core_base.specs.Serial.{serial_words, serial_ends, whole_end}
use Rattle.bohm_core_base.specs.Machine.{State, front_of, stored_references_of, placed_references, hold_of, own_of, end_of, is_free, is_held_by, is_done, is_ready, all_ready, words_seen, must_end, all_filled, all_past, guard, with_hold, change, effect, run_from, empty_references, start, reach}
use Rattle.bohm_core_base.specs.Laws.{HasSizes, actor_of, HasReferences, IsSerialPlace, IsWholeBelow, ShowsSerial, KeepsStored, SameTask, NoneBy}
use Rattle.bohm_core_base.proofs.Slots.{made-split}
use Rattle.bohm_core_base.proofs.Whole.{no_grant, deeds-made, serial-placed, serial-ends-from, serial-only}
use Rattle.bohm_core_base.proofs.Lists.{replicate-same, set-cases, list_all-weaker, list_all-set, list_all-get, chosen-none}
use Rattle.bohm_core_base.proofs.Kept.{IsKept, rests}
use Rattle.bohm_core_base.proofs.Rows.{row-right}
use Rattle.bohm_core_base.proofs.View.{outcome-right, filled-words, table-ready, rests-tables, deeds-done, end-seen, words-right, records-right, rows-right, row-seen, must-right, done-words}
use Rattle.bohm_core_base.proofs.Steps.{busy-not_free, done-is, placed-all, stands, claim-keeps, finish-keeps, give_back-keeps, fill-keeps, end-keeps, place-keeps, held-not_free, held-not_done, free-not_done}

module _ (b : Batch) (sound : IsSoundBatch b) where
  -- each event that may happen keeps what is kept
  change-keeps : (s : State) (e : Event) → IsKept b s → guard b s e ≡ true → IsKept b (change b s e)
  change-keeps s (Place p) kept holds = place-keeps b sound s kept p holds
  change-keeps s (Claim actor n) kept holds = claim-keeps b sound s kept actor n holds
  change-keeps s (Fill actor n) kept holds = fill-keeps b sound s kept actor n holds
  change-keeps s (End actor n j) kept holds = end-keeps b sound s kept actor n j holds
  change-keeps s (Finish actor n) kept holds = finish-keeps b sound s kept actor n holds
  change-keeps s (GiveBack actor n) kept holds = give_back-keeps b sound s kept actor n holds

  -- so each event does
  pub effect-keeps : (s : State) (e : Event) → IsKept b s → IsKept b (effect b s e)
  effect-keeps s e kept =
      by_cases (guard b s e)
      (λ holds. rw holds (change-keeps s e kept holds))
      (λ fails. rw fails kept)

  -- and each list of events
  pub run-keeps : (s : State) (es : List Event) → IsKept b s → IsKept b (run_from b s es)
  run-keeps s [] kept = kept
  run-keeps s (e ∷ es) kept = run-keeps (effect b s e) es (effect-keeps s e kept)

  -- there are references of each place at first
  empty-length : (n : ℕ) → length (empty_references b n) ≡ n
  empty-length zero = refl
  empty-length (suc n) = length_push (empty_references b n) (map (λ _. 0) (reference_words b n)) ∙ (let len = empty-length n in omega arith)

  -- all of them 0
  empty-at : (size n : ℕ) → n < size → get_or (empty_references b size) n [] ≡ map (λ _. 0) (reference_words b n)
  empty-at zero n below = absurd (omega arith)
  empty-at (suc size) n below =
      let len = empty-length size in
      elim (cases_lt n size) [
        | inl less ↦
            get_or_append_left (empty_references b size) (map (λ _. 0) (reference_words b size) ∷ []) [] n (omega arith) ∙ empty-at size n less
        | inr more ↦
            let same : n ≡ size = omega arith in
            rw same (get_or_push (empty_references b size) (map (λ _. 0) (reference_words b size)) [] size len)
      ]

  -- the end of a slot's record at first is that by the deeds before the batch
  start-end : (k : ℕ) → k < length (batch_slots b) → end_of (start b) k ≡ end_after b.owners [] b.before (rank_at b k)
  start-end k slot =
      get_or-map (λ (g : Grant). end_after b.owners [] b.before (rank g)) (batch_slots b) k no_grant None slot
      ∙ ap (λ p. end_after b.owners [] b.before p) (sym (get_or-map rank (batch_slots b) k no_grant 0 slot))

  -- past the slots there is no end
  start-past : (k : ℕ) → length (batch_slots b) ≤ k → end_of (start b) k ≡ None
  start-past k past =
      let end : Grant → Option ℕ = λ g. end_after b.owners [] b.before (rank g) in
      get_or_past (map end (batch_slots b)) k None (let len = length-map (batch_slots b) end in omega arith)

  -- the end by the whole batch is that by the deeds before it, or else one from its first place on
  whole-start : (k : ℕ)
      → (later : List Deed)
      × (whole_end b k ≡ option_or (end_after b.owners [] b.before (rank_at b k)) (end_after b.owners b.before later (rank_at b k)))
      × All (λ deed. b.first + 0 ≤ place_of deed) later
  unfolding whole_end
  whole-start k =
      let d = batch_deeds b (λ i. was_done (serial_words b i)) in
      let split = made-split d (serial-placed b sound) b.size 0 (omega arith) in
      (split.0, rw (deeds-made b sound b.size, split.1) (end-append b.owners [] b.before split.0 (rank_at b k)), split.2)

  -- an end at first is that by the deeds before the batch, and by the whole batch
  start-ended : (k q : ℕ) → end_of (start b) k ≡ Some q
      → (end_after b.owners [] b.before (rank_at b k) ≡ Some q) × (whole_end b k ≡ Some q)
  start-ended k q is =
      elim (cases_lt k (length (batch_slots b))) [
        | inr past ↦ absurd (let none = start-past k past in cc)
        | inl slot ↦
            let early : end_after b.owners [] b.before (rank_at b k) ≡ Some q = sym (start-end k slot) ∙ is in
            let whole = whole-start k in
            (early, whole.1 ∙ rw early refl)
      ]

  -- a record without an end at first gets one by the batch alone
  start-unended : (k q : ℕ) → k < length (batch_slots b) → end_of (start b) k ≡ None → whole_end b k ≡ Some q → b.first ≤ q
  start-unended k q slot is was =
      let early : end_after b.owners [] b.before (rank_at b k) ≡ None = sym (start-end k slot) ∙ is in
      let whole = whole-start k in
      let later : end_after b.owners b.before whole.0 (rank_at b k) ≡ Some q = sym (rw early at whole.1) ∙ was in
      let more : b.first + 0 ≤ q = end-within b.owners (λ p. b.first + 0 ≤ p) b.before whole.0 (rank_at b k) q whole.2 later in
      omega arith

  -- a record that no place of the batch ends has after it the end that it has at first
  pub unended-stays : (k : ℕ) → k < length (batch_slots b) → ((n : ℕ) → serial_ends b n k ≡ false) → whole_end b k ≡ end_of (start b) k
  unended-stays k slot none = by_start (end_of (start b) k) refl
    where
      by_whole : end_of (start b) k ≡ None → (end : Option ℕ) → whole_end b k ≡ end → whole_end b k ≡ None
      by_whole is None was = was
      by_whole is (Some q) was =
          let from : b.first ≤ q = start-unended k q slot is was in
          let at : b.first + (q - b.first) ≡ q = omega arith in
          let ends = serial-ends-from b (q - b.first) k q was at in
          let not = none (q - b.first) in
          absurd (let both : true ≡ false = sym ends ∙ not in cc)

      by_start : (end : Option ℕ) → end_of (start b) k ≡ end → whole_end b k ≡ end_of (start b) k
      by_start None is = by_whole is (whole_end b k) refl ∙ sym is
      by_start (Some q) is = (start-ended k q is).1 ∙ sym is

  -- the state at first has all that is kept
  pub start-keeps : IsKept b (start b)
  start-keeps =
      let s = start b in
      let free : (n : ℕ) → hold_of s n ≡ Free = λ n. replicate-same b.size n Free in
      let none : (n : ℕ) → own_of s n ≡ [] = λ n. replicate-same b.size n [] in
      record {
        fronts_length = length-replicate b.partitions 0;
        references_length = empty-length b.size;
        holds_length = length-replicate b.size Free;
        own_length = length-replicate b.size [];
        ends_length = length-map (batch_slots b) (λ (g : Grant). end_after b.owners [] b.before (rank g));
        placed = λ n below. empty-at b.size n below
            ∙ sym (chosen-none (λ p. nat_lt n (front_of s p)) (b.partitions_of n) (reference_words b n) (sound.same_length n)
            (λ q. rw (replicate-same {A = ℕ} b.partitions q 0) (le-ltb n 0 (omega arith))));
        claimed = λ n busy. contrary (is_free (hold_of s n)) (rw (free n) refl) busy;
        begun = λ n. rw (none n) refl;
        busy = λ n some. absurd (let empty : length (own_of s n) ≡ 0 = rw (none n) refl in omega arith);
        resting = λ n some. absurd (let empty : length (own_of s n) ≡ 0 = rw (none n) refl in omega arith);
        finished = λ n done. contrary (is_done (hold_of s n)) done (rw (free n) refl);
        finished_ends = λ n j done. contrary (is_done (hold_of s n)) done (rw (free n) refl);
        ended = λ j q is. (start-ended j q is).1;
        ended_filled = λ j r is.
            let early = (start-ended j (b.first + r) is).0 in
            let less : b.first + r < b.first
            = end-within b.owners (λ p. p < b.first) [] b.before (rank_at b j) (b.first + r) sound.placed.earlier early in
            absurd (omega arith);
        unended = start-unended;
      }

  -- so has every state that is reached
  pub reach-keeps : (es : List Event) → IsKept b (reach b es)
  reach-keeps es = run-keeps (start b) es start-keeps

  -- a place that is done is right
  pub done-right : (es : List Event) (n : ℕ) → hold_of (reach b es) n ≡ Done → IsSerialPlace b (reach b es) n
  done-right es n done =
      let kept = reach-keeps es in
      let is : is_done (hold_of (reach b es) n) ≡ true = rw done refl in
      record {
        words = done-words b sound (reach b es) kept n is;
        ends = λ j. kept.finished_ends n j is;
      }

  -- the words of a place so far are a beginning of the serial run's
  pub words-begun : (es : List Event) (n : ℕ) → (rest : List ℕ) × (own_of (reach b es) n ++ rest ≡ serial_words b n)
  words-begun es n =
      let own = own_of (reach b es) n in
      let rest = drop (length own) (serial_words b n) in
      (rest, ap (λ ws. ws ++ rest) ((reach-keeps es).begun n) ∙ take-append-drop (length own) (serial_words b n))

  -- every end that is set is the serial run's
  pub ends-right : (es : List Event) (j q : ℕ) → end_of (reach b es) j ≡ Some q → whole_end b j ≡ Some q
  ends-right es j q set = (reach-keeps es).ended j q set

  -- once every place is done, no end is missing
  pub ends-kept : (es : List Event) (k : ℕ) → ((i : ℕ) → i < b.size → hold_of (reach b es) i ≡ Done) → k < length (batch_slots b)
      → end_of (reach b es) k ≡ whole_end b k
  ends-kept es k all slot = by_end (end_of (reach b es) k) (whole_end b k) refl refl
    where
      by_end : (seen whole : Option ℕ) → end_of (reach b es) k ≡ seen → whole_end b k ≡ whole
          → end_of (reach b es) k ≡ whole_end b k
      by_end None None is was = is ∙ sym was
      by_end (Some q) whole is was = is ∙ sym ((reach-keeps es).ended k q is)
      by_end None (Some q) is was =
          let kept = reach-keeps es in
          let from : b.first ≤ q = kept.unended k q slot is was in
          let i = q - b.first in
          let at : b.first + i ≡ q = omega arith in
          let ends : serial_ends b i k ≡ true = serial-ends-from b i k q was at in
          let only = serial-only b sound i k slot ends in
          let done : is_done (hold_of (reach b es) i) ≡ true = rw (all i only.within) refl in
          let set : end_of (reach b es) k ≡ Some (b.first + i) = kept.finished_ends i k done slot ends in
          absurd (cc)

  -- where a place that isn't done changes hands, one that is done stays so
  hold-done : (s : State) (n m : ℕ) (hold : Hold) → n < length s.holds → is_done (hold_of s n) ≡ false
      → is_done (hold_of s m) ≡ true → is_done (hold_of (with_hold s n hold) m) ≡ true
  hold-done s n m hold within undone done =
      set-cases (λ h. is_done h ≡ true) s.holds n m hold Free within
      (λ same. contrary (is_done (hold_of s n)) (rw same at done) undone)
      (λ _. done)

  -- a place that is done is so after an event that may happen
  change-done : (s : State) (e : Event) → IsKept b s → guard b s e ≡ true → (m : ℕ) → is_done (hold_of s m) ≡ true
      → is_done (hold_of (change b s e) m) ≡ true
  change-done s (Place p) kept holds m done = done
  change-done s (Fill actor n) kept holds m done = done
  change-done s (End actor n j) kept holds m done = done
  change-done s (Claim actor n) kept holds m done =
      let free = and_parts (is_free (hold_of s n)) _ holds in
      let size = (and_parts (nat_lt n (length s.holds)) (all_past s n) free.1).0 in
      let less = ltb-true n (length s.holds) size in
      hold-done s n m (Held actor) less (free-not_done (hold_of s n) free.0) done
  change-done s (Finish actor n) kept holds m done =
      let held = and_parts (is_held_by actor (hold_of s n)) _ holds in
      let past = kept.claimed n (held-not_free actor (hold_of s n) held.0) in
      hold-done s n m Done (let len = kept.holds_length in let size = past.0 in omega arith) (held-not_done actor (hold_of s n) held.0) done
  change-done s (GiveBack actor n) kept holds m done =
      let held = and_parts (is_held_by actor (hold_of s n)) _ holds in
      let past = kept.claimed n (held-not_free actor (hold_of s n) held.0) in
      hold-done s n m Free (let len = kept.holds_length in let size = past.0 in omega arith) (held-not_done actor (hold_of s n) held.0) done

  -- and after each event
  pub effect-done : (s : State) (e : Event) → IsKept b s → (m : ℕ) → is_done (hold_of s m) ≡ true
      → is_done (hold_of (effect b s e) m) ≡ true
  effect-done s e kept m done = by_cases (guard b s e) (λ holds. rw holds (change-done s e kept holds m done)) (λ fails. rw fails done)

  -- a place that every partition has placed stays so after an event that may happen, and keeps its references
  change-past : (s : State) (e : Event) → guard b s e ≡ true → (n : ℕ) → all_past s n ≡ true
      → (all_past (change b s e) n ≡ true) × (stored_references_of (change b s e) n ≡ stored_references_of s n)
  change-past s (Claim actor m) holds n past = (past, refl)
  change-past s (Fill actor m) holds n past = (past, refl)
  change-past s (End actor m j) holds n past = (past, refl)
  change-past s (Finish actor m) holds n past = (past, refl)
  change-past s (GiveBack actor m) holds n past = (past, refl)
  change-past s (Place p) holds n past =
      let front = front_of s p in
      let parts = and_parts (nat_lt p (length s.fronts)) (nat_lt front (length s.references)) holds in
      let within : p < length s.fronts = ltb-true p (length s.fronts) parts.0 in
      let less : n < front = ltb-true n front (list_all-get (λ f. nat_lt n f) s.fronts p 0 past within) in (
        list_all-set (λ f. nat_lt n f) s.fronts p (suc front) past (lt-ltb n (suc front) (omega arith)),
        get_or-set_other s.references front n (placed_references b s p front) [] (λ same. omega arith),
      )

  -- references that are ready are so where every place that was done is
  still-ready : (s t : State) (n : ℕ) → ((m : ℕ) → hold_of s m ≡ Done → hold_of t m ≡ Done)
      → stored_references_of t n ≡ stored_references_of s n → all_ready s n ≡ true → all_ready t n ≡ true
  still-ready s t n holds same ready = rw same (list_all-weaker (is_ready s) (is_ready t) (stored_references_of s n) more ready)
    where
      more : (word : ℕ) → is_ready s word ≡ true → is_ready t word ≡ true
      more zero ready = refl
      more (suc m) ready = rw (holds m (done-is (hold_of s m) ready)) refl

  -- what a state stores is in it
  stands-same : (s : State) → KeepsStored s s
  stands-same s =
      record {
        words = λ n. ([], append-nil (own_of s n));
        ends = λ j r set. set;
        holds = λ n done. done;
        placed = λ n past. past;
        references = λ n past. refl;
        ready = λ n past ready. ready;
      }

  -- what is at one step after another is at the end
  stands-then : (first second third : State) → KeepsStored first second → KeepsStored second third → KeepsStored first third
  stands-then first second third before after =
      record {
        words = λ n.
            let one = before.words n in
            let two = after.words n in
            (one.0 ++ two.0, sym (append_assoc (own_of first n) one.0 two.0) ∙ ap (λ ws. ws ++ two.0) one.1 ∙ two.1);
        ends = λ j r set. after.ends j r (before.ends j r set);
        holds = λ n done. after.holds n (before.holds n done);
        placed = λ n past. after.placed n (before.placed n past);
        references = λ n past. after.references n (before.placed n past) ∙ before.references n past;
        ready = λ n past ready. after.ready n (before.placed n past) (before.ready n past ready);
      }

  -- so it does after an event that may happen, if its words and ends do
  all-stands : (s : State) (e : Event) → IsKept b s → guard b s e ≡ true
      → ((n : ℕ) → (rest : List ℕ) × (own_of s n ++ rest ≡ own_of (change b s e) n))
      → ((j r : ℕ) → end_of s j ≡ Some r → end_of (change b s e) j ≡ Some r) → KeepsStored s (change b s e)
  all-stands s e kept holds words ends =
      let done : (n : ℕ) → hold_of s n ≡ Done → hold_of (change b s e) n ≡ Done
      = λ n is. done-is (hold_of (change b s e) n) (change-done s e kept holds n (rw is refl)) in
      record {
        words = words;
        ends = ends;
        holds = done;
        placed = λ n past. (change-past s e holds n past).0;
        references = λ n past. (change-past s e holds n past).1;
        ready = λ n past ready. still-ready s (change b s e) n done (change-past s e holds n past).1 ready;
      }

  -- what is stored is after an event that may happen
  change-stands : (s : State) (e : Event) → IsKept b s → guard b s e ≡ true → KeepsStored s (change b s e)
  change-stands s (Place p) kept holds = all-stands s (Place p) kept holds (λ n. ([], append-nil (own_of s n))) (λ j r set. set)
  change-stands s (Claim actor n) kept holds = all-stands s (Claim actor n) kept holds (λ m. ([], append-nil (own_of s m))) (λ j r set. set)
  change-stands s (Finish actor n) kept holds = all-stands s (Finish actor n) kept holds (λ m. ([], append-nil (own_of s m))) (λ j r set. set)
  change-stands s (GiveBack actor n) kept holds = all-stands s (GiveBack actor n) kept holds (λ m. ([], append-nil (own_of s m))) (λ j r set. set)
  change-stands s (Fill actor n) kept holds =
      let held = and_parts (is_held_by actor (hold_of s n)) _ holds in
      let past = kept.claimed n (held-not_free actor (hold_of s n) held.0) in
      let within : n < length s.own = (let len = kept.own_length in let size = past.0 in omega arith) in
      let word = get_or (words_seen b s n) (length (own_of s n)) 0 in
      all-stands s (Fill actor n) kept holds
      (λ m. set-cases (λ ws. (rest : List ℕ) × (own_of s m ++ rest ≡ ws)) s.own n m (own_of s n ++ word ∷ []) [] within
      (λ same. (word ∷ [], rw same refl))
      (λ _. ([], append-nil (own_of s m))))
      (λ j r set. set)
  change-stands s (End actor n j) kept holds =
      let held = and_parts (is_held_by actor (hold_of s n)) _ holds in
      let ready = and_parts (all_ready s n) _ held.1 in
      let full = and_parts (all_filled b s n) _ ready.1 in
      let slot = and_parts (nat_lt j (length s.ends)) _ full.1 in
      let must = and_parts (must_end b s n j) (is_none (end_of s j)) slot.1 in
      let within : j < length s.ends = ltb-true j (length s.ends) slot.0 in
      all-stands s (End actor n j) kept holds
      (λ m. ([], append-nil (own_of s m)))
      (λ k r set. set-cases (λ e. e ≡ Some r) s.ends j k (Some (b.first + n)) None within
      (λ same. contrary (is_none (end_of s j)) must.1 (rw (rw same at set) refl))
      (λ _. set))

  -- so it does after a list of events
  pub run-stands : (s : State) (es : List Event) → IsKept b s → KeepsStored s (run_from b s es)
  run-stands s [] kept = stands-same s
  run-stands s (e ∷ es) kept =
      stands-then s (effect b s e) (run_from b (effect b s e) es)
      (by_cases (guard b s e) (λ holds. rw holds (change-stands s e kept holds)) (λ fails. rw fails (stands-same s)))
      (run-stands (effect b s e) es (effect-keeps s e kept))

  -- events in two lists are run one list after the other
  run-append : (s : State) (first later : List Event) → run_from b s (first ++ later) ≡ run_from b (run_from b s first) later
  run-append s [] later = refl
  run-append s (e ∷ first) later = run-append (effect b s e) first later

  -- what is stored stands, whatever comes
  pub stored-stands : (first later : List Event) → KeepsStored (reach b first) (reach b (first ++ later))
  stored-stands first later = rw (run-append (start b) first later) (run-stands (reach b first) later (reach-keeps first))

  -- so a resting place rests
  pub effect-rests : (s : State) (e : Event) → IsKept b s → (n : ℕ) → rests b s n ≡ true → rests b (effect b s e) n ≡ true
  effect-rests s e kept n = list_all-weaker (is_ready s) (is_ready (effect b s e)) (reference_words b n) more
    where
      more : (word : ℕ) → is_ready s word ≡ true → is_ready (effect b s e) word ≡ true
      more zero ready = refl
      more (suc m) ready = effect-done s e kept m ready

  -- the place that one actor holds is not that of another
  elsewhere : (s : State) (a m actor n : ℕ) → is_held_by a (hold_of s m) ≡ true → hold_of s n ≡ Held actor → Some a ≢ Some actor → n ≢ m
  elsewhere s a m actor n by held other =
      λ same. other (ap Some (its_own (hold_of s m) by (rw (← same) held)))
    where
      its_own : (hold : Hold) → is_held_by a hold ≡ true → hold ≡ Held actor → a ≡ actor
      its_own hold by is = sym (eqb-true actor a (rw is at by))

  -- a place that an actor holds is not changed by an event of another that may happen
  others-hold : (s : State) (e : Event) (actor n : ℕ) → guard b s e ≡ true → hold_of s n ≡ Held actor → actor_of e ≢ Some actor
      → (hold_of (change b s e) n ≡ hold_of s n) × (own_of (change b s e) n ≡ own_of s n)
  others-hold s (Place p) actor n holds held other = (refl, refl)
  others-hold s (End a m j) actor n holds held other = (refl, refl)
  others-hold s (Claim a m) actor n holds held other =
      let free = (and_parts (is_free (hold_of s m)) _ holds).0 in
      let ne : n ≢ m = λ same. contrary (is_free (hold_of s m)) free (rw (← same) (rw held refl)) in
      (get_or-set_other s.holds m n (Held a) Free ne, refl)
  others-hold s (Fill a m) actor n holds held other =
      let ne = elsewhere s a m actor n (and_parts (is_held_by a (hold_of s m)) _ holds).0 held other in
      (refl, get_or-set_other s.own m n (own_of s m ++ get_or (words_seen b s m) (length (own_of s m)) 0 ∷ []) [] ne)
  others-hold s (Finish a m) actor n holds held other =
      let ne = elsewhere s a m actor n (and_parts (is_held_by a (hold_of s m)) _ holds).0 held other in
      (get_or-set_other s.holds m n Done Free ne, refl)
  others-hold s (GiveBack a m) actor n holds held other =
      let ne = elsewhere s a m actor n (and_parts (is_held_by a (hold_of s m)) _ holds).0 held other in
      (get_or-set_other s.holds m n Free Free ne, refl)

  -- so no event of another changes it
  others-leave : (s : State) (e : Event) (actor n : ℕ) → hold_of s n ≡ Held actor → actor_of e ≢ Some actor
      → (hold_of (effect b s e) n ≡ hold_of s n) × (own_of (effect b s e) n ≡ own_of s n)
  others-leave s e actor n held other =
      by_cases (guard b s e) (λ holds. rw holds (others-hold s e actor n holds held other)) (λ fails. rw fails (refl, refl))

  -- what a resting place is shown, and has to store, is the same in any two states that are reached
  same-task : (s t : State) → IsKept b s → IsKept b t → (n : ℕ) → is_free (hold_of s n) ≡ false → rests b s n ≡ true
      → rests b t n ≡ true → hold_of t n ≡ hold_of s n → own_of t n ≡ own_of s n → SameTask b s t n
  unfolding must_end
  same-task s t kept later n busy rest rest' hold own =
      let size = (kept.claimed n busy).0 in
      let within : n ≤ b.size = omega arith in
      let here = stands b sound s kept n busy in
      let there = stands b sound t later n (rw hold busy) in
      record {
        hold = hold;
        own = own;
        rows = rows-right b sound t later n there rest' ∙ sym (rows-right b sound s kept n here rest);
        records = records-right b sound t later n within rest' ∙ sym (records-right b sound s kept n within rest);
        words = words-right b sound t later n within there rest' ∙ sym (words-right b sound s kept n within here rest);
        ends = λ j slot. rw (own, records-right b sound s kept n within rest, records-right b sound t later n within rest') refl;
      }

  -- so no list of others' events changes a place that an actor holds
  pub others-leave-all : (s : State) (later : List Event) (actor n : ℕ) → hold_of s n ≡ Held actor → NoneBy actor later
      → (hold_of (run_from b s later) n ≡ hold_of s n) × (own_of (run_from b s later) n ≡ own_of s n)
  others-leave-all s [] actor n held none = (refl, refl)
  others-leave-all s (e ∷ later) actor n held none =
      let one = others-leave s e actor n held none.0 in
      let rest = others-leave-all (effect b s e) later actor n (one.0 ∙ held) none.1 in
      (rest.0 ∙ one.0, rest.1 ∙ one.1)

  -- a resting place rests after any events
  run-rests : (s : State) (later : List Event) → IsKept b s → (n : ℕ) → rests b s n ≡ true
      → rests b (run_from b s later) n ≡ true
  run-rests s [] kept n rest = rest
  run-rests s (e ∷ later) kept n rest = run-rests (effect b s e) later (effect-keeps s e kept) n (effect-rests s e kept n rest)

  -- where an actor holds a place and all that it refers to is done, the events of others change nothing for it
  pub task-stands : (es later : List Event) (actor n : ℕ) → hold_of (reach b es) n ≡ Held actor
      → all_ready (reach b es) n ≡ true → NoneBy actor later → SameTask b (reach b es) (reach b (es ++ later)) n
  task-stands es later actor n held ready none =
      let s = reach b es in
      let kept = reach-keeps es in
      let busy : is_free (hold_of s n) ≡ false = rw held refl in
      let rest : rests b s n ≡ true = rw (stands b sound s kept n busy) at ready in
      let left = others-leave-all s later actor n held none in
      rw (run-append (start b) es later)
      (same-task s (run_from b s later) kept (run-keeps s later kept) n busy rest (run-rests s later kept n rest) left.0 left.1)

  -- a place that isn't free has all its references
  pub has-references : (es : List Event) (n : ℕ) → hold_of (reach b es) n ≢ Free → HasReferences b (reach b es) n
  has-references es n busy =
      let s = reach b es in
      let kept = reach-keeps es in
      let past = kept.claimed n (busy-not_free (hold_of s n) busy) in
      record { within = past.0; placed = past.1; references = placed-all b sound s kept n past.0 past.1 }

  -- a place with a word has all its references, and all that it refers to is done
  pub word-rests : (es : List Event) (n : ℕ) → 0 < length (own_of (reach b es) n)
      → HasReferences b (reach b es) n × (all_ready (reach b es) n ≡ true)
  word-rests es n some =
      let s = reach b es in
      let kept = reach-keeps es in
      let past = kept.claimed n (kept.busy n some) in
      let here = placed-all b sound s kept n past.0 past.1 in
      (record { within = past.0; placed = past.1; references = here }, rw here (kept.resting n some))

  -- what is stored has its lengths
  pub has-sizes : (es : List Event) → HasSizes b (reach b es)
  has-sizes es =
      let kept = reach-keeps es in
      record {
        fronts = kept.fronts_length;
        references = kept.references_length;
        holds = kept.holds_length;
        own = kept.own_length;
        ends = kept.ends_length;
      }

  -- once all that a place refers to is done, it is shown what the serial run shows it
  pub shown-serial : (es : List Event) (n : ℕ) → n < b.size → all_past (reach b es) n ≡ true → all_ready (reach b es) n ≡ true
      → ShowsSerial b (reach b es) n
  shown-serial es n size past ready =
      let s = reach b es in
      let kept = reach-keeps es in
      let here = placed-all b sound s kept n size past in
      let rest : rests b s n ≡ true = rw here at ready in
      let within : n ≤ b.size = omega arith in
      record {
        rows = rows-right b sound s kept n here rest;
        records = records-right b sound s kept n within rest;
        words = words-right b sound s kept n within here rest;
        ends = λ j slot some. must-right b sound s kept n j size slot some rest;
        outcome = λ some. outcome-right b sound s kept n some;
        referred = λ other number low is.
            done-words b sound s kept other (subst (λ word. is_ready s word ≡ true) is (list_all-get (is_ready s) (reference_words b n) number 0 rest low));
        settled = λ other t less listed deed.
            done-words b sound s kept other
            (deeds-done b sound s kept n t (table-ready b sound s kept n t (b.tables n) (rests-tables b sound s kept n rest) listed) other less deed);
        told = λ k slot listed.
            end-seen b sound s kept n k slot
            (deeds-done b sound s kept n (table_at b k) (table-ready b sound s kept n (table_at b k) (b.tables n) (rests-tables b sound s kept n rest) listed));
      }

  -- where all places below one are done, so is the last of them that may change the row of a key
  writer-ready : (s : State) (n : ℕ) (key : Key) → ((i : ℕ) → i < n → hold_of s i ≡ Done) → is_ready s (writer_reference b n key) ≡ true
  writer-ready s zero key all = refl
  writer-ready s (suc n) key all =
      by_cases (changes_key (b.accesses n) key)
      (λ named. rw (named, all n (omega arith)) refl)
      (λ other. rw other (writer-ready s n key (λ i less. all i (omega arith))))

  -- the same deeds are made where the same places are done
  made-same : (first second : ℕ → Bool) (n : ℕ) → ((i : ℕ) → i < n → first i ≡ second i)
      → made_before (batch_deeds b first) n ≡ made_before (batch_deeds b second) n
  made-same first second zero same = refl
  made-same first second (suc n) same =
      rw (same n (omega arith), made-same first second n (λ i less. same i (omega arith))) refl

  -- once every place below one is done, the rows and deeds by these places are those after the serial run of them
  pub whole-right : (es : List Event) (n : ℕ) → ((i : ℕ) → i < n → hold_of (reach b es) i ≡ Done) → IsWholeBelow b (reach b es) n
  whole-right es n all =
      let s = reach b es in
      let kept = reach-keeps es in
      record {
        rows = λ key. row-seen b sound s kept key (writer_reference b n key) (writer-ready s n key all) ∙ sym (row-right b sound n key);
        deeds =
            made-same (λ i. was_done (own_of s i)) (λ i. was_done (serial_words b i)) n
            (λ i less. ap was_done (done-words b sound s kept i (rw (all i less) refl)))
            ∙ sym (deeds-made b sound n);
      }

  -- a place with a word isn't free
  pub word-busy : (es : List Event) (n : ℕ) → 0 < length (own_of (reach b es) n) → hold_of (reach b es) n ≢ Free
  word-busy es n some free = contrary (is_free (hold_of (reach b es) n)) (rw free refl) ((reach-keeps es).busy n some)

  -- a place that every partition has placed has its references
  pub past-references : (es : List Event) (n : ℕ) → n < b.size → all_past (reach b es) n ≡ true
      → stored_references_of (reach b es) n ≡ reference_words b n
  past-references es n size past = placed-all b sound (reach b es) (reach-keeps es) n size past

  -- once all that a place refers to is done, each earlier place with a deed on one of its tables is done
  pub deeds-settled : (es : List Event) (n i t : ℕ) → n < b.size → all_past (reach b es) n ≡ true
      → all_ready (reach b es) n ≡ true → is_listed (b.tables n) t ≡ true → i < n → place_has_deed_on b i t ≡ true
      → hold_of (reach b es) i ≡ Done
  deeds-settled es n i t size past ready listed less deed =
      let s = reach b es in
      let kept = reach-keeps es in
      let rest : rests b s n ≡ true = rw (placed-all b sound s kept n size past) at ready in
      done-is (hold_of s i) (deeds-done b sound s kept n t (table-ready b sound s kept n t (b.tables n) (rests-tables b sound s kept n rest) listed) i less deed)

  -- and the ends of the slots on its tables are, below it, those of the serial run
  pub end-told : (es : List Event) (n k : ℕ) → n < b.size → all_past (reach b es) n ≡ true
      → all_ready (reach b es) n ≡ true → is_listed (b.tables n) (table_at b k) ≡ true → k < length (batch_slots b)
      → end_below (b.first + n) (end_of (reach b es) k) ≡ end_below (b.first + n) (whole_end b k)
  end-told es n k size past ready listed slot =
      let s = reach b es in
      let kept = reach-keeps es in
      let rest : rests b s n ≡ true = rw (placed-all b sound s kept n size past) at ready in
      end-seen b sound s kept n k slot
      (deeds-done b sound s kept n (table_at b k) (table-ready b sound s kept n (table_at b k) (b.tables n) (rests-tables b sound s kept n rest) listed))

  -- a place at which a record ended has all its words
  pub ender-words : (es : List Event) (k n : ℕ) → end_of (reach b es) k ≡ Some (b.first + n)
      → own_of (reach b es) n ≡ serial_words b n
  ender-words es k n set = filled-words b sound (reach b es) (reach-keeps es) n ((reach-keeps es).ended_filled k n set)
