-- Each kind of step keeps the rule, and says what it says.
use Rattle.std.proofs.Common.{◌≡◌, ℕ, zero, suc, ◌+◌, ◌<◌, Bool, true, false, true≢false, List, [], ◌∷◌, ◌++◌, length, get_or, set, refl, sym, ap, ◌∙◌, subst, arith, eqb, eq-eqb, inl, get_or-set_same}
use Rattle.std.specs.Prelude.{◌==◌, if◌then◌else◌, nat_lt, not, is_none, Option, Some, None}
use Rattle.std.proofs.lemmas.Bool.{and_from, lt-ltb}
use mathlib.Core.Option.{some}
use lib.ListN.{get_elem?}
use prog.Atomic.{either}
use Rattle.atomic_table.specs.Table.{State as Table, Me, keeps, Allows}
use Rattle.bohm_core_base.specs.declared.event.Event.{Event}
use Rattle.bohm_core_base.specs.declared.event.Event.TheVariants.{Claim, Fill, End, Finish, GiveBack}
use Rattle.bohm_core_base.specs.declared.hold.Hold.{Hold}
use Rattle.bohm_core_base.specs.declared.hold.Hold.TheVariants.{Free, Held, Done}
use Rattle.bohm_core_base.specs.Batch.{Batch, batch_slots, reference_words, words_length}
use Rattle.bohm_core_base.specs.Serial.{is_end, serial_ends, serial_words}
use Rattle.bohm_core_base.specs.Laws.{actor_of}
use Rattle.bohm_core_base.specs.Machine.{State, all_below, all_ended, all_filled, all_ready, change, end_of, front_of, guard, hold_of, is_free, is_held_by, must_end, next_word, none_ended, own_of, reach, with_hold}
use Rattle.bohm_core_base.proofs.Reach.{done-right, ends-right, shown-serial, word-rests}
use Rattle.words.specs.declared.knowledge.Knowledge.{Knowledge}
use Rattle.words.specs.Layout.{claim_word, own_word, reference_word, front_word, end_word, claim_code, optional_word, listed_slot_at, partition_at, position, reference_at, shown, ShowsState}
use Rattle.words.specs.Legal.{Fits, Lawful, events_by, legal}
use Rattle.words.specs.Meanings.{HoldsWhole}
use Rattle.words.specs.Views.{Holds, In, IsSettled, KnowsFront, KnowsPast, KnowsReferences, front_in, with_all_placed, with_event, with_front, with_known}
use Rattle.words.proofs.Plays.{claim_then, look_then, makes, finishes, front_then, goes_to, reads, end_then}
use Rattle.words.proofs.Members.{by-append, by-one, in_one}
use Rattle.words.proofs.Past.{front-most, placed-reference}
use Rattle.words.proofs.Stepping.{has-all, reached-more, works-more}
use Rattle.words.proofs.Reached.{ends-whole, words-some}
use Rattle.words.proofs.Taking.{claimed-holds}
use Rattle.words.proofs.Showing.{SameReferences, end-others, hold-others, own-others, push-at, references-stay, shows-store}
use Rattle.words.proofs.Keeping.{GoesOn, IsMade, changes, goes-on, goes_on}
use Rattle.words.proofs.Knowing.{done-front, held_from, known-done, known-front, known-past, known-ready, known-shown, knows_more, read_done, read_front, read_held, read_placed, read_same, settled-done, tells-end}
use Rattle.bohm_core_base.proofs.Whole.{is_end-some}
use Rattle.model_base.proofs.Replay.{by_cases}

all-below : (test : ℕ → Bool) (n : ℕ) → ((k : ℕ) → k < n → test k ≡ true) → all_below test n ≡ true
all-below test zero each = refl
all-below test (suc n) each = and_from (test n) (all_below test n) (each n (omega arith)) (all-below test n (λ k less. each k (omega arith)))

module _ (b : Batch) (listed words : List ℕ) (views : List Knowledge) (es : List Event) (by : ℕ) (v : Knowledge) (law : Lawful b listed words views es) (at : get_elem? views by ≡ some v) (alive : v.spent ≡ false) (pass : v.placer ≡ false) where
  abbrev here : State
  here = reach b es

  module _ (e : Event) (from : actor_of e ≡ Some by) (ok : guard b here e ≡ true) where
    abbrev es' : List Event
    es' = es ++ e ∷ []

    is_mine : (f : Event) → In f (e ∷ []) → IsMade by v f
    is_mine f h = inl (pass, ap actor_of (in_one f e h) ∙ from)

    own_list : events_by by es' ≡ v.events ++ e ∷ []
    own_list = by-append by es (e ∷ []) ∙ ap (λ (l : List Event). l ++ events_by by (e ∷ [])) ((law.fits by v at).own alive) ∙ ap (λ (l : List Event). v.events ++ l) (by-one by e from)

    pub then_state : reach b es' ≡ change b here e
    then_state = reached-more b law.sound es (e ∷ []) ∙ rw ok refl

    pub fits_then : Fits b es' by (with_event v e)
    fits_then = goes_on b law.sound listed es es' (e ∷ []) refl by v is_mine words words views law at alive pass (v.events ++ e ∷ []) own_list

    pub acts : (words' : List ℕ) (w : Knowledge) → ShowsState b listed words' (change b here e) → SameReferences b words words' → Fits b es' by w → GoesOn v w → legal b listed words' (set views by w)
    acts words' w shows same fit on = (
      es',
      changes b law.sound listed es es' (e ∷ []) refl by v is_mine words words' views law at alive w
          (works-more b law.sound es (e ∷ []) law.works (ok, tt)) (subst (ShowsState b listed words') (sym then_state) shows) fit on
          (λ j u ne h places r k. let t = law.stands j u h places r k in (t.0, t.1, t.2, same (front_in u) r t.0 t.1 ∙ t.3))
          (λ places. absurd (true≢false (sym places ∙ on.3 ∙ pass))),
    )

    -- the step makes this event and nothing else
    pub makes_event : (words' : List ℕ) → ShowsState b listed words' (change b here e) → SameReferences b words words' → legal b listed words' (set views by (with_event v e))
    makes_event words' shows same = acts words' (with_event v e) shows same fits_then (goes-on v alive)

  -- it may give back what it holds with nothing stored
  may-give_back : (i : ℕ) → Holds v i 0 [] → guard b here (GiveBack by i) ≡ true
  may-give_back i holds =
      let t = held_from b listed words views es by v law at alive i 0 [] holds in
      let blank : (length (own_of here i) == 0) ≡ true = eq-eqb (length (own_of here i)) 0 t.1 in
      let none : none_ended b here i ≡ true = all-below (λ slot. not (is_end (b.first + i) (end_of here slot))) (length here.ends) (λ slot less.
      by_cases (is_end (b.first + i) (end_of here slot))
      (λ ends. absurd (t.2 slot (is_end-some (b.first + i) (end_of here slot) ends)))
      (λ no. rw no refl)) in
      and_from (is_held_by by (hold_of here i)) _ (rw t.0 (eq-eqb by by refl)) (and_from (length (own_of here i) == 0) _ blank none)

  -- it may finish what it holds with all stored
  may-finish : (i : ℕ) → i < b.size → HoldsWhole b v i → guard b here (Finish by i) ≡ true
  may-finish i below whole =
      let t = held_from b listed words views es by v law at alive i (words_length b i) whole.0 whole.1 in
      let some : 0 < length (own_of here i) = (let words = words-some b law.sound i in let len = t.1 in omega arith) in
      let full : all_filled b here i ≡ true = eq-eqb (length (own_of here i)) (words_length b i) t.1 in
      let ended : all_ended b here i ≡ true = all-below (λ slot. if must_end b here i slot then is_end (b.first + i) (end_of here slot) else true) (length here.ends) (λ slot less.
      by_cases (must_end b here i slot)
      (λ must.
      let within : slot < length (batch_slots b) = (let len = (has-all b law.sound es).ends in omega arith) in
      let rests = word-rests b law.sound es i some in
      let shows = shown-serial b law.sound es i below rests.0.placed rests.1 in
      let serial : serial_ends b i slot ≡ true = sym (shows.ends slot within some) ∙ must in
      let set = t.3 slot (whole.2 slot within serial) in
      rw (must, set) (eq-eqb (b.first + i) (b.first + i) refl))
      (λ no. rw no refl)) in
      and_from (is_held_by by (hold_of here i)) _ (rw t.0 (eq-eqb by by refl)) (and_from (all_filled b here i) _ full ended)

  -- it may store the next word of what it holds, once all that the place refers to is done
  may-fill : (i m : ℕ) (js : List ℕ) → i < b.size → m < words_length b i → Holds v i m js → KnowsReferences b v i → guard b here (Fill by i) ≡ true
  may-fill i m js below short holds knows =
      let t = held_from b listed words views es by v law at alive i m js holds in
      let ready = known-ready b listed words views es by v law at alive i m js holds knows in
      and_from (is_held_by by (hold_of here i)) _ (rw t.0 (eq-eqb by by refl))
      (and_from (all_ready here i) _ ready (lt-ltb (length (own_of here i)) (words_length b i) (let len = t.1 in omega arith)))

  -- which is the serial run's
  the-word : (i m : ℕ) (js : List ℕ) → i < b.size → Holds v i m js → KnowsReferences b v i → next_word b here i ≡ get_or (serial_words b i) m 0
  the-word i m js below holds knows =
      let t = held_from b listed words views es by v law at alive i m js holds in
      let shows = known-shown b listed words views es by v law at alive i m js holds knows in
      ap (λ (ws : List ℕ). get_or ws (length (own_of here i)) 0) shows.words ∙ ap (λ (n : ℕ). get_or (serial_words b i) n 0) t.1

  -- it may end a record that the serial run ends there
  may-end : (i slot : ℕ) (js : List ℕ) → i < b.size → slot < length (batch_slots b) → Holds v i (words_length b i) js → ¬ (In slot js) → KnowsReferences b v i
      → serial_ends b i slot ≡ true → guard b here (End by i slot) ≡ true
  may-end i slot js below within holds out knows serial =
      let t = held_from b listed words views es by v law at alive i (words_length b i) js holds in
      let ready = known-ready b listed words views es by v law at alive i (words_length b i) js holds knows in
      let shows = known-shown b listed words views es by v law at alive i (words_length b i) js holds knows in
      let some : 0 < length (own_of here i) = (let words = words-some b law.sound i in let len = t.1 in omega arith) in
      let full : all_filled b here i ≡ true = eq-eqb (length (own_of here i)) (words_length b i) t.1 in
      let must : must_end b here i slot ≡ true = shows.ends slot within some ∙ serial in
      and_from (is_held_by by (hold_of here i)) _ (rw t.0 (eq-eqb by by refl))
      (and_from (all_ready here i) _ ready
      (and_from (all_filled b here i) _ full
      (and_from (nat_lt slot (length here.ends)) _ (lt-ltb slot (length here.ends) (let len = (has-all b law.sound es).ends in omega arith))
      (and_from (must_end b here i slot) _ must (unset t.2 (end_of here slot) refl)))))
    where
      unset : ((k : ℕ) → end_of here k ≡ Some (b.first + i) → In k js) → (end : Option ℕ) → end_of here slot ≡ end → is_none (end_of here slot) ≡ true
      unset ends None set = rw set refl
      unset ends (Some q) set =
          let whole = ends-right b law.sound es slot q set in
          let same : Some q ≡ Some (b.first + i) = sym whole ∙ ends-whole b i slot serial in
          absurd (out (ends slot (set ∙ same)))

module _ (b : Batch) (listed : List ℕ) (slots by : ℕ) (me : Me ℕ Knowledge) (alive : me.0.spent ≡ false) (pass : me.0.placer ≡ false) where
  abbrev Rule : Table ℕ Knowledge → Type 0
  Rule s = legal b listed s.words s.views

  -- the state after the words
  abbrev behind : (s : Table ℕ Knowledge) → Rule s → State
  behind s r = reach b r.0

  module _ (i : ℕ) (below : i < b.size) where
    -- where the claim lies
    abbrev spot : ℕ
    spot = position b (claim_word i)

    -- the claim shows the hold
    code : (s : Table ℕ Knowledge) (r : Rule s) (g : Hold) → hold_of (behind s r) i ≡ g → get_or s.words spot 0 ≡ claim_code g
    code s r g e = r.1.shows.at (claim_word i) below tt ∙ ap claim_code e

    -- the claim is stored
    claim_stored : (s : Table ℕ Knowledge) (r : Rule s) (hold : Hold) → ShowsState b listed (set s.words spot (claim_code hold)) (with_hold (behind s r) i hold)
    claim_stored s r hold =
        let within : i < length (behind s r).holds = (let len = (has-all b r.1.sound r.0).holds in omega arith) in
        shows-store b listed s.words (behind s r) (with_hold (behind s r) i hold) (claim_word i) (claim_code hold) below r.1.shows refl
        (ap claim_code (sym (get_or-set_same (behind s r).holds i hold Free within)))
        (λ o has other. hold-others b listed (behind s r) i hold o other)

    known_two : (s : Table ℕ Knowledge) (r : Rule s) → get_elem? s.views by ≡ some me.0 → In i me.0.known → get_or s.words spot 0 ≡ 2
    known_two s r at known = code s r Done (known-done b listed s.words s.views r.0 by me.0 r.1 at alive i known)

    settled_two : (s : Table ℕ Knowledge) (r : Rule s) → get_elem? s.views by ≡ some me.0 → IsSettled b me.0 i → get_or s.words spot 0 ≡ 2
    settled_two s r at settled = code s r Done (settled-done b listed s.words s.views r.0 by me.0 r.1 at alive i settled)

    claim_found : KnowsPast b me.0 i → (s : Table ℕ Knowledge) (r : Rule s) (at : get_elem? s.views by ≡ some me.0) (g : Hold) → hold_of (behind s r) i ≡ g
        → (w : Knowledge) × legal b listed (set s.words spot (either (eqb (get_or s.words spot 0) 0) 1 (get_or s.words spot 0))) (set s.views by w) × claim_then b by i me (get_or s.words spot 0) (w, me.1)
    claim_found past s r at Free e =
        let x0 = code s r Free e in
        let within : i < length (behind s r).holds = (let len = (has-all b r.1.sound r.0).holds in omega arith) in
        let ok : guard b (behind s r) (Claim by i) ≡ true = and_from (is_free (hold_of (behind s r) i)) _ (rw e refl)
        (and_from (nat_lt i (length (behind s r).holds)) _ (lt-ltb i (length (behind s r).holds) within) (known-past b listed s.words s.views r.0 by me.0 r.1 at alive i below past)) in (
          with_event me.0 (Claim by i),
          subst (λ (n : ℕ). legal b listed (set s.words spot n) (set s.views by (with_event me.0 (Claim by i)))) (sym (ap (λ (n : ℕ). either (eqb n 0) 1 n) x0))
              (makes_event b listed s.words s.views r.0 by me.0 r.1 at alive pass (Claim by i) refl ok (set s.words spot 1) (claim_stored s r (Held by)) (references-stay b listed s.words (claim_word i) 1 below refl)),
          ((refl, refl, refl, refl), (λ _. (refl, claimed-holds me.0 by i)), (λ one. absurd (omega arith)), (λ no _. absurd (no x0)), known_two s r at, settled_two s r at),
        )
    claim_found past s r at (Held c) e =
        let x1 = code s r (Held c) e in
        let t = read_held b listed s.words s.views r.0 by me.0 r.1 at alive pass spot i c e in (
          t.0,
          subst (λ (n : ℕ). legal b listed (set s.words spot n) (set s.views by t.0)) (sym (ap (λ (n : ℕ). either (eqb n 0) 1 n) x1 ∙ sym x1)) t.4,
          ((refl, t.1 ∙ sym alive, t.2 ∙ sym pass, t.3), (λ none. absurd (omega arith)), (λ _. t.5), (λ _ no. absurd (no x1)), known_two s r at, settled_two s r at),
        )
    claim_found past s r at Done e =
        let x2 = code s r Done e in (
          with_known me.0 i,
          subst (λ (n : ℕ). legal b listed (set s.words spot n) (set s.views by (with_known me.0 i))) (sym (ap (λ (n : ℕ). either (eqb n 0) 1 n) x2 ∙ sym x2)) (read_done b listed s.words s.views r.0 by me.0 r.1 at alive pass spot i e),
          ((refl, refl, refl, refl), (λ none. absurd (omega arith)), (λ one. absurd (omega arith)), (λ _ _. refl), known_two s r at, settled_two s r at),
        )

    pub claims : KnowsPast b me.0 i → Allows Rule slots by me spot (λ n. either (eqb n 0) 1 n) (claim_then b by i me)
    claims past s r _ at _ = let t = claim_found past s r at (hold_of (behind s r) i) refl in (t.0, keeps, tt, t.1, t.2)

    look_found : (s : Table ℕ Knowledge) (r : Rule s) (at : get_elem? s.views by ≡ some me.0) (g : Hold) → hold_of (behind s r) i ≡ g
        → (w : Knowledge) × legal b listed (set s.words spot (get_or s.words spot 0)) (set s.views by w) × look_then b i me (get_or s.words spot 0) (w, me.1)
    look_found s r at Free e =
        let x0 = code s r Free e in
        (me.0, read_same b listed s.words s.views r.0 by me.0 r.1 at alive pass spot, ((refl, refl, refl, refl), (λ _. refl), (λ one. absurd (omega arith)), (λ no _. absurd (no x0)), known_two s r at, settled_two s r at))
    look_found s r at (Held c) e =
        let x1 = code s r (Held c) e in
        let t = read_held b listed s.words s.views r.0 by me.0 r.1 at alive pass spot i c e in
        (t.0, t.4, ((refl, t.1 ∙ sym alive, t.2 ∙ sym pass, t.3), (λ none. absurd (omega arith)), (λ _. t.5), (λ _ no. absurd (no x1)), known_two s r at, settled_two s r at))
    look_found s r at Done e =
        let x2 = code s r Done e in
        (with_known me.0 i, read_done b listed s.words s.views r.0 by me.0 r.1 at alive pass spot i e, ((refl, refl, refl, refl), (λ none. absurd (omega arith)), (λ one. absurd (omega arith)), (λ _ _. refl), known_two s r at, settled_two s r at))

    pub looks : Allows Rule slots by me spot (λ n. n) (look_then b i me)
    looks s r _ at _ = let t = look_found s r at (hold_of (behind s r) i) refl in (t.0, keeps, tt, t.1, t.2)

    pub gives_back : Holds me.0 i 0 [] → Allows Rule slots by me spot (λ _. 0) (λ _. makes (GiveBack by i) me 0)
    gives_back h s r _ at _ =
        let ok = may-give_back b listed s.words s.views r.0 by me.0 r.1 at alive pass i h in
        (with_event me.0 (GiveBack by i), keeps, tt, makes_event b listed s.words s.views r.0 by me.0 r.1 at alive pass (GiveBack by i) refl ok (set s.words spot 0) (claim_stored s r Free) (references-stay b listed s.words (claim_word i) 0 below refl), ((refl, refl, refl, refl), refl))

    pub finishing : HoldsWhole b me.0 i → Allows Rule slots by me spot (λ _. 2) (λ _. finishes by i me 2)
    finishing h s r _ at _ =
        let ok = may-finish b listed s.words s.views r.0 by me.0 r.1 at alive pass i below h in
        let within : i < length (behind s r).holds = (let len = (has-all b r.1.sound r.0).holds in omega arith) in
        let v' = with_event me.0 (Finish by i) in
        let es' = r.0 ++ Finish by i ∷ [] in
        let done : hold_of (reach b es') i ≡ Done = ap (λ (q : State). hold_of q i) (then_state b listed s.words s.views r.0 by me.0 r.1 at alive pass (Finish by i) refl ok) ∙ get_or-set_same (behind s r).holds i Done Free within in
        let fits = fits_then b listed s.words s.views r.0 by me.0 r.1 at alive pass (Finish by i) refl ok in (
          with_known v' i,
          keeps,
          tt,
          acts b listed s.words s.views r.0 by me.0 r.1 at alive pass (Finish by i) refl ok (set s.words spot 2) (with_known v' i) (claim_stored s r Done)
              (references-stay b listed s.words (claim_word i) 2 below refl) (knows_more b es' by v' i fits done) (goes-on me.0 alive),
          ((refl, refl, refl, refl), refl),
        )

    pub fills : (word m : ℕ) (js : List ℕ) → m < words_length b i → Holds me.0 i m js → KnowsReferences b me.0 i → word ≡ get_or (serial_words b i) m 0
        → Allows Rule slots by me (position b (own_word i m)) (λ _. word) (λ _. makes (Fill by i) me word)
    fills word m js short h knows right s r _ at _ =
        let state = behind s r in
        let t = held_from b listed s.words s.views r.0 by me.0 r.1 at alive i m js h in
        let ok = may-fill b listed s.words s.views r.0 by me.0 r.1 at alive pass i m js below short h knows in
        let next = the-word b listed s.words s.views r.0 by me.0 r.1 at alive pass i m js below h knows in
        let within : i < length state.own = (let len = (has-all b r.1.sound r.0).own in omega arith) in
        let more = own_of state i ++ next_word b state i ∷ [] in
        let stored : word ≡ shown listed (change b state (Fill by i)) (own_word i m) =
        sym (ap (λ (own : List ℕ). get_or own m 0) (get_or-set_same state.own i more [] within)
        ∙ ap (λ (n : ℕ). get_or more n 0) (sym t.1) ∙ push-at (own_of state i) (next_word b state i) ∙ next ∙ sym right) in (
          with_event me.0 (Fill by i),
          keeps,
          tt,
          makes_event b listed s.words s.views r.0 by me.0 r.1 at alive pass (Fill by i) refl ok (set s.words (position b (own_word i m)) word)
              (shows-store b listed s.words state (change b state (Fill by i)) (own_word i m) word (below, short) r.1.shows refl stored
              (λ o has other. own-others b listed state i (next_word b state i) within o (λ same. other (same ∙ ap (own_word i) t.1))))
              (references-stay b listed s.words (own_word i m) word (below, short) refl),
          ((refl, refl, refl, refl), refl),
        )

    pub ends : (end : ℕ) (js : List ℕ) → end < length listed → Holds me.0 i (words_length b i) js → ¬ (In (listed_slot_at listed end) js) → KnowsReferences b me.0 i
        → serial_ends b i (listed_slot_at listed end) ≡ true
        → Allows Rule slots by me (position b (end_word end)) (λ _. suc (b.first + i)) (λ _. makes (End by i (listed_slot_at listed end)) me (suc (b.first + i)))
    ends end js has h out knows serial s r _ at _ =
        let state = behind s r in
        let slot = listed_slot_at listed end in
        let slot_within = r.1.slots.within end has in
        let ok = may-end b listed s.words s.views r.0 by me.0 r.1 at alive pass i slot js below slot_within h out knows serial in
        let within : slot < length state.ends = (let len = (has-all b r.1.sound r.0).ends in omega arith) in
        let stored : suc (b.first + i) ≡ shown listed (change b state (End by i slot)) (end_word end) = ap optional_word (sym (get_or-set_same state.ends slot (Some (b.first + i)) None within)) in (
          with_event me.0 (End by i slot),
          keeps,
          tt,
          makes_event b listed s.words s.views r.0 by me.0 r.1 at alive pass (End by i slot) refl ok (set s.words (position b (end_word end)) (suc (b.first + i)))
              (shows-store b listed s.words state (change b state (End by i slot)) (end_word end) (suc (b.first + i)) has r.1.shows refl stored
              (λ o has' other. end-others b listed state end (Some (b.first + i)) r.1.slots has o has' other))
              (references-stay b listed s.words (end_word end) (suc (b.first + i)) has refl),
          ((refl, refl, refl, refl), refl),
        )

    pub owns : (m : ℕ) → m < words_length b i → In i me.0.known → Allows Rule slots by me (position b (own_word i m)) (λ n. n) (reads (get_or (serial_words b i) m 0) me)
    owns m short known s r _ at _ =
        let state = behind s r in
        let done : hold_of state i ≡ Done = known-done b listed s.words s.views r.0 by me.0 r.1 at alive i known in
        let found : get_or s.words (position b (own_word i m)) 0 ≡ get_or (serial_words b i) m 0 =
        r.1.shows.at (own_word i m) (below, short) tt ∙ ap (λ (own : List ℕ). get_or own m 0) (done-right b r.1.sound r.0 i done).words in
        (me.0, keeps, tt, read_same b listed s.words s.views r.0 by me.0 r.1 at alive pass (position b (own_word i m)), (refl, found))

  -- an end
  pub end_reads : (end : ℕ) → end < length listed → Allows Rule slots by me (position b (end_word end)) (λ n. n) (end_then b (listed_slot_at listed end) me)
  end_reads end has s r _ at _ = (
    me.0,
    keeps,
    tt,
    read_same b listed s.words s.views r.0 by me.0 r.1 at alive pass (position b (end_word end)),
    (refl, tells-end b listed s.words s.views r.0 by me.0 r.1 at alive (listed_slot_at listed end) (get_or s.words (position b (end_word end)) 0) (r.1.slots.within end has) (r.1.shows.at (end_word end) has tt)),
  )

  -- a front
  pub front_reads : (p : ℕ) → p < b.partitions → Allows Rule slots by me (position b (front_word p)) (λ n. n) (front_then b p me)
  front_reads p partition s r _ at _ =
      let spot = position b (front_word p) in
      let found = get_or s.words spot 0 in
      let is : front_of (behind s r) p ≡ found = sym (r.1.shows.at (front_word p) partition tt) in (
        with_front me.0 p found,
        keeps,
        tt,
        read_front b listed s.words s.views r.0 by me.0 r.1 at alive pass spot p found is,
        (
          (refl, refl, refl, refl),
          refl,
          record {
            most = (let most = front-most b r.1.sound r.0 p in omega arith);
            known = λ i below knows. (let past = known-front b listed s.words s.views r.0 by me.0 r.1 at alive p i partition below knows in omega arith);
            done = λ i known. (let past = done-front b listed s.words s.views r.0 by me.0 r.1 at alive p i partition known in omega arith);
          },
        ),
      )

  -- a reference
  pub reference_reads : (i k : ℕ) → i < b.size → k < length (reference_words b i) → KnowsFront me.0 (partition_at b i k) i
      → Allows Rule slots by me (position b (reference_word i k)) (λ n. n) (reads (reference_at b i k) me)
  reference_reads i k below within knows s r _ at _ =
      let sound = r.1.sound in
      let partition : partition_at b i k < b.partitions = sound.within i k (let same = sound.same_length i in omega arith) in
      let past = known-front b listed s.words s.views r.0 by me.0 r.1 at alive (partition_at b i k) i partition below knows in (
        me.0,
        keeps,
        tt,
        read_same b listed s.words s.views r.0 by me.0 r.1 at alive pass (position b (reference_word i k)),
        (refl, r.1.shows.at (reference_word i k) (below, within) past ∙ placed-reference b sound r.0 i k below within past),
      )

  -- a front, after which all is known to be placed
  pub settles : (p last : ℕ) → last + 1 ≡ b.size → KnowsPast b me.0 last
      → Allows Rule slots by me (position b (front_word p)) (λ n. n) (goes_to (with_all_placed me.0) me)
  settles p last size past s r _ at _ =
      (with_all_placed me.0, keeps, tt, read_placed b listed s.words s.views r.0 by me.0 r.1 at alive pass (position b (front_word p)) last size past, refl)
