-- What a pass's own events say that it holds is what the state says.
use Rattle.std.proofs.Common.{◌≡◌, ◌≢◌, ℕ, ◌+◌, ◌<◌, Bool, true, false, List, [], ◌∷◌, ◌++◌, length, get_or, set, refl, sym, ap, ◌∙◌, arith, eq-eqb, inl, inr, ⊎_elim, get_or-set_same}
use Rattle.std.specs.Prelude.{if◌then◌else◌, ◌==◌, nat_lt, is_none, Option, Some, None}
use Rattle.std.proofs.lemmas.Bool.{and_parts, eqb-true, eqb-false, ltb-true, cases_eq, ne_eqb}
use Rattle.std.proofs.lemmas.List.{get_or-set_other, length_push}
use Rattle.bohm_core_base.specs.declared.event.Event.{Event}
use Rattle.bohm_core_base.specs.declared.event.Event.TheVariants.{Place, Claim, Fill, End, Finish, GiveBack}
use Rattle.bohm_core_base.specs.declared.hold.Hold.{Hold}
use Rattle.bohm_core_base.specs.declared.hold.Hold.TheVariants.{Free, Held, Done}
use Rattle.bohm_core_base.specs.Batch.{Batch, IsSoundBatch}
use Rattle.bohm_core_base.specs.Machine.{State, all_past, all_ready, all_filled, change, effect, end_of, guard, hold_of, is_free, is_held_by, must_end, next_word, own_of, reach, run_from, start}
use Rattle.words.specs.Legal.{IsEffective, events_by, is_event_of}
use Rattle.words.specs.Views.{In, Stored, is_event_at, one_end, one_more, track, turn}
use Rattle.words.proofs.Members.{in_cases, in_front, in_back, in_one, replicate-same}
use Rattle.words.proofs.Reached.{IsReached, blank-ends, blank-words, free-is, held-not_free, held-within, reached-effect, reached-start, sizes}
use Rattle.model_base.proofs.Replay.{by_cases}
use Rattle.model_base.proofs.Covered.{contrary}

-- what stands of a place, if the actor holds it
abbrev pub Tracks : ℕ → ℕ → Hold → List ℕ → (ℕ → Option ℕ) → Stored → Type 0
Tracks actor place hold own ends None = is_held_by actor hold ≡ false
Tracks actor place hold own ends (Some stored) =
    (hold ≡ Held actor) × (length own ≡ stored.0)
    × ((slot : ℕ) → ends slot ≡ Some place → In slot stored.1)
    × ((slot : ℕ) → In slot stored.1 → ends slot ≡ Some place)

abbrev pub TracksIn : Batch → State → ℕ → ℕ → Stored → Type 0
TracksIn b s actor n stored = Tracks actor (b.first + n) (hold_of s n) (own_of s n) (λ slot. end_of s slot) stored

-- only an actor that holds the place has it in its list
none-of-other : (a b place : ℕ) (hold : Hold) (own : List ℕ) (ends : ℕ → Option ℕ) (t : Stored) → Tracks a place hold own ends t → hold ≡ Held b → b ≢ a → t ≡ None
none-of-other a b place hold own ends None tracks held other = refl
none-of-other a b place hold own ends (Some stored) tracks held other = absurd (other (let same : Held a ≡ Held b = sym tracks.0 ∙ held in cc))

none-of-free : (a place : ℕ) (hold : Hold) (own : List ℕ) (ends : ℕ → Option ℕ) (t : Stored) → Tracks a place hold own ends t → is_free hold ≡ true → t ≡ None
none-of-free a place hold own ends None tracks free = refl
none-of-free a place hold own ends (Some stored) tracks free = absurd (let is = tracks.0 in let no : is_free hold ≡ false = rw is refl in cc)

-- it has a place that it holds
pub some-of-own : (a place : ℕ) (hold : Hold) (own : List ℕ) (ends : ℕ → Option ℕ) (t : Stored) → Tracks a place hold own ends t → is_held_by a hold ≡ true
    → (stored : ℕ × List ℕ) × (t ≡ Some stored) × Tracks a place hold own ends (Some stored)
some-of-own a place hold own ends None tracks held = absurd (cc)
some-of-own a place hold own ends (Some stored) tracks held = (stored, refl, tracks)

its-own : (a : ℕ) (hold : Hold) → is_held_by a hold ≡ true → hold ≡ Held a
its-own a Free held = cc
its-own a (Held b) held = ap Held (eqb-true b a held)
its-own a Done held = cc

-- an event of an actor that holds the place, after which the place has this hold, own words and ends
turned : (a c place : ℕ) (e : Event) (hold hold' : Hold) (own own' : List ℕ) (ends ends' : ℕ → Option ℕ) (t : Stored) (by : Bool)
    → is_held_by c hold ≡ true → (c == a) ≡ by
    → Tracks a place hold own ends t
    → ((stored : ℕ × List ℕ) → Tracks a place hold own ends (Some stored) → Tracks a place hold' own' ends' (turn (Some stored) e))
    → (c ≢ a → is_held_by a hold' ≡ false)
    → Tracks a place hold' own' ends' (if by then turn t e else t)
turned a c place e hold hold' own own' ends ends' t true held by tracks own-turn other =
    let same : c ≡ a = eqb-true c a by in
    let has = some-of-own a place hold own ends t tracks (rw same at held) in
    rw has.1 (own-turn has.0 has.2)
turned a c place e hold hold' own own' ends ends' t false held by tracks own-turn other =
    let differ : c ≢ a = eqb-false c a by in
    rw (none-of-other a c place hold own ends t tracks (its-own c hold held) differ) (other differ)

same-if : {A : Type 0} (x : Bool) (t : A) → (if x then t else t) ≡ t
same-if true t = refl
same-if false t = refl

-- an event about one place counts for that place alone
about : (P : Stored → Type 0) (x : Bool) (n i : ℕ) (u t : Stored) → (i ≡ n → P (if x then u else t)) → (i ≢ n → P t)
    → P (if x then (if n == i then u else t) else t)
about P x n i u t here away =
    elim (cases_eq i n) [
      | inl same ↦ rw (eq-eqb n i (sym same)) (here same)
      | inr differ ↦ rw (ne_eqb n i (λ is. differ (sym is)), same-if x t) (away differ)
    ]

module _ (b : Batch) (sound : IsSoundBatch b) where
  holder-within : (s : State) (c n : ℕ) → IsReached b s → is_held_by c (hold_of s n) ≡ true → n < b.size
  holder-within s c n leads held = held-within b sound s leads n (held-not_free c (hold_of s n) held)

  -- where a place changes hands, the holder gives it up, and nobody else's place changes
  gives-up : (s : State) (e : Event) (c n a i : ℕ) (hold : Hold) (t : Stored) → IsReached b s → is_held_by c (hold_of s n) ≡ true
      → ((x : ℕ) → is_held_by x hold ≡ false) → ((stored : ℕ × List ℕ) → turn (Some stored) e ≡ None)
      → TracksIn b s a i t
      → Tracks a (b.first + i) (get_or (set s.holds n hold) i Free) (own_of s i) (λ slot. end_of s slot)
      (if c == a then (if n == i then turn t e else t) else t)
  gives-up s e c n a i hold t leads held nobody ends tracks =
      let within : n < length s.holds = (let size = holder-within s c n leads held in let len = (sizes b sound s leads).holds in omega arith) in
      about (Tracks a (b.first + i) (get_or (set s.holds n hold) i Free) (own_of s i) (λ slot. end_of s slot)) (c == a) n i (turn t e) t
      (λ same.
      let at : get_or (set s.holds n hold) i Free ≡ hold = rw same (get_or-set_same s.holds n hold Free within) in
      rw at
      (turned a c (b.first + i) e (hold_of s i) hold (own_of s i) (own_of s i) (λ slot. end_of s slot) (λ slot. end_of s slot) t (c == a)
      (rw same held) refl tracks (λ stored had. rw (ends stored) (nobody a)) (λ other. nobody a)))
      (λ differ. rw (get_or-set_other s.holds n i hold Free differ) tracks)

  -- an event that may happen changes what it says
  tracks-step : (s : State) (e : Event) (a i : ℕ) (t : Stored) → IsReached b s → guard b s e ≡ true → TracksIn b s a i t
      → TracksIn b (change b s e) a i (if is_event_of a e then (if is_event_at i e then turn t e else t) else t)
  tracks-step s (Place p) a i t leads may tracks = tracks
  tracks-step s (Finish c n) a i t leads may tracks =
      gives-up s (Finish c n) c n a i Done t leads (and_parts (is_held_by c (hold_of s n)) _ may).0 (λ x. refl) (λ stored. refl) tracks
  tracks-step s (GiveBack c n) a i t leads may tracks =
      gives-up s (GiveBack c n) c n a i Free t leads (and_parts (is_held_by c (hold_of s n)) _ may).0 (λ x. refl) (λ stored. refl) tracks
  tracks-step s (Claim c n) a i t leads may tracks =
      let free = and_parts (is_free (hold_of s n)) _ may in
      let within : n < length s.holds = ltb-true n (length s.holds) (and_parts (nat_lt n (length s.holds)) (all_past s n) free.1).0 in
      about (Tracks a (b.first + i) (get_or (set s.holds n (Held c)) i Free) (own_of s i) (λ slot. end_of s slot)) (c == a) n i (Some (0, [])) t
      (λ same.
      let at : get_or (set s.holds n (Held c)) i Free ≡ Held c = rw same (get_or-set_same s.holds n (Held c) Free within) in
      let was : is_free (hold_of s i) ≡ true = rw same free.0 in
      rw (at, none-of-free a (b.first + i) (hold_of s i) (own_of s i) (λ slot. end_of s slot) t tracks was)
      (elim (cases_eq c a) [
        | inl mine ↦
            rw (eq-eqb c a mine)
            (ap Held mine, blank-words b sound s leads i (free-is (hold_of s i) was), (λ slot set. absurd (blank-ends b sound s leads i slot (free-is (hold_of s i) was) set)), (λ slot no. absurd no))
        | inr other ↦ rw (ne_eqb c a other) (ne_eqb c a other)
      ]))
      (λ differ. rw (get_or-set_other s.holds n i (Held c) Free differ) tracks)
  tracks-step s (Fill c n) a i t leads may tracks =
      let held = (and_parts (is_held_by c (hold_of s n)) _ may).0 in
      let within : n < length s.own = (let size = holder-within s c n leads held in let len = (sizes b sound s leads).own in omega arith) in
      let more = own_of s n ++ next_word b s n ∷ [] in
      about (Tracks a (b.first + i) (hold_of s i) (get_or (set s.own n more) i []) (λ slot. end_of s slot)) (c == a) n i (one_more t) t
      (λ same.
      let at : get_or (set s.own n more) i [] ≡ own_of s i ++ next_word b s n ∷ [] = rw same (get_or-set_same s.own n more [] within) in
      rw at
      (turned a c (b.first + i) (Fill c n) (hold_of s i) (hold_of s i) (own_of s i) (own_of s i ++ next_word b s n ∷ []) (λ slot. end_of s slot) (λ slot. end_of s slot) t (c == a)
      (rw same held) refl tracks
      (λ stored had. (had.0, (let one = length_push (own_of s i) (next_word b s n) in let so = had.1 in omega arith), had.2, had.3))
      (λ other. let is = its-own c (hold_of s i) (rw same held) in rw is (ne_eqb c a other))))
      (λ differ. rw (get_or-set_other s.own n i more [] differ) tracks)
  tracks-step s (End c n j) a i t leads may tracks =
      let held = and_parts (is_held_by c (hold_of s n)) _ may in
      let ready = and_parts (all_ready s n) _ held.1 in
      let full = and_parts (all_filled b s n) _ ready.1 in
      let slot = and_parts (nat_lt j (length s.ends)) _ full.1 in
      let must = and_parts (must_end b s n j) (is_none (end_of s j)) slot.1 in
      let within : j < length s.ends = ltb-true j (length s.ends) slot.0 in
      about (Tracks a (b.first + i) (hold_of s i) (own_of s i) (λ k. get_or (set s.ends j (Some (b.first + n))) k None)) (c == a) n i (one_end j t) t
      (λ same.
      turned a c (b.first + i) (End c n j) (hold_of s i) (hold_of s i) (own_of s i) (own_of s i) (λ k. end_of s k) (λ k. get_or (set s.ends j (Some (b.first + n))) k None) t (c == a)
      (rw same held.0) refl tracks
      (λ stored had. (
        had.0,
        had.1,
        (λ k set. elim (cases_eq k j) [
          | inl here ↦ in_back k stored.1 (j ∷ []) (inl here)
          | inr there ↦ in_front k stored.1 (j ∷ []) (had.2 k (sym (get_or-set_other s.ends j k (Some (b.first + n)) None there) ∙ set))
        ]),
        (λ k old. elim (cases_eq k j) [
          | inl here ↦ rw here (get_or-set_same s.ends j (Some (b.first + n)) None within ∙ ap (λ (m : ℕ). let end : Option ℕ = Some (b.first + m) in end) (sym same))
          | inr there ↦
              get_or-set_other s.ends j k (Some (b.first + n)) None there
              ∙ had.3 k (⊎_elim (λ before. before) (λ new. absurd (there (in_one k j new))) (in_cases k stored.1 (j ∷ []) old))
        ]),
      ))
      (λ other. let is = its-own c (hold_of s i) (rw same held.0) in rw is (ne_eqb c a other)))
      (λ differ. elsewhere s j n a i t within must.1 differ tracks)
    where
      elsewhere : (s : State) (j n a i : ℕ) (t : Stored) → j < length s.ends → is_none (end_of s j) ≡ true → i ≢ n → TracksIn b s a i t
          → Tracks a (b.first + i) (hold_of s i) (own_of s i) (λ k. get_or (set s.ends j (Some (b.first + n))) k None) t
      elsewhere s j n a i None within none differ tracks = tracks
      elsewhere s j n a i (Some stored) within none differ tracks = (
        tracks.0,
        tracks.1,
        (λ k set. elim (cases_eq k j) [
          | inl here ↦
              let at = rw here at set in
              let is : b.first + n ≡ b.first + i = (let both = sym (get_or-set_same s.ends j (Some (b.first + n)) None within) ∙ at in cc) in
              absurd (differ (omega arith))
          | inr there ↦ tracks.2 k (sym (get_or-set_other s.ends j k (Some (b.first + n)) None there) ∙ set)
        ]),
        (λ k old. elim (cases_eq k j) [
          | inl here ↦ (let set = tracks.3 k old in let at = rw here at set in contrary (is_none (end_of s j)) none (rw at refl))
          | inr there ↦ get_or-set_other s.ends j k (Some (b.first + n)) None there ∙ tracks.3 k old
        ]),
      )

  -- so do events that may happen, each where it happens, of which only the actor's count
  tracks : (es : List Event) (s : State) (a i : ℕ) (t : Stored) → IsReached b s → IsEffective b s es → TracksIn b s a i t
      → TracksIn b (run_from b s es) a i (track i t (events_by a es))
  tracks [] s a i t leads works so = so
  tracks (e ∷ es) s a i t leads works so =
      let step = tracks-step s e a i t leads works.0 so in
      let is : effect b s e ≡ change b s e = rw (works.0) refl in
      let after : TracksIn b (effect b s e) a i (if is_event_of a e then (if is_event_at i e then turn t e else t) else t) = rw is step in
      by_cases (is_event_of a e)
      (λ by.
      rw by
      (tracks es (effect b s e) a i (if is_event_at i e then turn t e else t) (reached-effect b s e leads) works.1 (rw by at after)))
      (λ no. rw no (tracks es (effect b s e) a i t (reached-effect b s e leads) works.1 (rw no at after)))

  -- a pass's own events tell what it holds
  pub tracked : (es : List Event) (a i : ℕ) → IsEffective b (start b) es → TracksIn b (reach b es) a i (track i None (events_by a es))
  tracked es a i works = tracks es (start b) a i None (reached-start b) works (rw (replicate-same b.size i Free) refl)
