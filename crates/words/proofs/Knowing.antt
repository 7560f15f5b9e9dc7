-- What the rule says of the state after the words, as one pass sees it.
use Rattle.std.proofs.Common.{◌≡◌, ◌≢◌, ◌⊎◌, ℕ, zero, suc, ◌+◌, ◌<◌, ◌≤◌, Bool, true, false, true≢false, List, [], ◌∷◌, length, get_or, set, refl, sym, ap, ◌∙◌, subst, inl, inr, ⊎_elim, arith, eq-eqb}
use Rattle.std.specs.Prelude.{Option, Some, None}
use Rattle.std.specs.List.{list_all}
use Rattle.std.proofs.lemmas.Bool.{cases_eq}
use Rattle.std.proofs.lemmas.List.{append-nil, set-get_or}
use mathlib.Core.Option.{some}
use lib.ListN.{get_elem?}
use Rattle.model_base.specs.Records.{end_below}
use Rattle.bohm_core_base.specs.declared.event.Event.{Event}
use Rattle.bohm_core_base.specs.declared.hold.Hold.TheVariants.{Free, Held, Done}
use Rattle.bohm_core_base.specs.Batch.{Batch, batch_slots, is_listed, place_has_deed_on, reference_words, table_at}
use Rattle.bohm_core_base.specs.Serial.{whole_end}
use Rattle.bohm_core_base.specs.Laws.{HasReferences, ShowsSerial}
use Rattle.bohm_core_base.specs.Machine.{State, all_past, all_ready, end_of, front_of, hold_of, is_done, is_held_by, is_ready, own_of, reach}
use Rattle.bohm_core_base.proofs.Reach.{done-right, ends-right, has-references, reach-keeps, shown-serial}
use Rattle.bohm_core_base.proofs.Kept.{rests}
use Rattle.bohm_core_base.proofs.Steps.{done-is}
use Rattle.bohm_core_base.proofs.View.{deeds-done, end-seen, rests-tables, table-ready}
use Rattle.words.specs.declared.knowledge.Knowledge.{Knowledge}
use Rattle.words.specs.Layout.{optional_in, optional_word}
use Rattle.words.specs.Legal.{Fits, IsFrontSighted, IsSighted, Lawful, legal}
use Rattle.words.specs.Meanings.{EndMeans, FoundHeld}
use Rattle.words.specs.Views.{Holds, In, IsSettled, KnowsFront, KnowsPast, KnowsReferences, track, with_all_placed, with_front, with_known, with_sighting}
use Rattle.words.proofs.Members.{by-none, in_cases, in_one}
use Rattle.words.proofs.Past.{front-most, past-all, past-each}
use Rattle.words.proofs.Reached.{serial-ends-from}
use Rattle.words.proofs.Tracking.{TracksIn, some-of-own, tracked}
use Rattle.words.proofs.Keeping.{GoesOn, goes-on, no_event}
use Rattle.model_base.proofs.Replay.{by_cases}
use Rattle.model_base.proofs.Covered.{contrary}

-- all pass where each does
pub all-in : {A : Type 0} (test : A → Bool) (l : List A) → ((x : A) → In x l → test x ≡ true) → list_all test l ≡ true
all-in test [] each = refl
all-in test (x ∷ l) each = rw (each x (inl refl)) (all-in test l (λ y h. each y (inr h)))

-- what may be missing is given by its word, and each word by what it gives
pub optional_in-optional_word : (number : Option ℕ) → optional_in (optional_word number) ≡ number
optional_in-optional_word None = refl
optional_in-optional_word (Some number) = refl

pub knows_more : (b : Batch) (es : List Event) (by : ℕ) (v : Knowledge) (i : ℕ) → Fits b es by v → hold_of (reach b es) i ≡ Done → Fits b es by (with_known v i)
knows_more b es by v i f q = record {
  own = f.own;
  taken = f.taken;
  knows = λ j h. ⊎_elim (λ old. f.knows j old) (λ new. rw (in_one j i new) q) (in_cases j v.known (i ∷ []) h);
  saw = f.saw;
  alone = f.alone;
  fronts = f.fronts;
  saw_fronts = f.saw_fronts;
  placed = f.placed;
  uncut = f.uncut;
  places = f.places;
}

module _ (b : Batch) (listed words : List ℕ) (views : List Knowledge) (es : List Event) (by : ℕ) (v : Knowledge) (law : Lawful b listed words views es) (at : get_elem? views by ≡ some v) (alive : v.spent ≡ false) where
  abbrev pub now : State
  now = reach b es

  mine : Fits b es by v
  mine = law.fits by v at

  -- what its own events say of a place
  own_track : (i : ℕ) → TracksIn b now by i (track i None v.events)
  own_track i = subst (λ l. TracksIn b now by i (track i None l)) (mine.own alive) (tracked b law.sound es by i law.works)

  pub held_from : (i m : ℕ) (js : List ℕ) → Holds v i m js → TracksIn b now by i (Some (m, js))
  held_from i m js holds = subst (λ t. TracksIn b now by i t) holds (own_track i)

  -- a place that it holds has all its references
  pub held-past : (i m : ℕ) (js : List ℕ) → Holds v i m js → HasReferences b now i
  held-past i m js holds =
      let t = held_from i m js holds in
      has-references b law.sound es i (λ free. absurd (let both : Held by ≡ Free = sym t.0 ∙ free in cc))

  -- a place that it knows done is done
  pub known-done : (i : ℕ) → In i v.known → hold_of now i ≡ Done
  known-done i known = mine.knows i known

  -- a front that it knows past a place is past it
  pub known-front : (p i : ℕ) → p < b.partitions → i < b.size → KnowsFront v p i → i < front_of now p
  known-front p i partition below knows = ⊎_elim
      (λ all. let is = mine.placed all p partition in omega arith)
      (λ (t : (count : ℕ) × In (p, count) v.fronts × (i < count)). let least = mine.fronts p t.0 t.1 in let less = t.2 in omega arith)
      knows

  -- and past one that it knows done
  pub done-front : (p i : ℕ) → p < b.partitions → In i v.known → i < front_of now p
  done-front p i partition known =
      let has = has-references b law.sound es i (λ free. absurd (let both : Done ≡ Free = sym (mine.knows i known) ∙ free in cc)) in
      past-each b law.sound es i p has.placed partition

  pub known-past : (i : ℕ) → i < b.size → KnowsPast b v i → all_past now i ≡ true
  known-past i below knows = past-all b law.sound es i (λ p partition. known-front p i partition below (knows p partition))

  -- the places that a place refers to are done where it knows them
  each-ready : (i word : ℕ) → KnowsReferences b v i → In word (reference_words b i) → is_ready now word ≡ true
  each-ready i zero knows has = refl
  each-ready i (suc j) knows has = rw (mine.knows j (knows j has)) refl

  pub known-rests : (i : ℕ) → KnowsReferences b v i → rests b now i ≡ true
  known-rests i knows = all-in (is_ready now) (reference_words b i) (λ word has. each-ready i word knows has)

  pub known-ready : (i m : ℕ) (js : List ℕ) → Holds v i m js → KnowsReferences b v i → all_ready now i ≡ true
  known-ready i m js holds knows = rw ((held-past i m js holds).references) (known-rests i knows)

  -- so what it is shown is what the serial run shows it
  pub known-shown : (i m : ℕ) (js : List ℕ) → Holds v i m js → KnowsReferences b v i → ShowsSerial b now i
  known-shown i m js holds knows =
      let has = held-past i m js holds in
      shown-serial b law.sound es i has.within has.placed (known-ready i m js holds knows)

  -- and all deeds on its tables before it are done
  deeds-before : (i t : ℕ) → KnowsReferences b v i → is_listed (b.tables i) t ≡ true → (j : ℕ) → j < i → place_has_deed_on b j t ≡ true → is_done (hold_of now j) ≡ true
  deeds-before i t knows listed =
      let kept = reach-keeps b law.sound es in
      deeds-done b law.sound now kept i t (table-ready b law.sound now kept i t (b.tables i) (rests-tables b law.sound now kept i (known-rests i knows)) listed)

  pub settled-done : (i : ℕ) → IsSettled b v i → hold_of now i ≡ Done
  settled-done i settled =
      done-is (hold_of now i) (deeds-before settled.0 settled.1 settled.4 settled.5 i settled.2 settled.6)

  -- what an end says
  pub tells-end : (slot word : ℕ) → slot < length (batch_slots b) → word ≡ optional_word (end_of now slot) → EndMeans b slot v (optional_in word)
  tells-end slot word within is = record {
    none_or = by_end (end_of now slot) refl;
    ended = λ i whole known.
        given ∙ (done-right b law.sound es i (mine.knows i known)).ends slot within (serial-ends-from b i slot (b.first + i) whole refl);
    below = λ i below knows named.
        ap (λ e. end_below (b.first + i) e) given
        ∙ end-seen b law.sound now (reach-keeps b law.sound es) i slot within (deeds-before i (table_at b slot) knows named);
  }
    where
      given : optional_in word ≡ end_of now slot
      given = ap optional_in is ∙ optional_in-optional_word (end_of now slot)

      by_end : (end : Option ℕ) → end_of now slot ≡ end → (optional_in word ≡ None) ⊎ ((place : ℕ) × (optional_in word ≡ Some place) × (whole_end b slot ≡ Some place))
      by_end None set = inl (given ∙ set)
      by_end (Some q) set = inr (q, given ∙ set, ends-right b law.sound es slot q set)

  -- the word i is only read
  abbrev pub Read : ℕ → Knowledge → Type 0
  Read i w = legal b listed (set words i (get_or words i 0)) (set views by w)

  quiet : (i : ℕ) (w : Knowledge) → Fits b es by w → GoesOn v w → w.placer ≡ false → Read i w
  quiet i w fit on pass = (es, subst (λ (l : List ℕ). Lawful b listed l (set views by w) es) (sym (set-get_or words i 0)) (no_event b listed words views es by v w law at alive fit on pass))

  module _ (pass : v.placer ≡ false) where
    pub read_same : (i : ℕ) → Read i v
    read_same i = quiet i v mine (goes-on v alive) pass

    pub read_done : (i j : ℕ) → hold_of now j ≡ Done → Read i (with_known v j)
    read_done i j d = quiet i (with_known v j) (knows_more b es by v j mine d) (goes-on v alive) pass

    -- a front is found
    pub read_front : (i p found : ℕ) → front_of now p ≡ found → Read i (with_front v p found)
    read_front i p found is = quiet i (with_front v p found) record {
      own = mine.own;
      taken = mine.taken;
      knows = mine.knows;
      saw = mine.saw;
      alone = mine.alone;
      fronts = λ q n h. ⊎_elim (λ old. mine.fronts q n old)
          (λ new. subst (λ (z : ℕ × ℕ). z.1 ≤ front_of now z.0) (sym (in_one (q, n) (p, found) new)) (omega arith))
          (in_cases (q, n) v.fronts ((p, found) ∷ []) h);
      saw_fronts = λ q n c h. ⊎_elim (λ old. mine.saw_fronts q n c old)
          (λ new. subst (λ (z : ℕ × ℕ × ℕ). IsFrontSighted b es by z.0 z.1 z.2) (sym (in_one (q, n, c) (p, found, length v.events) new))
          (es, [], sym (append-nil es), ap length (mine.own alive), is))
          (in_cases (q, n, c) v.front_sightings ((p, found, length v.events) ∷ []) h);
      placed = mine.placed;
      uncut = mine.uncut;
      places = mine.places;
    } (goes-on v alive) pass

    -- all is placed
    pub read_placed : (i last : ℕ) → last + 1 ≡ b.size → KnowsPast b v last → Read i (with_all_placed v)
    read_placed i last size past = quiet i (with_all_placed v) record {
      own = mine.own;
      taken = mine.taken;
      knows = mine.knows;
      saw = mine.saw;
      alone = mine.alone;
      fronts = mine.fronts;
      saw_fronts = mine.saw_fronts;
      placed = λ _ p partition.
          (let less = known-front p last partition (omega arith) (past p partition) in let most = front-most b law.sound es p in omega arith);
      uncut = λ _ no. absurd (true≢false no);
      places = mine.places;
    } (refl, alive, refl, refl, refl, refl, λ no. absurd (true≢false no)) pass

    read_sighting : (i j c : ℕ) → hold_of now j ≡ Held c → c ≢ by → Read i (with_sighting v j)
    read_sighting i j c h ne = quiet i (with_sighting v j) record {
      own = mine.own;
      taken = mine.taken;
      knows = mine.knows;
      saw = λ x n q. ⊎_elim (λ old. mine.saw x n old)
          (λ new. subst (λ (z : ℕ × ℕ). IsSighted b es by z.0 z.1) (sym (in_one (x, n) (j, length v.events) new))
          (es, [], sym (append-nil es), ap length (mine.own alive), (c, h, ne)))
          (in_cases (x, n) v.sightings ((j, length v.events) ∷ []) q);
      alone = mine.alone;
      fronts = mine.fronts;
      saw_fronts = mine.saw_fronts;
      placed = mine.placed;
      uncut = mine.uncut;
      places = mine.places;
    } (goes-on v alive) pass

    -- a sole pass finds no place held by another
    not_sole : (j c : ℕ) → hold_of now j ≡ Held c → c ≢ by → v.sole ≡ false
    not_sole j c h ne =
        by_cases v.sole
        (λ one.
        let none = by-none c es (λ e k q. ne (mine.alone one e c k q)) in
        let other : is_held_by c (hold_of now j) ≡ false = subst (λ l. TracksIn b now c j (track j None l)) none (tracked b law.sound es c j law.works) in
        contrary (is_held_by c (hold_of now j)) (rw h (eq-eqb c c refl)) other)
        (λ no. no)

    -- a read that finds the place j held
    pub read_held : (i j c : ℕ) → hold_of now j ≡ Held c → (w : Knowledge) × (w.spent ≡ false) × (w.placer ≡ false) × (w.placed ≡ v.placed) × Read i w × FoundHeld j v w
    read_held i j c h =
        elim (cases_eq c by) [
          | inl same ↦
              let has = some-of-own by (b.first + j) (hold_of now j) (own_of now j) (λ slot. end_of now slot) (track j None v.events) (own_track j) (rw h (eq-eqb c by same)) in
              (v, alive, pass, refl, read_same i, inl (refl, (has.0.0, has.0.1, has.1)))
          | inr ne ↦ (with_sighting v j, alive, pass, refl, read_sighting i j c h ne, inr (refl, not_sole j c h ne))
        ]
