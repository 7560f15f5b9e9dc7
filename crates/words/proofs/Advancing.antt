-- What a placer stores keeps the rule.
use Rattle.std.proofs.Common.{◌≡◌, ◌≢◌, ℕ, suc, ◌<◌, true, false, List, [], ◌∷◌, ◌++◌, length, get_or, set, refl, sym, ap, ◌∙◌, subst, inl, inr, ⊎_elim, arith, eq-eqb, get_or-set_same}
use Rattle.std.specs.Prelude.{None, Some, nat_lt}
use Rattle.std.proofs.lemmas.Bool.{and_from, cases_eq, cases_lt, lt-ltb}
use Rattle.std.proofs.lemmas.List.{append-nil, get_or-set_other}
use mathlib.Core.Option.{some}
use lib.ListN.{get_elem?}
use Rattle.atomic_table.specs.Table.{State as Table, Me, keeps, Allows}
use Rattle.bohm_core_base.specs.declared.event.Event.{Event}
use Rattle.bohm_core_base.specs.declared.event.Event.TheVariants.{Place}
use Rattle.bohm_core_base.specs.Batch.{Batch, reference_words}
use Rattle.bohm_core_base.specs.Laws.{actor_of}
use Rattle.bohm_core_base.specs.Machine.{State, change, front_of, guard, reach}
use Rattle.words.specs.declared.knowledge.Knowledge.{Knowledge}
use Rattle.words.specs.Layout.{Counts, Has, Meaning, claim_word, own_word, reference_word, front_word, end_word, partition_at, position, reference_at, shown, ShowsState}
use Rattle.words.specs.Legal.{Fits, Lawful, IsStored, events_by, legal, placings_in}
use Rattle.words.specs.Meanings.{StoredAll}
use Rattle.words.specs.Views.{In, front_in, with_placing, with_stored}
use Rattle.words.proofs.Plays.{goes_to}
use Rattle.words.proofs.Members.{by-append, in_cases, in_one, placings-append}
use Rattle.words.proofs.Past.{front-is, placed-reference}
use Rattle.words.proofs.Stepping.{has-all, reached-more, works-more}
use Rattle.words.proofs.Showing.{position-below, references-stay, shows-set, stands-set}
use Rattle.words.proofs.Keeping.{IsMade, changes, front_on, goes-on, knows_on, of_other, placed_by_other, placed_on, saw_front_on, saw_on}

module _ (b : Batch) (listed words : List ℕ) (views : List Knowledge) (es : List Event) (by : ℕ) (v : Knowledge) (law : Lawful b listed words views es) (at : get_elem? views by ≡ some v) (alive : v.spent ≡ false) (places : v.placer ≡ true) where
  abbrev here : State
  here = reach b es

  mine : Fits b es by v
  mine = law.fits by v at

  -- its front
  its-front : front_of here v.partition ≡ front_in v
  its-front = front-is b law.sound es v.partition law.works ∙ ap (λ (l : List Event). length l) (mine.places places).1

  module _ (below : front_in v < b.size) where
    -- it stores a reference of the place that it places next
    module _ (k word : ℕ) (within : k < length (reference_words b (front_in v))) (own : partition_at b (front_in v) k ≡ v.partition) (right : word ≡ reference_at b (front_in v) k) where
      abbrev spot : ℕ
      spot = position b (reference_word (front_in v) k)

      shows_stored : ShowsState b listed (set words spot word) here
      shows_stored =
          shows-set b listed words here (reference_word (front_in v) k) word law.shows.wide (below, within)
          (λ counts. absurd (let past : front_in v < front_of here v.partition = subst (λ (p : ℕ). front_in v < front_of here p) own counts in let is = its-front in omega arith))
          (λ o has counts differ. law.shows.at o has counts)

      fits_stored : Fits b es by (with_stored v k)
      fits_stored = record {
        own = mine.own;
        taken = mine.taken;
        knows = mine.knows;
        saw = mine.saw;
        alone = mine.alone;
        fronts = mine.fronts;
        saw_fronts = mine.saw_fronts;
        placed = mine.placed;
        uncut = mine.uncut;
        places = mine.places;
      }

      stays_standing : (p j q : ℕ) → IsStored b words p j q → IsStored b (set words spot word) p j q
      stays_standing p j q stands = stands-set b listed words (front_in v) k word p j q law.shows.wide (below, within) right stands

      new_stands : IsStored b (set words spot word) v.partition (front_in v) k
      new_stands =
          let low : spot < length words = (let room = position-below b listed (reference_word (front_in v) k) (below, within) in let wide = law.shows.wide in omega arith) in
          (below, within, own, get_or-set_same words spot word 0 low ∙ right)

      pub stored_law : Lawful b listed (set words spot word) (set views by (with_stored v k)) es
      stored_law =
          changes b law.sound listed es es [] (sym (append-nil es)) by v (λ e h. absurd h) words (set words spot word) views law at alive (with_stored v k)
          law.works shows_stored fits_stored (goes-on v alive)
          (λ j u ne h is r has. stays_standing u.partition (front_in u) r (law.stands j u h is r has))
          (λ is r has. ⊎_elim
          (λ old. stays_standing v.partition (front_in v) r (law.stands by v at places r old))
          (λ new. subst (λ (q : ℕ). IsStored b (set words spot word) v.partition (front_in v) q) (sym (in_one r k new)) new_stands)
          (in_cases r v.stored (k ∷ []) has))

    -- it places that place
    module _ (all : StoredAll b v) where
      abbrev place : Event
      place = Place v.partition

      abbrev es' : List Event
      es' = es ++ place ∷ []

      may-place : guard b here place ≡ true
      may-place =
          let sizes = has-all b law.sound es in
          let low = (mine.places places).0 in
          let is = its-front in
          and_from (nat_lt v.partition (length here.fronts)) _
          (lt-ltb v.partition (length here.fronts) (let len = sizes.fronts in omega arith))
          (lt-ltb (front_of here v.partition) (length here.references) (let len = sizes.references in omega arith))

      abbrev after : State
      after = change b here place

      then_state : reach b es' ≡ after
      then_state = reached-more b law.sound es (place ∷ []) ∙ rw may-place refl

      partition-within : v.partition < length here.fronts
      partition-within = let low = (mine.places places).0 in let len = (has-all b law.sound es).fronts in omega arith

      next-front : front_of after v.partition ≡ suc (front_in v)
      next-front = get_or-set_same here.fronts v.partition (suc (front_of here v.partition)) 0 partition-within ∙ ap suc its-front

      other-front : (p : ℕ) → p ≢ v.partition → front_of after p ≡ front_of here p
      other-front p ne = get_or-set_other here.fronts v.partition p (suc (front_of here v.partition)) 0 ne

      -- a reference that counts from now on stood already
      reference-shows : (j k : ℕ) → j < b.size → k < length (reference_words b j) → j < front_of after (partition_at b j k)
          → get_or words (position b (reference_word j k)) 0 ≡ reference_at b j k
      reference-shows j k low within counts =
          elim (cases_lt j (front_of here (partition_at b j k))) [
            | inl past ↦ law.shows.at (reference_word j k) (low, within) past ∙ placed-reference b law.sound es j k low within past
            | inr not_past ↦
                elim (cases_eq (partition_at b j k) v.partition) [
                  | inr other ↦ absurd (let is = other-front (partition_at b j k) other in omega arith)
                  | inl same ↦
                      let was : front_of here (partition_at b j k) ≡ front_in v = ap (front_of here) same ∙ its-front in
                      let is : front_of after (partition_at b j k) ≡ suc (front_in v) = ap (front_of after) same ∙ next-front in
                      let next : j ≡ front_in v = omega arith in
                      let stored = all k (subst (λ (i : ℕ). k < length (reference_words b i)) next within) (subst (λ (i : ℕ). partition_at b i k ≡ v.partition) next same) in
                      let stands = law.stands by v at places k stored in
                      subst (λ (i : ℕ). get_or words (position b (reference_word i k)) 0 ≡ reference_at b i k) (sym next) stands.3
                ]
          ]

      -- and what it shows then is that
      after-reference : (j k : ℕ) → j < b.size → k < length (reference_words b j) → j < front_of after (partition_at b j k)
          → shown listed after (reference_word j k) ≡ reference_at b j k
      after-reference j k low within counts =
          subst (λ (s : State). shown listed s (reference_word j k) ≡ reference_at b j k) then_state
          (placed-reference b law.sound es' j k low within (subst (λ (s : State). j < front_of s (partition_at b j k)) (sym then_state) counts))

      others-show : (o : Meaning) → Has b listed o → Counts b after o → o ≢ front_word v.partition → get_or words (position b o) 0 ≡ shown listed after o
      others-show (claim_word j) has counts ne = law.shows.at (claim_word j) has tt
      others-show (own_word j m) has counts ne = law.shows.at (own_word j m) has tt
      others-show (end_word r) has counts ne = law.shows.at (end_word r) has tt
      others-show (front_word p) has counts ne =
          law.shows.at (front_word p) has tt ∙ sym (other-front p (λ same. ne (ap front_word same)))
      others-show (reference_word j k) has counts ne = reference-shows j k has.0 has.1 counts ∙ sym (after-reference j k has.0 has.1 counts)

      abbrev words' : List ℕ
      words' = set words (position b (front_word v.partition)) (suc (front_in v))

      shows_placed : ShowsState b listed words' (reach b es')
      shows_placed =
          subst (ShowsState b listed words') (sym then_state)
          (shows-set b listed words after (front_word v.partition) (suc (front_in v)) law.shows.wide (mine.places places).0
          (λ _. sym next-front) others-show)

      is_mine : (e : Event) → In e (place ∷ []) → IsMade by v e
      is_mine e h = inr (places, in_one e place h)

      no-actor : (e : Event) (a : ℕ) → In e (place ∷ []) → actor_of e ≢ Some a
      no-actor e a h q = let none : None ≡ Some a = sym (ap actor_of (in_one e place h)) ∙ q in absurd (cc)

      fits_placed : Fits b es' by (with_placing v)
      fits_placed = record {
        own = λ living. by-append by es (place ∷ []) ∙ append-nil (events_by by es) ∙ mine.own living;
        taken = λ a l k. (of_other b law.sound listed es es' (place ∷ []) refl by v is_mine a (mine.taken a l k).1 ∙ (mine.taken a l k).0, (mine.taken a l k).1);
        knows = λ i k. knows_on b law.sound listed es es' (place ∷ []) refl i (mine.knows i k);
        saw = λ i n k. saw_on b law.sound listed es es' (place ∷ []) refl by i n (mine.saw i n k);
        alone = λ one e a k q. ⊎_elim (λ old. mine.alone one e a old q) (λ new. absurd (no-actor e a new q)) (in_cases e es (place ∷ []) k);
        fronts = λ p n k. front_on b law.sound listed es es' (place ∷ []) refl p n (mine.fronts p n k);
        saw_fronts = λ p n c k. saw_front_on b law.sound listed es es' (place ∷ []) refl by p n c (mine.saw_fronts p n c k);
        placed = λ all p low. placed_on b law.sound listed es es' (place ∷ []) refl p (mine.placed all p low);
        uncut = λ one no p out. placed_by_other b law.sound listed es es' (place ∷ []) refl by v is_mine p
            (λ _ same. out (subst (λ (q : ℕ). In q v.cut) (sym same) (law.cut by by v v at at one no places)))
            ∙ mine.uncut one no p out;
        places = λ _. (
          (mine.places places).0,
          placings-append v.partition es (place ∷ []) ∙ ap (λ (l : List Event). l ++ placings_in v.partition (place ∷ [])) (mine.places places).1
              ∙ ap (λ (l : List Event). v.placings ++ l) its-own,
        );
      }
        where
          its-own : placings_in v.partition (place ∷ []) ≡ place ∷ []
          its-own = rw (eq-eqb v.partition v.partition refl) refl

      pub placed_law : Lawful b listed words' (set views by (with_placing v)) es'
      placed_law =
          changes b law.sound listed es es' (place ∷ []) refl by v is_mine words words' views law at alive (with_placing v)
          (works-more b law.sound es (place ∷ []) law.works (may-place, tt)) shows_placed fits_placed (goes-on v alive)
          (λ j u ne h is r has.
          let t = law.stands j u h is r has in
          (t.0, t.1, t.2, references-stay b listed words (front_word v.partition) (suc (front_in v)) (mine.places places).0 refl (front_in u) r t.0 t.1 ∙ t.3))
          (λ is r has. absurd has)

module _ (b : Batch) (listed : List ℕ) (slots by : ℕ) (me : Me ℕ Knowledge) (alive : me.0.spent ≡ false) (places : me.0.placer ≡ true) (below : front_in me.0 < b.size) where
  abbrev Rule : Table ℕ Knowledge → Type 0
  Rule s = legal b listed s.words s.views

  pub stores : (k word : ℕ) → k < length (reference_words b (front_in me.0)) → partition_at b (front_in me.0) k ≡ me.0.partition → word ≡ reference_at b (front_in me.0) k
      → Allows Rule slots by me (position b (reference_word (front_in me.0) k)) (λ _. word) (λ _. goes_to (with_stored me.0 k) me word)
  stores k word within own right s r _ at _ =
      (with_stored me.0 k, keeps, tt, (r.0, stored_law b listed s.words s.views r.0 by me.0 r.1 at alive places below k word within own right), refl)

  pub advances : StoredAll b me.0
      → Allows Rule slots by me (position b (front_word me.0.partition)) (λ _. suc (front_in me.0)) (λ _. goes_to (with_placing me.0) me (suc (front_in me.0)))
  advances all s r _ at _ =
      (with_placing me.0, keeps, tt, (r.0 ++ Place me.0.partition ∷ [], placed_law b listed s.words s.views r.0 by me.0 r.1 at alive places below all), refl)
