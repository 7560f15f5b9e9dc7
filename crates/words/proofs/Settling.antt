-- What the rule says of the words alone.
use Rattle.std.proofs.Common.{◌≡◌, ◌⊎◌, ℕ, zero, suc, ◌+◌, ◌<◌, ◌≤◌, List, [], ◌∷◌, ◌++◌, length, get_or, refl, sym, ap, ◌∙◌, inl, inr, arith}
use lib.ListN.{get_elem?}
use mathlib.Core.Option.{some}
use Rattle.std.specs.Prelude.{nat_lt, true, Option, Some, None, if◌then◌else◌}
use Rattle.std.proofs.lemmas.Bool.{cases_lt, lt-ltb, ltb-true}
use Rattle.std.proofs.lemmas.List.{get_or_append_left}
use Rattle.bohm_core_base.specs.declared.event.Event.{Event}
use Rattle.bohm_core_base.specs.declared.hold.Hold.{Hold}
use Rattle.bohm_core_base.specs.declared.hold.Hold.TheVariants.{Free, Held, Done}
use Rattle.bohm_core_base.specs.Batch.{Batch, reference_words, words_length}
use Rattle.bohm_core_base.specs.Machine.{end_of, front_of, hold_of, own_of, reach}
use Rattle.bohm_core_base.specs.Serial.{serial_words, whole_end}
use Rattle.bohm_core_base.proofs.Reach.{done-right, ends-right, words-begun}
use Rattle.words.specs.declared.knowledge.Knowledge.{Knowledge}
use Rattle.words.specs.Closing.{HasBeginning, HasItsReferences, IsSettledBy, ClosedLayout, claim_in, end_word_in, own_in}
use Rattle.words.specs.Layout.{block_begin, claim_code, claim_word, end_begin, optional_word, end_word, own_word, listed_slot_at, partition_at, reference_begin, reference_word}
use Rattle.words.specs.Legal.{Lawful}
use Rattle.words.proofs.Past.{placed-reference}
use Rattle.words.proofs.Showing.{position-below}
use Rattle.model_base.proofs.Replay.{by_cases}
use Rattle.model_base.proofs.Covered.{contrary}

two-is-done : (hold : Hold) → claim_code hold ≡ 2 → hold ≡ Done
two-is-done Free two = absurd (omega arith)
two-is-done (Held a) two = absurd (omega arith)
two-is-done Done two = refl

-- after its end a list has nothing
past-end : (l : List ℕ) (m : ℕ) → length l ≤ m → get_or l m 0 ≡ 0
past-end [] m past = refl
past-end (x ∷ l) zero past = absurd (omega arith)
past-end (x ∷ l) (suc m) past = past-end l m (omega arith)

-- a beginning of a list, as this many of its elements
beginning : (own rest all : List ℕ) (m : ℕ) → own ++ rest ≡ all → get_or own m 0 ≡ (if nat_lt m (length own) then get_or all m 0 else 0)
beginning own rest all m is =
    by_cases (nat_lt m (length own))
    (λ less. rw less (sym (get_or_append_left own rest 0 m (ltb-true m (length own) less)) ∙ ap (λ (l : List ℕ). get_or l m 0) is))
    (λ no. rw no (elim (cases_lt m (length own)) [
      | inl less ↦ contrary (nat_lt m (length own)) (lt-ltb m (length own) less) no
      | inr past ↦ past-end own m (omega arith)
    ]))

module _ (b : Batch) (listed : List ℕ) (layout : ClosedLayout) (views : List Knowledge) (es : List Event) (law : Lawful b listed layout.words views es)
    (every : length layout.begins ≡ b.size) (begin : (i : ℕ) → i < b.size → get_or layout.begins i 0 ≡ block_begin b i) (end : layout.ends ≡ end_begin b) where
  claim-at : (i : ℕ) → i < b.size → claim_in layout i ≡ claim_code (hold_of (reach b es) i)
  claim-at i below = ap (λ (n : ℕ). get_or layout.words n 0) (begin i below) ∙ law.shows.at (claim_word i) below tt

  own-at : (i m : ℕ) → i < b.size → m < words_length b i → own_in layout i m ≡ get_or (own_of (reach b es) i) m 0
  own-at i m below within = ap (λ (n : ℕ). get_or layout.words (n + suc m) 0) (begin i below) ∙ law.shows.at (own_word i m) (below, within) tt

  end-at : (r : ℕ) → r < length listed → end_word_in layout r ≡ optional_word (end_of (reach b es) (listed_slot_at listed r))
  end-at r has = ap (λ (n : ℕ). get_or layout.words (n + r) 0) end ∙ law.shows.at (end_word r) has tt

  done-at : (i : ℕ) → i < b.size → claim_in layout i ≡ 2 → hold_of (reach b es) i ≡ Done
  done-at i below two = two-is-done (hold_of (reach b es) i) (sym (claim-at i below) ∙ two)

  begun-at : (i : ℕ) → i < b.size → HasBeginning b layout i (length (own_of (reach b es) i))
  begun-at i below m within =
      let begun = words-begun b law.sound es i in
      own-at i m below within ∙ beginning (own_of (reach b es) i) begun.0 (serial_words b i) m begun.1

  by_end : (r : ℕ) (seen : Option ℕ) → end_of (reach b es) (listed_slot_at listed r) ≡ seen → end_word_in layout r ≡ optional_word seen
      → (end_word_in layout r ≡ 0) ⊎ ((place : ℕ) × (end_word_in layout r ≡ suc place) × (whole_end b (listed_slot_at listed r) ≡ Some place))
  by_end r None is shows = inl shows
  by_end r (Some q) is shows = inr (q, shows, ends-right b law.sound es (listed_slot_at listed r) q is)

  pub settled : IsSettledBy b listed layout
  settled = record {
    begins = λ i below. omega arith;
    claims = λ i below. (let room = position-below b listed (claim_word i) below in let wide = law.shows.wide in let from = begin i below in omega arith);
    owns = λ i m below within. (let room = position-below b listed (own_word i m) (below, within) in let wide = law.shows.wide in let from = begin i below in omega arith);
    enders = λ r has. (let room = position-below b listed (end_word r) has in let wide = law.shows.wide in omega arith);
    own = λ i m below within two. own-at i m below within
        ∙ ap (λ (own : List ℕ). get_or own m 0) (done-right b law.sound es i (done-at i below two)).words;
    ended = λ i r below has ends two. end-at r has
        ∙ ap optional_word ((done-right b law.sound es i (done-at i below two)).ends (listed_slot_at listed r) (law.slots.within r has) ends);
    begun = λ i below. (length (own_of (reach b es) i), begun-at i below);
    end = λ r has. by_end r (end_of (reach b es) (listed_slot_at listed r)) refl (end-at r has);
  }

module _ (b : Batch) (listed : List ℕ) (layout : ClosedLayout) (views : List Knowledge) (es : List Event) (law : Lawful b listed layout.words views es)
    (every : length layout.references ≡ b.size) (begin : (i : ℕ) → i < b.size → get_or layout.references i 0 ≡ reference_begin b i) where
  past-front : (n : ℕ) (v : Knowledge) → get_elem? views n ≡ some v → v.placed ≡ true → (i m : ℕ) → i < b.size → m < length (reference_words b i)
      → i < front_of (reach b es) (partition_at b i m)
  past-front n v is placed i m below low =
      let long = law.sound.same_length i in
      let there : partition_at b i m < b.partitions = law.sound.within i m (omega arith) in
      let all = (law.fits n v is).placed placed (partition_at b i m) there in
      omega arith

  pub referred : (n : ℕ) (v : Knowledge) → get_elem? views n ≡ some v → v.placed ≡ true → HasItsReferences b layout
  referred n v is placed = record {
    begins = λ i below. omega arith;
    within = λ i m below low. (let room = position-below b listed (reference_word i m) (below, low) in let wide = law.shows.wide in let from = begin i below in omega arith);
    right = λ i m below low. (let past = past-front n v is placed i m below low in
        ap (λ (p : ℕ). get_or layout.words (p + m) 0) (begin i below)
        ∙ law.shows.at (reference_word i m) (below, low) past
        ∙ placed-reference b law.sound es i m below low past);
  }
