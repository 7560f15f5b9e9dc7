-- What the machine's law says of a state that some events reach, and what follows of the definitions alone.
use Rattle.std.proofs.Common.{◌≡◌, ◌≢◌, ℕ, ◌+◌, ◌<◌, true, false, List, [], ◌∷◌, ◌++◌, length, refl, sym, ap, ◌∙◌, subst, arith, eq-eqb}
use Rattle.std.specs.Prelude.{Some}
use Rattle.std.proofs.lemmas.List.{length-append}
use Rattle.bohm_core_base.specs.declared.event.Event.{Event}
use Rattle.bohm_core_base.specs.declared.hold.Hold.{Hold}
use Rattle.bohm_core_base.specs.declared.hold.Hold.TheVariants.{Free, Held, Done}
use Rattle.bohm_core_base.specs.Batch.{Batch, IsSoundBatch, words_by, words_length}
use Rattle.bohm_core_base.specs.Laws.{HasReferences, HasSizes}
use Rattle.bohm_core_base.specs.Machine.{State, effect, end_of, hold_of, is_free, is_held_by, own_of, reach, run_from, start}
use Rattle.bohm_core_base.specs.Serial.{records_in, rows_at, serial_ends, serial_words, whole_end, batch_world_before}
use Rattle.bohm_core_base.proofs.Reach.{ender-words, has-references, has-sizes, word-busy}
use Rattle.bohm_core_base.proofs.Whole.{is_end-some}
use Rattle.model_base.proofs.Covered.{contrary}

-- some events lead to the state
pub record IsReached (b : Batch) (s : State) : Type 0 where
  pub events : List Event
  pub is : s ≡ reach b events

-- events in two lists are run one list after the other
pub run-append : (b : Batch) (s : State) (first later : List Event) → run_from b s (first ++ later) ≡ run_from b (run_from b s first) later
run-append b s [] later = refl
run-append b s (e ∷ first) later = run-append b (effect b s e) first later

pub reached-start : (b : Batch) → IsReached b (start b)
reached-start b = record { events = []; is = refl }

pub reached-effect : (b : Batch) (s : State) (e : Event) → IsReached b s → IsReached b (effect b s e)
reached-effect b s e r = record {
  events = r.events ++ e ∷ [];
  is = ap (λ t. effect b t e) r.is ∙ sym (run-append b (start b) r.events (e ∷ []));
}

-- who holds a place
pub held-not_free : (actor : ℕ) (hold : Hold) → is_held_by actor hold ≡ true → hold ≢ Free
held-not_free actor hold held free = contrary (is_held_by actor hold) held (rw free refl)

pub free-is : (hold : Hold) → is_free hold ≡ true → hold ≡ Free
free-is Free free = refl
free-is (Held other) free = contrary false free refl
free-is Done free = contrary false free refl

-- the serial run ends the record of a slot at one place
pub serial-ends-from : (b : Batch) (i k q : ℕ) → whole_end b k ≡ Some q → b.first + i ≡ q → serial_ends b i k ≡ true
unfolding serial_ends
serial-ends-from b i k q was at = rw (was, at) (eq-eqb q q refl)

pub ends-whole : (b : Batch) (n k : ℕ) → serial_ends b n k ≡ true → whole_end b k ≡ Some (b.first + n)
unfolding serial_ends
ends-whole b n k ends = is_end-some (b.first + n) (whole_end b k) ends

module _ (b : Batch) (sound : IsSoundBatch b) where
  -- each place has a word, one at least
  pub words-some : (n : ℕ) → 0 < words_length b n
  unfolding words_length
  words-some n = let some = sound.outcome n in omega arith

  pub serial-some : (n : ℕ) → 0 < length (serial_words b n)
  unfolding serial_words words_by
  serial-some n =
      let rows = rows_at (b.accesses n) (batch_world_before b n).rows in
      let entries = records_in b n (batch_world_before b n) in
      let some = sound.outcome n in
      let wide = sound.header n rows entries in
      rw (length-append (b.answer n rows entries).header _) (omega arith)

  module _ (s : State) (r : IsReached b s) where
    pub sizes : HasSizes b s
    sizes = subst (HasSizes b) (sym r.is) (has-sizes b sound r.events)

    pub held-within : (n : ℕ) → hold_of s n ≢ Free → n < b.size
    held-within n busy =
        let P : State → Type 0 = λ t. hold_of t n ≢ Free → HasReferences b t n in
        (subst P (sym r.is) (has-references b sound r.events n) busy).within

    -- nothing is stored for a free place
    pub blank-words : (n : ℕ) → hold_of s n ≡ Free → length (own_of s n) ≡ 0
    blank-words n free = none (own_of s n) refl
      where
        busy : 0 < length (own_of s n) → hold_of s n ≢ Free
        busy =
            let P : State → Type 0 = λ t. 0 < length (own_of t n) → hold_of t n ≢ Free in
            subst P (sym r.is) (word-busy b sound r.events n)

        none : (own : List ℕ) → own_of s n ≡ own → length own ≡ 0
        none [] is = refl
        none (word ∷ own) is = absurd (busy (rw is (omega arith)) free)

    pub blank-ends : (n k : ℕ) → hold_of s n ≡ Free → end_of s k ≢ Some (b.first + n)
    blank-ends n k free set =
        let P : State → Type 0 = λ t. end_of t k ≡ Some (b.first + n) → own_of t n ≡ serial_words b n in
        let all = subst P (sym r.is) (ender-words b sound r.events k n) set in
        let some = serial-some n in
        let none = blank-words n free in
        let same : length (own_of s n) ≡ length (serial_words b n) = ap (λ (own : List ℕ). length own) all in
        omega arith
