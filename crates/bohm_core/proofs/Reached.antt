-- What the law says of a state that some events reach.
use Rattle.std.proofs.Common.{add-one, get_or, take, ◌+◌, ◌≡◌, ◌≢◌, ◌<◌, ◌&&◌, ℕ, true, false, Bool, List, [], ◌∷◌, ◌++◌, length, refl, sym, ap, ◌∙◌, subst, arith}
use Rattle.std.proofs.lemmas.Bool.{eqb-true}
use Rattle.std.proofs.Math.Seq.{take-suc}
use Rattle.bohm_core_base.specs.declared.event.Event.{Event}
use Rattle.bohm_core_base.specs.declared.hold.Hold.{Hold}
use Rattle.bohm_core_base.specs.declared.hold.Hold.TheVariants.{Free, Held, Done}
use Rattle.bohm_core_base.specs.Batch.{Batch, IsSoundBatch, batch_slots, words_length}
use Rattle.bohm_core_base.specs.Laws.{HasReferences, HasSizes, ShowsSerial}
use Rattle.bohm_core_base.specs.Machine.{State, all_filled, all_past, all_ready, effect, hold_of, is_held_by, own_of, run_from, start}
use Rattle.bohm_core_base.proofs.Reach.{has-references, has-sizes, shown-serial, word-rests}
use Rattle.bohm_core.specs.Running.{IsReached, Running, after_event, after_events}

-- the second of two tests that both pass
pub and_second : (first second : Bool) → (first && second) ≡ true → second ≡ true
and_second true second both = both
and_second false second both = cc

-- a place that an actor holds isn't free
held-busy : (actor : ℕ) (hold : Hold) → is_held_by actor hold ≡ true → hold ≢ Free
held-busy actor Free held = cc
held-busy actor (Held other) held = λ same. cc
held-busy actor Done held = cc

module _ (batch : Batch) (state : State) (reached : IsReached batch state) where
  -- what is stored has its lengths
  pub sizes : HasSizes batch state
  sizes = subst (HasSizes batch) (sym reached.reached) (has-sizes batch reached.sound reached.events)

  -- a place that an actor holds has its references
  held-placed : (actor index : ℕ) → is_held_by actor (hold_of state index) ≡ true → HasReferences batch state index
  held-placed actor index held =
      subst (λ s. hold_of s index ≢ Free → HasReferences batch s index) (sym reached.reached)
      (has-references batch reached.sound reached.events index) (held-busy actor (hold_of state index) held)

  -- where all that it refers to is done, it is shown what the serial run shows it
  held-shown : (actor index : ℕ) → is_held_by actor (hold_of state index) ≡ true → all_ready state index ≡ true → ShowsSerial batch state index
  held-shown actor index held ready =
      let placed = held-placed actor index held in
      subst (λ s. all_past s index ≡ true → all_ready s index ≡ true → ShowsSerial batch s index) (sym reached.reached)
      (shown-serial batch reached.sound reached.events index placed.within) placed.placed ready

  -- and so where it has all its words
  filled-ready : (index : ℕ) → all_filled batch state index ≡ true → all_ready state index ≡ true
  unfolding words_length
  filled-ready index filled =
      let full : length (own_of state index) ≡ words_length batch index = eqb-true (length (own_of state index)) (words_length batch index) filled in
      let some : 0 < length (own_of state index) = (let outcome = reached.sound.outcome index in omega arith) in
      (subst (λ s. 0 < length (own_of s index) → HasReferences batch s index × (all_ready s index ≡ true)) (sym reached.reached)
      (word-rests batch reached.sound reached.events index) some).1

-- for the search
pub held_within : (batch : Batch) (state : State) (actor index : ℕ) → IsReached batch state → is_held_by actor (hold_of state index) ≡ true → index < batch.size
held_within batch state actor index reached held = (held-placed batch state reached actor index held).within

pub shown_to_held : (batch : Batch) (state : State) (actor index : ℕ) → IsReached batch state → is_held_by actor (hold_of state index) ≡ true
    → all_ready state index ≡ true → ShowsSerial batch state index
shown_to_held batch state actor index reached held ready = held-shown batch state reached actor index held ready

pub shown_to_filled : (batch : Batch) (state : State) (actor index : ℕ) → IsReached batch state → is_held_by actor (hold_of state index) ≡ true
    → all_filled batch state index ≡ true → ShowsSerial batch state index
shown_to_filled batch state actor index reached held filled =
    held-shown batch state reached actor index held (filled-ready batch state reached index filled)

-- the next place of a partition is in the batch, and a slot of an end is one of the batch's
pub next_within : (batch : Batch) (state : State) (index : ℕ) → IsReached batch state → index < length state.references → index < batch.size
next_within batch state index reached low = (let size = (sizes batch state reached).references in omega arith)

pub slot_within : (batch : Batch) (state : State) (slot : ℕ) → IsReached batch state → slot < length state.ends → slot < length (batch_slots batch)
slot_within batch state slot reached low = (let size = (sizes batch state reached).ends in omega arith)

pub one_end_each : (batch : Batch) (state : State) → IsReached batch state → length state.ends ≡ length (batch_slots batch)
one_end_each batch state reached = (sizes batch state reached).ends

-- the state after one more event is reached by one more
run-one : (batch : Batch) (state : State) (events : List Event) (event : Event)
    → run_from batch state (events ++ event ∷ []) ≡ effect batch (run_from batch state events) event
run-one batch state [] event = refl
run-one batch state (first ∷ events) event = run-one batch (effect batch state first) events event

pub reached_after : (batch : Batch) (state : State) (event : Event) → IsReached batch state → IsReached batch (effect batch state event)
reached_after batch state event reached = record {
  sound = reached.sound;
  events = reached.events ++ event ∷ [];
  reached = ap (λ s. effect batch s event) reached.reached ∙ sym (run-one batch (start batch) reached.events event);
}

-- and so is the state at first
pub reached_start : (batch : Batch) → IsSoundBatch batch → IsReached batch (start batch)
reached_start batch sound = record { sound = sound; events = []; reached = refl }

-- the events up to one, and then that one, are the events up to the next
pub one_more : {S : Type 0} (batch : S → Batch) (running : Running S) (events : List Event) (index : ℕ) (other : Event) → index < length events
    → after_event batch (after_events batch running (take index events)) (get_or events index other)
    ≡ after_events batch running (take (index + 1) events)
one_more batch running events index other within =
    rw (add-one, take-suc events index other within, run-one (batch running.statements) running.state (take index events) (get_or events index other)) refl
