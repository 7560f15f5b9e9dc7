-- A batch with a state that some events reached: the machine in its running, as a place of BOHM is at each time
-- unprocessed, executing or complete (J. M. Faleiro and D. J. Abadi, "Rethinking Serializable Multiversion Concurrency
-- Control", PVLDB 8, 2015, section 3).
use Rattle.std.specs.Prelude.{◌≡◌, ◌++◌, List, OnErr, OnOk, Result}
use Rattle.bohm_core_base.specs.declared.event.Event.{Event}
use Rattle.bohm_core_base.specs.Batch.{Batch, IsSoundBatch}
use Rattle.bohm_core_base.specs.Machine.{State, effect, reach, run_from, start}

-- the statements of a batch, and a state of the batch
pub record Running (S : Type 0) : Type 0 where
  pub statements : S
  pub state : State

-- the batch is one that the law speaks of, and its state is one that some events reach
pub record IsReached (batch : Batch) (state : State) : Type 0 where
  pub sound : IsSoundBatch batch
  pub events : List Event
  pub reached : state ≡ reach batch events

-- the event was made; or after an error, which is out of memory, nothing has changed
pub record Applies {T E : Type 0} (batch : Batch) (event : Event) (result : Result T E) (old new : State) : Type 0 where
  pub ok : OnOk result (new ≡ effect batch old event)
  pub err : OnErr result (new ≡ old)

module _ {S : Type 0} (batch : S → Batch) where
  -- before anything runs
  abbrev pub started : S → Running S
  started statements = record { statements = statements; state = start (batch statements) }

  -- after one more event
  abbrev pub after_event : Running S → Event → Running S
  after_event running event =
      record { statements = running.statements; state = effect (batch running.statements) running.state event }

  -- after some more events
  abbrev pub after_events : Running S → List Event → Running S
  after_events running events =
      record { statements = running.statements; state = run_from (batch running.statements) running.state events }

  -- the events were made up to one of them
  pub record IsPartWay (before after : Running S) (events : List Event) : Type 0 where
    pub made : List Event
    pub left : List Event
    pub all : made ++ left ≡ events
    pub here : after ≡ after_events before made
