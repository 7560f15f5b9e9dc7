-- What the state of a run means.
use Rattle.model_base.specs.Outcomes.{World}
use Rattle.body.specs.RowMap.{rows_of}
use Rattle.model.specs.declared.serial_state.State.{State}

-- what is before a place, as the state has it
abbrev pub world_of : State → World
world_of state = record { rows = rows_of state.rows; deeds = state.deeds.items }
