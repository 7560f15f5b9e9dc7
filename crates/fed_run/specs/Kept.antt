-- That so many places are kept has one proof at most, so that a run can hold it.
use Rattle.std.specs.Prelude.{ℕ}
use Rattle.std.specs.Coded.{Coded-set, coded_ℕ, le_prop, ×_prop}
use Rattle.engine.specs.Engine.{Run}
use Rattle.batched_text.specs.History.{IsKeptBy}
use Rattle.batched_text.specs.declared.history.History.{History}

pub kept-prop : (history : History) (reported : ℕ) (run : Run) → IsProp (IsKeptBy history reported run)
kept-prop History.Kept reported run = Coded-set coded_ℕ run.dropped 0
kept-prop History.Dropped reported run = Coded-set coded_ℕ run.dropped reported
kept-prop (History.Last places) reported run = ×_prop le_prop le_prop
