-- The outcome of a place of a batch of a log that is to be run.
use Rattle.std.specs.Prelude.{◌≡◌, ◌⊎◌, ◌+◌, ℕ, Some, Result, Ok, Err}
use Rattle.std.specs.declared.alloc.AllocError.{AllocError}
use Rattle.model_base.specs.declared.outcome.Outcome.{Outcome}
use Rattle.log_batch.specs.Supplied.{LogRange, batch_of}
use Rattle.words.specs.declared.knowledge.Knowledge.{Knowledge}
use Rattle.filling_base.specs.declared.run.Tried.{Tried}
use Rattle.filling_base.specs.declared.run.Tried.TheVariants as tried
use Rattle.filling_base.specs.References.{IsRevocation}
use Rattle.filling_base.specs.Tries.{IsKnownDone, TriedMeans}
use Rattle.filling.specs.declared.running.Ran.{Ran}
use Rattle.filling.specs.declared.running.Ran.TheVariants.{Done, Busy, NotPlaced}
use Rattle.filling.specs.Outcomes.{outcome_in}

-- of a place that is known done, the outcome in the log; or memory ran out, for what a revocation ended
abbrev pub DoneMeans : LogRange → ℕ → Result Outcome AllocError → Type 0
DoneMeans ranged index (Ok found) = outcome_in ranged index ≡ Some found
DoneMeans ranged index (Err _) = IsRevocation (batch_of ranged) index

-- the place was run, and nothing said before that it is done
abbrev pub RunMeans : LogRange → ℕ → Knowledge → Result Tried AllocError → Knowledge → Type 0
RunMeans ranged index view answer after = ¬ (IsKnownDone (batch_of ranged) view index)
    × TriedMeans (batch_of ranged) index view answer after

-- the outcome of a place, by its index. It is done, with the outcome of the log; or a place was held, or not placed, or memory ran out, as
-- in what was tried, and nothing said before that it is done; or it is done, and memory ran out for what it ended
abbrev pub RanMeans : LogRange → ℕ → Knowledge → Result Ran AllocError → Knowledge → Type 0
RanMeans ranged index view (Ok (Done found)) after = TriedMeans (batch_of ranged) index view (Ok tried.Done) after
    × (outcome_in ranged index ≡ Some found)
RanMeans ranged index view (Ok (Busy place)) after = (other : ℕ) × (place ≡ ranged.first + other)
    × RunMeans ranged index view (Ok (tried.Busy other)) after
RanMeans ranged index view (Ok (NotPlaced partition)) after = RunMeans ranged index view (Ok (tried.NotPlaced partition)) after
RanMeans ranged index view (Err error) after =
    RunMeans ranged index view (Err error) after
    ⊎ (TriedMeans (batch_of ranged) index view (Ok tried.Done) after × IsRevocation (batch_of ranged) index)
