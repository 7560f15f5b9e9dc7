-- What workers know of a batch. Each execution thread goes over the places of the batch by itself: J. M. Faleiro and
-- D. J. Abadi, "Rethinking Serializable Multiversion Concurrency Control", PVLDB 8 (2015), section 3; that a pass carries what
-- a thread knows is this project's own.
use Rattle.std.specs.Prelude.{◌≡◌, ◌⊎◌, ◌<◌, ◌++◌, ℕ, List, ◌∷◌, All, IsPermutation, Result, Ok, Err}
use Rattle.std.specs.declared.alloc.AllocError.{AllocError}
use Rattle.bohm_core_base.specs.Batch.{Batch}
use Rattle.words.specs.declared.knowledge.Knowledge.{Knowledge}
use Rattle.filling_base.specs.declared.run.Tried.{Tried}
use Rattle.filling_base.specs.declared.run.Tried.TheVariants as tried
use Rattle.filling_base.specs.Tries.{TriedMeans}
use Rattle.words.specs.Passes.{PassState}
use Rattle.words.specs.Views.{In, KeepsFronts}

-- of this many places each is known done or among the rest, and the rest are some of them
pub record AreLeft (size : ℕ) (known rest : List ℕ) : Type 0 where
  pub within : (index : ℕ) → In index rest → index < size
  pub every : (index : ℕ) → index < size → In index known ⊎ In index rest

-- a pass of the same words under the same number, which knows what it knew, of fronts too
pub record GoesOn (pass after : PassState) : Type 0 where
  pub table : after.table ≡ pass.table
  pub number : after.number ≡ pass.number
  pub knows : (index : ℕ) → In index pass.view.known → In index after.view.known
  pub fronts : KeepsFronts pass.view after.view

-- on its way from one state to another the pass asked for the place, and this was the outcome
pub record IsAnswered (batch : Batch) (pass after : PassState) (answer : Result Tried AllocError) (index : ℕ) : Type 0 where
  pub asks : PassState
  pub finds : PassState
  pub from : GoesOn pass asks
  pub means : TriedMeans batch index asks.view answer finds.view
  pub to : GoesOn finds after

-- it asked for the place in vain: another held it, or one that it is referred to, or it isn't placed
abbrev pub IsMissed : Batch → PassState → PassState → ℕ → Type 0
IsMissed batch pass after index =
    ((other : ℕ) × IsAnswered batch pass after (Ok (tried.Busy other)) index)
    ⊎ ((partition : ℕ) × IsAnswered batch pass after (Ok (tried.NotPlaced partition)) index)

-- it asked for each place of the rest: those that weren't found done are left, each of them missed
pub record HasAsked (batch : Batch) (pass : PassState) (rest : List ℕ) (after : PassState) (left : List ℕ) : Type 0 where
  pub done : List ℕ
  pub each : IsPermutation rest (done ++ left)
  pub found : All (IsAnswered batch pass after (Ok tried.Done)) done
  pub missed : All (IsMissed batch pass after) left

-- it was stopped: those that weren't found done are left, but for one at most, for which memory ran out
pub record IsStopped (batch : Batch) (pass : PassState) (rest : List ℕ) (after : PassState) (left : List ℕ) : Type 0 where
  pub done : List ℕ
  pub found : All (IsAnswered batch pass after (Ok tried.Done)) done
  pub each : IsPermutation rest (done ++ left)
      ⊎ ((index : ℕ) × (error : AllocError) × IsAnswered batch pass after (Err error) index × IsPermutation rest (done ++ index ∷ left))

-- the pass knows each of this many places done
abbrev pub KnowsAll : ℕ → Knowledge → Type 0
KnowsAll size view = (index : ℕ) → index < size → In index view.known
