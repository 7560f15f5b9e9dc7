-- Which places are kept, as the run goes on.
use Rattle.std.proofs.Common.{◌≡◌, ◌≤◌, ℕ, List, [], arith, length, subst, sym, ◌∙◌}
use Rattle.bohm_base.specs.declared.collecting.LineOutcome.{LineOutcome}
use Rattle.engine.specs.Engine.{Run, finished}
use Rattle.batched_text.specs.Batching.{IsCounted}
use Rattle.batched_text.specs.History.{IsKeptBy, IsRanTo, MayKeep, NoneWait}
use Rattle.batched_text.specs.declared.history.Cut.{Cut}
use Rattle.batched_text.specs.declared.history.History.{History}
use Rattle.batched_text.specs.declared.line_run.LineRun.{LineRun}

-- at first no place is dropped, and none was reported
pub kept_first : (history : History) (reported : ℕ) (run : Run) → run.dropped ≡ 0 → reported ≡ 0 → IsKeptBy history reported run
kept_first History.Kept reported run none nothing = none
kept_first History.Dropped reported run none nothing = none ∙ sym nothing
kept_first (History.Last places) reported run none nothing = (omega (arith, none), omega (arith, nothing))

-- nothing of that changes while nothing is dropped or reported
pub kept_longer : (history : History) (before after : ℕ) (old new : Run) → new.dropped ≡ old.dropped → after ≡ before → IsKeptBy history before old
    → IsKeptBy history after new
kept_longer History.Kept before after old new same done kept = same ∙ kept
kept_longer History.Dropped before after old new same done kept = same ∙ kept ∙ sym done
kept_longer (History.Last places) before after old new same done kept = (omega (arith, same, done, kept.0), omega (arith, same, done, kept.1))

-- what is to be kept is there once more is finished
pub may_keep : (history : History) (reported : ℕ) (old new : Run) → new.dropped ≡ old.dropped → reported ≤ finished new → IsKeptBy history reported old
    → MayKeep history new
may_keep History.Kept reported old new same less kept = same ∙ kept
may_keep History.Dropped reported old new same less kept = tt
may_keep (History.Last places) reported old new same less kept = omega (arith, same, less, kept.0)

-- and no place that wasn't reported was dropped
pub kept_below : (history : History) (reported : ℕ) (run : Run) → IsKeptBy history reported run → run.dropped ≤ reported
kept_below History.Kept reported run kept = omega (arith, kept)
kept_below History.Dropped reported run kept = omega (arith, kept)
kept_below (History.Last places) reported run kept = omega (arith, kept.0)

-- all that was finished was reported
pub ran_all : (cut : Cut) (reported : ℕ) (run : Run) → reported ≡ finished run → finished run ≤ length run.log.statements → IsRanTo cut reported run
ran_all Cut.WhenFull reported run all within = all
ran_all Cut.BeforeReads reported run all within = (omega (arith, all), within)

-- what is finished lies between what was reported and the log's end
pub record Between (run : LineRun) : Type 0 where
  pub least : run.reported ≤ finished run.engine
  pub most : finished run.engine ≤ length run.engine.log.statements

pub ran_between : (cut : Cut) (run : LineRun) → IsRanTo cut run.reported run.engine → IsCounted run → Between run
ran_between Cut.WhenFull run ran counted = record { least = omega (arith, ran); most = omega (arith, ran, counted) }
ran_between Cut.BeforeReads run ran counted = record { least = ran.0; most = ran.1 }

-- statements that come after what is finished change nothing of it
pub ran_longer : (cut : Cut) (before after : ℕ) (old new : Run) → after ≡ before → finished new ≡ finished old
    → length old.log.statements ≤ length new.log.statements → IsRanTo cut before old → IsRanTo cut after new
ran_longer Cut.WhenFull before after old new done same longer ran = done ∙ ran ∙ sym same
ran_longer Cut.BeforeReads before after old new done same longer ran = (omega (arith, done, same, ran.0), omega (arith, same, longer, ran.1))

-- where no line waits, none does
pub none_wait : (cut : Cut) (waiting : List LineOutcome) → waiting ≡ [] → NoneWait cut waiting
none_wait Cut.WhenFull waiting none = tt
none_wait Cut.BeforeReads waiting none = none

-- where batches are full, lines may wait
pub may_wait : (cut : Cut) (waiting : List LineOutcome) → cut ≡ Cut.WhenFull → NoneWait cut waiting
may_wait cut waiting full = subst (λ (c : Cut). NoneWait c waiting) (sym full) tt
