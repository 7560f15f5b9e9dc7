-- How a log is cut into batches. BOHM cuts its input into batches, places each as a whole, and drops versions that no later
-- transaction can read (J. M. Faleiro and D. J. Abadi, "Rethinking Serializable Multiversion Concurrency Control", PVLDB 8,
-- 2015, section 3). The limits, and that the rows before the last few batches are kept, are this project's own.
use Rattle.std.specs.Prelude.{◌≡◌, ◌==◌, ◌&&◌, ◌<◌, ◌≤◌, ◌+◌, ◌-◌, ◌*◌, ℕ, Bool, min, nat_le, if◌then◌else◌}
use Rattle.model_base.specs.declared.limits.TheConstants.{MOST_BATCH_STATEMENTS, MOST_KEPT_BATCHES, MOST_PARTITIONS, MOST_WORKERS}
use Rattle.engine.specs.Engine.{Run, finished}
use Rattle.batched_text.specs.declared.settings.Settings.{Settings}

-- whether each setting is within its limits: of workers, partitions and places in a batch at least 1, of batches whose rows are
-- kept at least 0
abbrev pub are_within_limits : Settings → Bool
are_within_limits settings =
    (nat_le 1 settings.workers && nat_le settings.workers MOST_WORKERS)
    && (nat_le 1 settings.partitions && nat_le settings.partitions MOST_PARTITIONS)
    && (nat_le 1 settings.batch && nat_le settings.batch MOST_BATCH_STATEMENTS)
    && nat_le settings.keep MOST_KEPT_BATCHES

-- one worker runs batches of this size in order, and no rows before them are kept
abbrev pub in_order : ℕ → Settings
in_order batch = record { workers = 1; partitions = 1; batch = batch; keep = 0 }

-- the mark once a batch is finished that has these places: the start of the batch this many from the last one, or its end where none is
-- kept
abbrev pub mark_behind : Settings → ℕ → ℕ → ℕ
mark_behind settings start end = if settings.keep == 0 then end else start - settings.batch * (settings.keep - 1)

-- some batches are finished, each as large as it may be, and the rows before the last few are kept
pub record IsCut (settings : Settings) (run : Run) : Type 0 where
  pub batches : ℕ
  pub full : finished run ≡ settings.batch * batches
  pub mark : run.store.mark ≡ settings.batch * (batches - settings.keep)

-- batches are finished of which any may be smaller, the last one with at least one place: rows are kept before the places of the last few,
-- but not before more places than so many full batches have
pub record IsCutEarly (settings : Settings) (run : Run) : Type 0 where
  pub least : mark_behind settings (finished run - settings.batch) (finished run) ≤ run.store.mark
  pub most : run.store.mark ≤ mark_behind settings (finished run - 1) (finished run)

-- so it is where each is as large as it may be, but the last batch may be smaller
pub record IsTrimmed (settings : Settings) (run : Run) : Type 0 where
  pub batches : ℕ
  pub most : finished run ≤ settings.batch * batches
  pub least : settings.batch * batches < finished run + settings.batch
  pub mark : run.store.mark ≡ min (finished run) (settings.batch * (batches - settings.keep))
