-- How a log is run, by the options of `run`.
use Rattle.std.specs.Prelude.{◌≡◌, ◌≤◌, ◌&&◌, ◌||◌, ◌==◌, ℕ, Bool, List, None, Option, Some, codes, if◌then◌else◌, option_and_then, true}
use Rattle.clap.specs.Words.{Row}
use Rattle.model_base.specs.declared.limits.TheConstants.{MOST_BATCH_STATEMENTS, MOST_KEPT_BATCHES, MOST_PARTITIONS, MOST_WORKERS}
use Rattle.batched_text.specs.Settings.{are_within_limits}
use Rattle.batched_text.specs.declared.settings.Settings.{Settings}
use Rattle.command_line.specs.Options.{IfGiven, choice_among, given_or, is_given, number_among}
use Rattle.command_line.specs.declared.options.Choice.{Choice}
use Rattle.command_line.specs.declared.options.TheConstants.{MOST_AHEAD, USUAL_SHARE}
use Rattle.command_line.specs.declared.options.Way.{Way}

-- whether one worker runs the log, and places it by one partition
abbrev pub is_alone : Settings → Bool
is_alone settings = settings.workers == 1 && settings.partitions == 1

-- the way by some settings, with this many threads that read lines ahead: of a run in order, and none of batches
abbrev pub way_by : Settings → ℕ → Option Way
way_by settings ahead =
    if is_alone settings || ahead == 0 then Some (record { settings = settings; ahead = Choice.Given ahead }) else None

-- the way by the numbers that are given: where workers or partitions are, what isn't given of the two is the usual share, and otherwise
-- there is one of each
abbrev pub way_told : Choice → Choice → ℕ → ℕ → Choice → Option Way
way_told workers partitions batch keep ahead =
    if is_given workers || is_given partitions then way_by (record {
      workers = given_or workers USUAL_SHARE;
      partitions = given_or partitions USUAL_SHARE;
      batch = batch;
      keep = keep;
    })
    (given_or ahead 0)
    else Some (record { settings = record { workers = 1; partitions = 1; batch = batch; keep = keep }; ahead = ahead })

-- the way that the options give, if each is within its limits
abbrev pub way_among : List Row → Option Way
way_among rows =
    option_and_then (λ workers. option_and_then (λ partitions. option_and_then (λ batch. option_and_then (λ keep. option_and_then (λ ahead.
    way_told workers partitions batch keep ahead)
    (choice_among (codes "ahead") 0 MOST_AHEAD rows))
    (number_among (codes "keep") 0 MOST_KEPT_BATCHES rows))
    (number_among (codes "batch") 1 MOST_BATCH_STATEMENTS rows))
    (choice_among (codes "partitions") 1 MOST_PARTITIONS rows))
    (choice_among (codes "workers") 1 MOST_WORKERS rows)

-- the numbers of a way are within their limits
pub record IsWithin (way : Way) : Type 0 where
  pub settings : are_within_limits way.settings ≡ true
  pub ahead : IfGiven way.ahead (λ threads. threads ≤ MOST_AHEAD)
