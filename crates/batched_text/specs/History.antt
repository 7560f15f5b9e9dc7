-- Of how many places neither statement nor outcome is kept, and which batches may end before they are full.
use Rattle.std.specs.Prelude.{◌≡◌, ◌==◌, ◌≤◌, ◌<◌, ◌+◌, ◌-◌, ⊤, ℕ, List, [], if◌then◌else◌, length, max}
use Rattle.bohm_base.specs.declared.collecting.LineOutcome.{LineOutcome}
use Rattle.engine.specs.Engine.{Run, finished}
use Rattle.batched_text.specs.Settings.{IsCut, IsCutEarly, IsTrimmed, in_order}
use Rattle.batched_text.specs.declared.history.TheConstants.{MOST_SPARE_PLACES}
use Rattle.batched_text.specs.declared.history.Plan.{Plan}
use Rattle.batched_text.specs.declared.settings.TheConstants.{IN_ORDER_BATCH}
use Rattle.batched_text.specs.declared.history.Cut.{Cut}
use Rattle.batched_text.specs.declared.history.History.{History}
use Rattle.batched_text.specs.declared.settings.Arrival.{Arrival}
use Rattle.batched_text.specs.declared.settings.Settings.{Settings}

-- this many of the last places are kept at least
abbrev pub last_places : ℕ → History
last_places places = if places == 0 then History.Dropped else History.Last places

-- where this many places were reported, none are dropped, or all of them, or all but so many of the last, and few more
abbrev pub IsKeptBy : History → ℕ → Run → Type 0
IsKeptBy History.Kept reported run = run.dropped ≡ 0
IsKeptBy History.Dropped reported run = run.dropped ≡ reported
IsKeptBy (History.Last places) reported run =
    (run.dropped ≤ reported - places) × (reported < run.dropped + places + max places MOST_SPARE_PLACES)

-- what is to be kept wasn't dropped yet
abbrev pub MayKeep : History → Run → Type 0
MayKeep History.Kept run = run.dropped ≡ 0
MayKeep History.Dropped run = ⊤
MayKeep (History.Last places) run = run.dropped ≤ finished run - places

-- places are run in order, in batches that end before the reader is asked, and so much is kept
abbrev pub plan_in_order : History → Plan
plan_in_order history = record { settings = in_order IN_ORDER_BATCH; history = history; cut = Cut.BeforeReads }

-- what is finished was reported; where batches may end early, more may be finished, of which a report is still to be made
abbrev pub IsRanTo : Cut → ℕ → Run → Type 0
IsRanTo Cut.WhenFull reported run = reported ≡ finished run
IsRanTo Cut.BeforeReads reported run = (reported ≤ finished run) × (finished run ≤ length run.log.statements)

-- a batch ends before the reader is asked only where the reader may wait
abbrev pub cut_for : Arrival → Cut
cut_for Arrival.Live = Cut.BeforeReads
cut_for Arrival.Stored = Cut.WhenFull

-- each batch is as large as it may be, or some have ended early; and the rows before the last few are kept
abbrev pub IsCutBy : Cut → Settings → Run → Type 0
IsCutBy Cut.WhenFull settings run = IsCut settings run
IsCutBy Cut.BeforeReads settings run = IsCutEarly settings run

-- so it is at the end, where the last batch may be smaller
abbrev pub IsTrimmedBy : Cut → Settings → Run → Type 0
IsTrimmedBy Cut.WhenFull settings run = IsTrimmed settings run
IsTrimmedBy Cut.BeforeReads settings run = IsCutEarly settings run

-- where batches end before the reader is asked no line waits then, so that each is reported
abbrev pub NoneWait : Cut → List LineOutcome → Type 0
NoneWait Cut.WhenFull waiting = ⊤
NoneWait Cut.BeforeReads waiting = waiting ≡ []
