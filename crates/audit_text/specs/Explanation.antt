-- How an explanation is spelled: a line for each need, with the words of the report.
use Rattle.std.specs.Prelude.{◌≡◌, ℕ, List, ◌++◌, codes}
use Rattle.std.specs.List.{flat_map}
use Rattle.model_base.specs.declared.deed.Cause.TheVariants.{Never, Taken}
use Rattle.model_base.specs.declared.statement.Statement.{Statement}
use Rattle.model_base.specs.RecordGrantees.{WereGranted}
use Rattle.log_text.specs.declared.version.Version.{Version}
use Rattle.sequencer.specs.Catalog.{Names}
use Rattle.sequencer.specs.Log.{Accepted}
use Rattle.explain.specs.Explained.{LinesAreGranted}
use Rattle.explain.specs.declared.line.Line.{Line}
use Rattle.explain.specs.declared.line.Shown.{Shown}
use Rattle.report.specs.Text.{cause_text, need_text, records_text}

-- where the version spells grantees, grants of these ranks were made before the place
abbrev pub RecordsMayBeSpelled : Accepted → ℕ → List ℕ → Type 0
RecordsMayBeSpelled log place ranks = log.names.version ≡ Version.Two → WereGranted log.statements place ranks

-- where the version spells grantees, the records that the lines show are of grants that were made before the place
abbrev pub LinesMayBeSpelled : Accepted → ℕ → List Line → Type 0
LinesMayBeSpelled log place lines = log.names.version ≡ Version.Two → LinesAreGranted log.statements place lines

-- the records of a chain of grants
abbrev pub grants_text : List Statement → Names → List ℕ → List ℕ
grants_text log names ranks = codes " grants" ++ records_text log names ranks

-- how a need is held, or since when it isn't and by which grants it was held until then
abbrev pub shown_text : List Statement → Names → Shown → List ℕ
shown_text log names Shown.Owner = codes " owner"
shown_text log names (Shown.Grants ranks) = grants_text log names ranks
shown_text log names Shown.Never = cause_text Never
shown_text log names (Shown.Taken lost ranks) = cause_text (Taken lost) ++ grants_text log names ranks

-- a need and what is shown of it; `names` has the names of the log
abbrev pub need_line_text : List Statement → Names → Line → List ℕ
need_line_text log names line =
    codes "need " ++ need_text names.tables line.need ++ shown_text log names line.shown ++ codes "\n"

-- the lines of an explanation
abbrev pub explanation_text : List Statement → Names → List Line → List ℕ
explanation_text log names lines = flat_map (need_line_text log names) lines
