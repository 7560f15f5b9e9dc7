-- How it is spelled by which grants a user holds what is needed.
use Rattle.std.specs.Prelude.{◌++◌, ℕ, List, codes, length}
use Rattle.model_base.specs.Outcomes.{deeds_before, owners}
use Rattle.sequencer.specs.Log.{Accepted}
use Rattle.explain.specs.Lines.{shown_of}
use Rattle.audit_text.specs.Explanation.{shown_text}
use Rattle.privileges_text.specs.declared.ways.UserNeed.{UserNeed}

-- how the user held what is needed before a place of the log, or since when not, as an explanation spells it
abbrev pub way_text : Accepted → ℕ → UserNeed → List ℕ
way_text log place of =
    shown_text log.statements log.names
    (shown_of (owners log.statements) (deeds_before log.statements (length log.statements)) place of.user of.need)

-- so a line ends
abbrev pub way_ending : Accepted → ℕ → UserNeed → List ℕ
way_ending log place of = way_text log place of ++ codes "\n"
