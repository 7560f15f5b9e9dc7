-- The log: its statements in order, with the names that they name.
use Rattle.std.specs.Prelude.{List, [], ◌∷◌, ◌++◌}
use Rattle.model_base.specs.declared.statement.Statement.{Statement}
use Rattle.log_text.specs.Statement.{Sentence}
use Rattle.log_text.specs.declared.version.Version.{Version}
use Rattle.sequencer.specs.Catalog.{Names, no_names, numbered, with_statement}

-- the accepted statements, by number, and the names after the numbers
pub record Accepted : Type 0 where
  pub names : Names
  pub statements : List Statement

-- at first there is no statement and no name
abbrev pub empty_log : Accepted
empty_log = record { names = no_names; statements = [] }

-- the log, whose next lines are of this version of the grammar
abbrev pub in_version : Version → Accepted → Accepted
in_version version log = record log { names = record log.names { version = version } }

-- the log with a further statement
abbrev pub with_accepted : Accepted → Sentence → Accepted
with_accepted log sentence = record {
  names = with_statement log.names sentence;
  statements = log.statements ++ numbered log.names sentence ∷ [];
}
