-- The rows of a run that is fed, and who holds a privilege there, are those of each text that begins with what was taken.
use Rattle.std.proofs.Common.{◌≡◌, ◌≤◌, ◌++◌, ◌∷◌, [], ℕ, List, Option, Some, ap, arith, length, refl, subst}
use Rattle.std.specs.Prelude.{◌==◌, None, true}
use Rattle.log_text.proofs.Total.{total_in}
use Rattle.log_text.specs.declared.version.Version.{Version}
use Rattle.line_io.specs.Lines.{lines_of}
use Rattle.model_base.specs.declared.deed.Kind.{Kind}
use Rattle.sequencer.specs.Catalog.{no_names}
use Rattle.sequencer.specs.Names.{known_number}
use Rattle.report.specs.Report.{names_after}
use Rattle.report.proofs.Readings.{readings_from}
use Rattle.bohm_base.specs.Collecting.{places_in}
use Rattle.bohm_base.specs.declared.collecting.LineOutcome.{LineOutcome}
use Rattle.engine.specs.Engine.{Run, finished}
use Rattle.batched_text.proofs.Ends.{read_before}
use Rattle.audit_text.specs.RowsBefore.{IsLogBefore}
use Rattle.audit_text.specs.RowsText.{HasNoTable, ListsRows}
use Rattle.audit_text.proofs.RowsRead.{front-of}
use Rattle.privileges_text.specs.HoldersText.{ListsHolders}
use Rattle.fed_run.specs.Stands.{IsFed, MayCome, TextLacksTable, TextListsHolders, TextListsRows}
use Rattle.fed_run.specs.declared.fed.FedRun.{FedRun}

-- no line waits where none are counted
pub none_wait : (waiting : List LineOutcome) → length waiting ≤ 0 → waiting ≡ []
none_wait [] few = refl
none_wait (line ∷ waiting) few = absurd (omega (arith, few))

-- where no line waits, the log that was taken is what stands before the next place of the text, whatever comes
module _ (run : FedRun) (none : run.run.waiting.items ≡ []) where
  log_before : (input written future : List ℕ) → IsFed run input written → MayCome run future
      → IsLogBefore (input ++ future) (Some run.run.reported) run.run.engine.log
  log_before input written future stands may =
      let so = stands.reached future may in
      let rest : List (List ℕ) = lines_of (stands.tail ++ future) in
      let later = readings_from total_in (length so.earlier == 0) (names_after no_names so.earlier).version rest in
      let front = front-of true Version.One (lines_of (input ++ future)) so.earlier later.0
      (read_before (input ++ future) (stands.tail ++ future) so.earlier so.leads later.0 later.1) in
      record {
        front = front.front;
        rest = front.rest;
        lines = front.parts;
        readings = so.earlier;
        read = front.parsed;
        names = so.made.names;
        statements = so.made.statements;
        places = omega (arith, run.steady.counted, ap places_in none);
        whole = λ is. cc;
      }

  pub all_run : finished run.run.engine ≡ length run.run.engine.log.statements
  all_run = omega (arith, run.steady.counted, run.steady.ran.0, run.steady.ran.1, ap places_in none)

  -- the same log of an engine that is named otherwise
  module _ (engine : Run) (is : engine ≡ run.run.engine) where
    pub fed_lists : (name : Option (List ℕ)) (text : List ℕ) → ListsRows engine.log name text → TextListsRows run name text
    fed_lists name text rows = λ input written future stands may. (
      run.run.engine.log,
      (log_before input written future stands may, subst (λ (r : Run). ListsRows r.log name text) is rows),
    )

    pub fed_lacks : (name : Option (List ℕ)) → HasNoTable engine.log.names.tables name → TextLacksTable run name
    fed_lacks name lacks = λ input written future stands may. (
      run.run.engine.log,
      (log_before input written future stands may, subst (λ (r : Run). HasNoTable r.log.names.tables name) is lacks),
    )

    pub fed_holders : (kind : Kind) (name text : List ℕ) → ListsHolders engine.log kind name text → TextListsHolders run kind name text
    fed_holders kind name text holders = λ input written future stands may. (
      run.run.engine.log,
      (log_before input written future stands may, subst (λ (r : Run). ListsHolders r.log kind name text) is holders),
    )

    pub fed_names_none : (name : List ℕ) → known_number engine.log.names.tables name ≡ None → TextLacksTable run (Some name)
    fed_names_none name lacks = fed_lacks (Some name) lacks
