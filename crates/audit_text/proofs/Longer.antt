-- The answer about a place of a log is the answer about the place of a log to which more is appended.
use Rattle.std.proofs.Common.{◌≡◌, ◌<◌, ◌++◌, ◌∷◌, [], ℕ, List, Option, None, Some, drop, length, refl, sym, ◌∙◌, ap, subst, arith}
use Rattle.std.specs.Prelude.{All, Bool, MatchBool, codes, false, if◌then◌else◌, slice_get, true}
use Rattle.std.specs.List.{flat_map}
use Rattle.std.specs.Option.{option_map}
use Rattle.std.proofs.lemmas.List.Elements.{All-head, All-tail}
use Rattle.std.proofs.lemmas.Option.{slice_get_within}
use Rattle.model_base.specs.declared.deed.Cause.TheVariants.{Taken}
use Rattle.model_base.specs.declared.deed.Deed.{Deed}
use Rattle.model_base.specs.declared.deed.Need.{Need}
use Rattle.model_base.specs.declared.statement.Statement.{Statement}
use Rattle.model_base.specs.Outcomes.{World, deeds_before, needs, owners}
use Rattle.model_base.specs.RecordGrantees.{WereGranted}
use Rattle.model_base.proofs.Growing.{get-front, owners-append, world-stands}
use Rattle.model_base.proofs.Growth.{deeds_before-stands}
use Rattle.explain.specs.declared.line.Line.{Line}
use Rattle.explain.specs.declared.line.Shown.{Shown}
use Rattle.explain.specs.ExplainedNeeds.{explaining_lines}
use Rattle.log_text.specs.declared.version.Version.{Version}
use Rattle.sequencer.specs.Catalog.{Names}
use Rattle.sequencer.specs.Foretelling.{Begins}
use Rattle.sequencer.specs.Log.{Accepted}
use Rattle.sequencer.specs.Whole.{IsWhole}
use Rattle.sequencer.proofs.Beginnings.{behind}
use Rattle.report.specs.Report.{place_text}
use Rattle.report.specs.Text.{cause_text, need_text, record_in, records_text, table_name}
use Rattle.bohm_base.proofs.Reporting.{granted-known, name-longer, records-longer}
use Rattle.batched_text.proofs.Reports.{needs-own, place-same}
use Rattle.explain.specs.Explained.{IsExplainedBy, LinesAreGranted, LinesAreNamed, explained, lines_for}
use Rattle.explain.specs.Lines.{ranks_shown}
use Rattle.explain.proofs.Granted.{explained-granted}
use Rattle.explain.proofs.Lines.{explained-sound, lines-named, needs_named}
use Rattle.audit_text.specs.Explanation.{explanation_text, need_line_text, shown_text}
use Rattle.log_text.specs.Statement.{kind_word}
use Rattle.audit_text.specs.Answer.{Answers, AnswersAccepted, EndsAnswer}
use Rattle.audit_text.specs.declared.question.Question.{Question}
use Rattle.audit_text.proofs.LaterTables.{lines-more}

-- a place that is explained is there
pub explained-there : (log : List Statement) (place : ℕ) (lines : List Line) → explained log place ≡ Some lines
    → (statement : Statement) × ((slice_get log place ≡ Some statement) × (lines_for log place statement ≡ lines))
explained-there log place lines is = by_statement (slice_get log place) refl is
  where
    by_statement : (found : Option Statement) → slice_get log place ≡ found → option_map (lines_for log place) found ≡ Some lines
        → (statement : Statement) × ((slice_get log place ≡ Some statement) × (lines_for log place statement ≡ lines))
    by_statement None there is = absurd (cc)
    by_statement (Some statement) there is = let same : lines_for log place statement ≡ lines = cc in (statement, (there, same))

pub explained-within : (log : List Statement) (place : ℕ) (lines : List Line) → explained log place ≡ Some lines → place < length log
explained-within log place lines is = let found = explained-there log place lines is in slice_get_within log place found.0 found.1.0

-- the same comes after lines that explain the place of another log too
ends-there : (log all : List Statement) (question : Question) (lines : List Line) (ending : List ℕ) → explained all question.place ≡ Some lines
    → EndsAnswer log question lines ending → EndsAnswer all question lines ending
ends-there log all question lines ending is ended = by_flag question.is_checked ended
  where
    by_flag : (b : Bool) → MatchBool b (IsExplainedBy log question.place lines × (ending ≡ codes "checked\n")) (ending ≡ [])
        → MatchBool b (IsExplainedBy all question.place lines × (ending ≡ codes "checked\n")) (ending ≡ [])
    by_flag true told = (explained-sound all question.place lines is, told.1)
    by_flag false none = none

module _ (log : Accepted) (whole : IsWhole log) (more : List Statement) (later : Names) (begins : Begins log.names later) (same : later.version ≡ log.names.version) where
  abbrev all : List Statement
  all = log.statements ++ more

  -- records of grants that were made are spelled the same
  records-same : (place : ℕ) (ranks : List ℕ) → WereGranted log.statements place ranks → records_text all later ranks ≡ records_text log.statements log.names ranks
  records-same place ranks were =
      let names : Names = log.names in
      let extra : List (List ℕ) = drop (length names.users) later.users in
      ap (λ (v : Version). flat_map (λ ranked. 32 ∷ record_in v all later.users ranked) ranks) same
      ∙ ap (λ (users : List (List ℕ)). flat_map (λ ranked. 32 ∷ record_in names.version all users ranked) ranks) (behind names.users later.users begins.users)
      ∙ records-longer log.statements more names.users extra names.version ranks (granted-known log whole place ranks were)

  shown-same : (place : ℕ) (shown : Shown) → WereGranted log.statements place (ranks_shown shown)
      → shown_text all later shown ≡ shown_text log.statements log.names shown
  shown-same place Shown.Owner were = refl
  shown-same place (Shown.Grants ranks) were = ap (λ (text : List ℕ). codes " grants" ++ text) (records-same place ranks were)
  shown-same place Shown.Never were = refl
  shown-same place (Shown.Taken lost ranks) were = ap (λ (text : List ℕ). cause_text (Taken lost) ++ (codes " grants" ++ text)) (records-same place ranks were)

  -- and a line names the same table
  line-same : (place : ℕ) (line : Line) → line.need.table < length log.names.tables → WereGranted log.statements place (ranks_shown line.shown)
      → need_line_text all later line ≡ need_line_text log.statements log.names line
  line-same place line low were =
      let names : Names = log.names in
      ap (λ (name : List ℕ). codes "need "
      ++ (kind_word line.need.kind ++ codes " " ++ name ++ (if line.need.option then codes " option" else []))
      ++ shown_text all later line.shown ++ codes "\n")
      (ap (λ (tables : List (List ℕ)). table_name tables line.need.table) (behind names.tables later.tables begins.tables)
      ∙ name-longer names.tables (drop (length names.tables) later.tables) line.need.table low)
      ∙ ap (λ (text : List ℕ). codes "need " ++ need_text names.tables line.need ++ text ++ codes "\n") (shown-same place line.shown were)

  lines-same : (place : ℕ) (lines : List Line) → LinesAreNamed (length log.names.tables) lines → LinesAreGranted log.statements place lines
      → explanation_text all later lines ≡ explanation_text log.statements log.names lines
  lines-same place [] named were = refl
  lines-same place (line ∷ lines) named were =
      let P : Line → Type 0 = λ l. l.need.table < length log.names.tables in
      let Q : Line → Type 0 = λ l. WereGranted log.statements place (ranks_shown l.shown) in
      ap (λ (text : List ℕ). text ++ explanation_text all later lines)
      (line-same place line (All-head P line lines named) (All-head Q line lines were))
      ∙ ap (λ (text : List ℕ). need_line_text log.statements log.names line ++ text)
      (lines-same place lines (All-tail P line lines named) (All-tail Q line lines were))

  -- the same lines explain a place
  lines_for-longer : (place : ℕ) (statement : Statement) → place < length log.statements → slice_get log.statements place ≡ Some statement
      → lines_for all place statement ≡ lines_for log.statements place statement
  lines_for-longer place statement low there =
      let own = owners log.statements in
      let user = statement.user in
      let needed = needs statement.form in
      let count : length log.names.tables ≡ length own = sym whole.owned ∙ ap length whole.owners in
      let within : All (λ (need : Need). need.table < length own) needed =
      subst (λ (n : ℕ). All (λ (need : Need). need.table < n) needed) count (needs_named log whole place statement there) in
      let deeds : deeds_before (log.statements ++ more) place ≡ deeds_before log.statements place =
      ap (λ (world : World). world.deeds) (world-stands log.statements more place (needs-own log whole) (omega arith)) in
      ap (λ (users : List ℕ). explaining_lines users (deeds_before (log.statements ++ more) place) place user needed) (owners-append log.statements more)
      ∙ ap (λ (ds : List Deed). explaining_lines (own ++ owners more) ds place user needed) deeds
      ∙ lines-more own (owners more) (deeds_before log.statements place) place user needed (deeds_before-stands log.statements place).proper within

  pub answers-longer : (question : Question) (text : List ℕ) → AnswersAccepted log question text → Answers all later question text
  answers-longer question text answers =
      let place = question.place in
      let lines : List Line = answers.lines in
      let found = explained-there log.statements place lines answers.explaining in
      let statement : Statement = found.0 in
      let low : place < length log.statements = slice_get_within log.statements place statement found.1.0 in
      let there : slice_get all place ≡ Some statement = get-front log.statements more place low ∙ found.1.0 in
      let named : LinesAreNamed (length log.names.tables) lines =
      subst (LinesAreNamed (length log.names.tables)) found.1.1
      (lines-named (length log.names.tables) (owners log.statements) (deeds_before log.statements place) place statement.user (needs statement.form)
      (needs_named log whole place statement found.1.0)) in
      let explaining : explained all place ≡ Some lines =
      ap (option_map (lines_for all place)) there
      ∙ ap (λ (ls : List Line). Some ls) (lines_for-longer place statement low found.1.0 ∙ found.1.1) in
      record {
        lines = lines;
        explaining = explaining;
        ending = answers.ending;
        ended = ends-there log.statements all question lines answers.ending explaining answers.ended;
        told = answers.told
            ∙ ap (λ (t : List ℕ). t ++ explanation_text log.statements log.names lines ++ answers.ending)
            (sym (place-same log whole more later begins same place low))
            ∙ ap (λ (t : List ℕ). place_text all later place ++ t ++ answers.ending)
            (sym (lines-same place lines named (explained-granted log.statements place lines answers.explaining)));
      }
