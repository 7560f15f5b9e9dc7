-- An explanation of a place of a run that is fed is one of each text that begins with what was taken.
use Rattle.std.proofs.Common.{◌≡◌, ◌<◌, ◌++◌, ◌∷◌, ◌∙◌, [], ℕ, List, Some, ap, arith, false, length, refl, subst, sym}
use Rattle.std.specs.Prelude.{◌==◌}
use Rattle.std.proofs.lemmas.List.{append-nil}
use Rattle.log_text.proofs.Total.{total_in}
use Rattle.line_io.specs.Lines.{lines_of}
use Rattle.model_base.specs.declared.statement.Statement.{Statement}
use Rattle.explain.specs.declared.line.Line.{Line}
use Rattle.sequencer.specs.Catalog.{Names, no_names}
use Rattle.sequencer.specs.Log.{Accepted}
use Rattle.sequencer.specs.Whole.{IsWhole}
use Rattle.report.specs.Report.{AreParsedFrom, AreParsedLines, ParsedLine, log_of, names_after, place_text}
use Rattle.report.proofs.ReportLemmas.{log_of-append, names_after-append}
use Rattle.report.proofs.Readings.{readings_from}
use Rattle.bohm_base.specs.Collecting.{IsLogOf}
use Rattle.bohm_base.specs.declared.collecting.LineOutcome.{LineOutcome}
use Rattle.explain.specs.Explained.{explained}
use Rattle.audit_text.specs.Explanation.{explanation_text}
use Rattle.batched_text.proofs.Ends.{read_before}
use Rattle.batched_text.proofs.LaterNames.{begins_after, some-first, version-later}
use Rattle.audit_text.specs.Answer.{Answers, AnswersAccepted, IsExplanation}
use Rattle.audit_text.specs.declared.question.Question.{Question}
use Rattle.audit_text.proofs.Longer.{answers-longer, explained-within}
use Rattle.fed_run.specs.Stands.{TextExplains}
use Rattle.fed_run.specs.declared.fed.FedRun.{FedRun}

-- after a line that has a place later lines leave the version
version-same : (earlier later : List ParsedLine) (log : Accepted) (place : ℕ) (lines : List (List ℕ)) → log.names ≡ names_after no_names earlier
    → log.statements ≡ log_of no_names earlier → place < length log.statements
    → AreParsedFrom (length earlier == 0) (names_after no_names earlier).version lines later → (names_after log.names later).version ≡ log.names.version
version-same [] later log place lines names statements low are = absurd (omega (arith, low, ap length statements))
version-same (first ∷ earlier) later log place lines names statements low are =
    let behind = rw (some-first first earlier) at are in
    version-later lines later log.names (subst (λ (n : Names). AreParsedFrom false n.version lines later) (sym names) behind)

-- the answer about the log of the first lines of a text is the answer about the text
answers_text : (input : List ℕ) (log : Accepted) (earlier later : List ParsedLine) (lines : List LineOutcome) (question : Question) (text : List ℕ) → IsWhole log
    → (rest : List (List ℕ)) → AreParsedFrom (length earlier == 0) (names_after no_names earlier).version rest later
    → AreParsedLines (lines_of input) (earlier ++ later) → IsLogOf earlier log lines → AnswersAccepted log question text → IsExplanation input question text
answers_text input log earlier later lines question text whole rest are reads made answers =
    let after : Names = names_after log.names later in
    let low : question.place < length log.statements = explained-within log.statements question.place answers.lines answers.explaining in
    let stands : Answers (log.statements ++ log_of log.names later) after question text =
    answers-longer log whole (log_of log.names later) after (begins_after log.names later)
    (version-same earlier later log question.place rest made.names made.statements low are) question text answers in
    let statements : log.statements ++ log_of log.names later ≡ log_of no_names (earlier ++ later) =
    ap (λ (xs : List Statement). xs ++ log_of log.names later) made.statements
    ∙ ap (λ (n : Names). log_of no_names earlier ++ log_of n later) made.names
    ∙ sym (log_of-append no_names earlier later) in
    let names : after ≡ names_after no_names (earlier ++ later) =
    ap (λ (n : Names). names_after n later) made.names ∙ sym (names_after-append no_names earlier later) in (
      earlier ++ later,
      (
        reads,
        subst (λ (n : Names). Answers (log_of no_names (earlier ++ later)) n question text) names
            (subst (λ (xs : List Statement). Answers xs after question text) statements stands),
      ),
    )

-- whatever comes, what explains a place of the log that was taken explains it
pub fed_explains : (run : FedRun) (place : ℕ) (lines : List Line) (text : List ℕ) → explained run.run.engine.log.statements place ≡ Some lines
    → text ≡ place_text run.run.engine.log.statements run.run.engine.log.names place ++ explanation_text run.run.engine.log.statements run.run.engine.log.names lines
    → TextExplains run place text
fed_explains run place lines text is told = λ input written future stands may.
    let so = stands.reached future may in
    let rest : List (List ℕ) = lines_of (stands.tail ++ future) in
    let later = readings_from total_in (length so.earlier == 0) (names_after no_names so.earlier).version rest in
    let log : Accepted = run.run.engine.log in
    let question : Question = record { place = place; is_checked = false } in
    let whole_text : List ℕ = place_text log.statements log.names place ++ explanation_text log.statements log.names lines in
    answers_text (input ++ future) log so.earlier later.0 (so.reported ++ run.run.waiting.items) question text so.whole rest later.1 (read_before (input ++ future) (stands.tail ++ future) so.earlier so.leads later.0 later.1) so.made
    (record {
      lines = lines;
      explaining = is;
      ending = [];
      ended = refl;
      told = told ∙ sym (append-nil whole_text);
    })
