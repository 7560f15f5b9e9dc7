use Rattle.std.proofs.Common.{ℕ, List, ◌∙◌}
use Rattle.std.proofs.lemmas.Result.{IfOk-weaker}
use Rattle.line_io.specs.Lines.{lines_of}
use Rattle.sequencer.specs.Catalog.{no_names}
use Rattle.report.specs.Report.{AreParsedLines, ParsedLine, log_of, names_after}
use Rattle.audit_text.specs.Places.{AreAnswered, LacksPlaceOf}
use Rattle.audit_text.proofs.RunSofar.{if_known}
use Rattle.audit_text.proofs.places.run_places.Goals as goal

pub returns-clause-answers : goal.returns-clause-answers
returns-clause-answers g c =
    IfOk-weaker c.answer_each.result _ _
    (λ texts answers.
    if_known _ _ c.in_ok-run.run'
    (λ input. (readings : List ParsedLine) → AreParsedLines (lines_of input) readings
    → AreAnswered (log_of no_names readings) (names_after no_names readings) c.args.is_checked c.args.sorted.now texts.items)
    c.in_ok-run.ensures.of (λ input so readings are. answers input readings are so))
    c.answer_each.ensures.answers

pub returns-clause-none : goal.returns-clause-none
returns-clause-none g c = λ places is.
    if_known _ _ c.in_ok-run.run' (λ input. LacksPlaceOf input c.args.sorted.now places) c.in_ok-run.ensures.of (λ input so. c.answer_each.ensures.none places is input so)

pub returns-clause-other : goal.returns-clause-other
returns-clause-other g c = λ other. c.answer_each.ensures.other other ∙ c.begin.ensures.other (λ is. cc (is, c.in_ok-run.was))
