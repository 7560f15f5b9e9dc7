use Rattle.std.proofs.Common.{◌≡◌, ◌<◌, ◌≤◌, ℕ, List, Option, Some, get_or, length}
use Rattle.std.specs.Prelude.{Vec}
use Rattle.std.specs.declared.alloc.Global.{Global}
use Rattle.line_io.specs.Lines.{lines_of}
use Rattle.sequencer.specs.Catalog.{no_names}
use Rattle.report.specs.Report.{AreParsedLines, ParsedLine, log_of, names_after}
use Rattle.batched_text.specs.Quiet.{IsBetween, IsRunOf}
use Rattle.audit_text.specs.Answer.{Answers}
use Rattle.audit_text.specs.Places.{question_at}
use Rattle.audit_text.proofs.places.answer_each.Given as goal

abbrev pub invariant-loop-place : goal.invariant-loop-place
invariant-loop-place g l = record {
  between : IsBetween l.run l.reader.given;
  of : (input : Option (List ℕ)) → IsRunOf input (g.R.Read.remaining l.initial.reader.inner) l.initial.run
      → IsRunOf input (g.R.Read.remaining l.reader.inner) l.run;
  kept : (k : ℕ) → l.place-index ≤ k → k < length l.sorted → l.run.engine.dropped ≤ get_or l.sorted k 0;
  last : l.run.last ≡ l.initial.run.last;
  count : length l.texts.items ≡ l.place-index;
  answers : (input : List ℕ) (readings : List ParsedLine) → AreParsedLines (lines_of input) readings
      → IsRunOf (Some input) (g.R.Read.remaining l.initial.reader.inner) l.initial.run
      → (k : ℕ) (d : Vec ℕ Global) → k < l.place-index
      → Answers (log_of no_names readings) (names_after no_names readings) (question_at l.is_checked (get_or l.sorted k 0)) (get_or l.texts.items k d).items;
  read_errors : l.reader.errors ≡ l.initial.reader.errors;
}
