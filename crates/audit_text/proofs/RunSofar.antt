-- From a log that was run batch by batch to the text that it was read from.
use Rattle.std.proofs.Common.{◌≡◌, ◌<◌, ◌≤◌, ◌+◌, ◌-◌, ◌++◌, ◌∷◌, ◌⊎◌, ◌∙◌, [], ℕ, Bool, false, true, List, Option, None, Some, append_assoc, ap, arith, drop, inl, inr, length, refl, subst, sym, take}
use Rattle.std.specs.Prelude.{◌==◌, Err, IfSome, MatchBool, Ok, OnOk, Result, Vec}
use Rattle.std.specs.List.Sorted.{IsPermutation}
use Rattle.std.specs.declared.alloc.Global.{Global}
use Rattle.std.specs.Io.KnownBytes.{Appends, Keeps}
use Rattle.std.proofs.lemmas.List.{append-nil, length-append, take-append-drop}
use Rattle.std.proofs.lemmas.List.Sorted.{Contains-permutation, IsPermutation-sym}
use Rattle.line_io.specs.Known.{AppendsFront}
use Rattle.line_io.specs.Lines.{lines_of}
use Rattle.line_io.proofs.Written.{appends_front, appends_kept, appends_none, appends_then}
use Rattle.log_text.proofs.Total.{total_in}
use Rattle.log_text.specs.declared.version.Version.{Version}
use Rattle.model_base.specs.declared.limits.TheConstants.{MOST_PLACES}
use Rattle.model_base.specs.declared.statement.Statement.{Statement}
use Rattle.sequencer.specs.Catalog.{Names, no_names}
use Rattle.sequencer.specs.Foretelling.{Begins}
use Rattle.sequencer.specs.Log.{Accepted}
use Rattle.sequencer.specs.Whole.{IsWhole}
use Rattle.report.specs.Report.{AreParsedLines, ParsedLine, log_of, names_after}
use Rattle.report.proofs.Readings.{readings, readings_from}
use Rattle.report.proofs.ReportLemmas.{log_of-append, names_after-append}
use Rattle.bohm_base.specs.Collecting.{IsLogOf}
use Rattle.bohm_base.specs.declared.collecting.LineOutcome.{LineOutcome}
use Rattle.engine.specs.Engine.{finished}
use Rattle.batched_text.proofs.Fronts.{front_ended}
use Rattle.batched_text.proofs.LaterNames.{begins_after}
use Rattle.batched_text.specs.Quiet.{IsBetween, IsRunOf}
use Rattle.batched_text.specs.Reaching.{EndsTaking, HasTaken, IsLogOfFront}
use Rattle.batched_text.specs.declared.quiet.QuietRun.{QuietRun}
use Rattle.audit_text.specs.Answer.{Answers, AnswersAccepted, HasNoPlace}
use Rattle.audit_text.specs.Places.{AreAnswered, AreAnswers, AreDenials, AreExplanations, LacksPlaceOf, denied_places_from, question_at}
use Rattle.audit_text.specs.Texts.{BeginsText, WritesText}
use Rattle.audit_text.specs.declared.question.Question.{Question}
use Rattle.audit_text.proofs.Earlier.{all-read, version-same}
use Rattle.audit_text.proofs.OneReading.{one_list}
use Rattle.audit_text.proofs.Longer.{answers-longer, explained-within}
use Rattle.audit_text.proofs.Several.{answers_then, denied_parts, denied_stand, some_denials}

-- the log of some readings is this one, and more
record IsPart (log : Accepted) (all : List ParsedLine) : Type 0 where
  more : List Statement
  statements : log.statements ++ more ≡ log_of no_names all
  begins : Begins log.names (names_after no_names all)
  version : (place : ℕ) → place < length log.statements → (names_after no_names all).version ≡ log.names.version

part-of : (input : List ℕ) (log : Accepted) (earlier later all : List ParsedLine) (lines : List LineOutcome) → AreParsedLines (lines_of input) (earlier ++ later)
    → IsLogOf earlier log lines → AreParsedLines (lines_of input) all → IsPart log all
part-of input log earlier later all lines read made are =
    let same : earlier ++ later ≡ all = one_list true Version.One (lines_of input) (earlier ++ later) all read are in
    let names : names_after log.names later ≡ names_after no_names all =
    ap (λ (n : Names). names_after n later) made.names ∙ sym (names_after-append no_names earlier later) ∙ ap (names_after no_names) same in
    record {
      more = log_of log.names later;
      statements = ap (λ (xs : List Statement). xs ++ log_of log.names later) made.statements
          ∙ ap (λ (n : Names). log_of no_names earlier ++ log_of n later) made.names
          ∙ sym (log_of-append no_names earlier later)
          ∙ ap (log_of no_names) same;
      begins = subst (Begins log.names) names (begins_after log.names later);
      version = λ place low.
          ap (λ (n : Names). n.version) (sym names) ∙ version-same (lines_of input) earlier later log place read made.names made.statements low;
    }

front-part : (input : List ℕ) (place : ℕ) (log : Accepted) (all : List ParsedLine) → IsLogOfFront input (Some place) log → AreParsedLines (lines_of input) all → IsPart log all
front-part input place log all so are = part-of input log so.earlier so.later all so.lines so.read so.made are

taken-part : (input : List ℕ) (rest : Option (List ℕ)) (place : ℕ) (log : Accepted) (all : List ParsedLine) → HasTaken false (Some input) rest place log
    → AreParsedLines (lines_of input) all → IsPart log all
taken-part input None place log all so are = absurd so
taken-part input (Some rest) place log all so are =
    let later = readings_from total_in (length so.earlier == 0) (names_after no_names so.earlier).version (lines_of rest) in
    part-of input log so.earlier later.0 all so.lines (so.leads later.0 later.1) so.made are

-- so it is with the log of a run
some-part : (b : Bool) (input : List ℕ) (rest : Option (List ℕ)) (place : ℕ) (log : Accepted) (all : List ParsedLine)
    → MatchBool b (HasTaken false (Some input) rest place log) (EndsTaking (Some input) place log) → AreParsedLines (lines_of input) all → IsPart log all
some-part true input rest place log all so are = taken-part input rest place log all so are
some-part false input rest place log all so are = front-part input place log all (front_ended (Some input) place log so) are

run-part : (input : List ℕ) (left : Option (List ℕ)) (run : QuietRun) (all : List ParsedLine) → IsRunOf (Some input) left run → AreParsedLines (lines_of input) all
    → IsPart run.engine.log all
run-part input left run all so are = some-part run.goes_on input _ run.last run.engine.log all so are

-- where it has ended, the log is that of the first lines
ended-by : (b : Bool) (input : List ℕ) (rest : Option (List ℕ)) (place : ℕ) (log : Accepted) → b ≡ false
    → MatchBool b (HasTaken false (Some input) rest place log) (EndsTaking (Some input) place log) → EndsTaking (Some input) place log
ended-by true input rest place log is so = absurd (cc)
ended-by false input rest place log is so = so

run-ended : (input : List ℕ) (left : Option (List ℕ)) (run : QuietRun) → IsRunOf (Some input) left run → run.goes_on ≡ false
    → IsLogOfFront input (Some run.last) run.engine.log
run-ended input left run so ended = front_ended (Some input) run.last run.engine.log (ended-by run.goes_on input _ run.last run.engine.log ended so)

-- an answer about a part of a log is one about the log
answer-stands : (log : Accepted) (all : List ParsedLine) (question : Question) (text : List ℕ) → IsWhole log → IsPart log all → AnswersAccepted log question text
    → Answers (log_of no_names all) (names_after no_names all) question text
answer-stands log all question text whole part answers =
    let low = explained-within log.statements question.place answers.lines answers.explaining in
    subst (λ (xs : List Statement). Answers xs (names_after no_names all) question text) part.statements
    (answers-longer log whole part.more (names_after no_names all) part.begins (part.version question.place low) question text answers)

answers-stand : (log : Accepted) (all : List ParsedLine) (checked : Bool) (places : List ℕ) (text : List ℕ) → IsWhole log → IsPart log all
    → AreAnswers log.statements log.names checked places text → AreAnswers (log_of no_names all) (names_after no_names all) checked places text
answers-stand log all checked [] text whole part answers = answers
answers-stand log all checked (place ∷ places) text whole part answers = (
  answers.0,
  (
    answers.1.0,
    (
      answer-stands log all (question_at checked place) answers.0 whole part answers.1.1.0,
      (answers-stand log all checked places answers.1.0 whole part answers.1.1.1.0, answers.1.1.1.1),
    ),
  ),
)

-- the answer about a place of the log of a run is the answer about the place of the log of the text
pub answered_sofar : (input : List ℕ) (left : Option (List ℕ)) (run : QuietRun) (all : List ParsedLine) (question : Question) (text : List ℕ) → IsWhole run.engine.log
    → IsRunOf (Some input) left run → AreParsedLines (lines_of input) all → AnswersAccepted run.engine.log question text
    → Answers (log_of no_names all) (names_after no_names all) question text
answered_sofar input left run all question text whole so are answers =
    answer-stands run.engine.log all question text whole (run-part input left run all so are) answers

-- where the run has ended, the log of the text has no place that it hasn't
pub missing : (input : List ℕ) (left : Option (List ℕ)) (run : QuietRun) (place places : ℕ) → IsRunOf (Some input) left run → run.goes_on ≡ false
    → places ≡ length run.engine.log.statements → places ≤ place → place ≤ run.last → HasNoPlace input place places
missing input left run place places so ended all past within =
    let front = run-ended input left run so ended in
    elim front.enough [
      | inl has ↦ absurd (omega (arith, has, all, past, within))
      | inr none ↦
          (front.earlier, (all-read input (Some run.last) run.engine.log front none, (sym (all ∙ ap length front.made.statements), past)))
    ]

-- after what the writer held, the answers about the denied ones of the first so many places were written
pub record HasTold (input : List ℕ) (checked : Bool) (old new : Option (List ℕ)) (count : ℕ) (all : List ParsedLine) : Type 0 where
  pub told : List ℕ
  pub answers : AreAnswers (log_of no_names all) (names_after no_names all) checked (denied_places_from (log_of no_names all) 0 count) told
  pub written : Appends old new told

abbrev pub TellsTo : List ℕ → Bool → Option (List ℕ) → Option (List ℕ) → ℕ → Type 0
TellsTo input checked old new count = (all : List ParsedLine) → AreParsedLines (lines_of input) all → HasTold input checked old new count all

nothing-added : (old : Option (List ℕ)) → Appends old old []
nothing-added old = appends_none old []

-- at first none
pub tells_none : (input : List ℕ) (checked : Bool) (old : Option (List ℕ)) (count : ℕ) → count ≡ 0 → TellsTo input checked old old count
tells_none input checked old count none = λ all are. record {
  told = [];
  answers = subst (λ (n : ℕ). AreAnswers (log_of no_names all) (names_after no_names all) checked (denied_places_from (log_of no_names all) 0 n) []) (sym none) refl;
  written = nothing-added old;
}

-- the answers about the denied places of the last batch of a run
abbrev pub AreOfBatch : Bool → QuietRun → List ℕ → Type 0
AreOfBatch checked run told =
    AreAnswers run.engine.log.statements run.engine.log.names checked
    (denied_places_from run.engine.log.statements run.engine.dropped (finished run.engine - run.engine.dropped)) told

-- where a run is between two batches, of an input whose lines are read so
record IsAt (input : List ℕ) (run : QuietRun) (all : List ParsedLine) : Type 0 where
  whole : IsWhole run.engine.log
  finished_all : finished run.engine ≡ length run.engine.log.statements
  order : run.engine.dropped ≤ finished run.engine
  part : IsPart run.engine.log all

-- those of the places before it, and then they
batch-then : (input : List ℕ) (checked : Bool) (run : QuietRun) (all : List ParsedLine) (before told : List ℕ) → IsAt input run all
    → AreAnswers (log_of no_names all) (names_after no_names all) checked (denied_places_from (log_of no_names all) 0 run.engine.dropped) before → AreOfBatch checked run told
    → AreAnswers (log_of no_names all) (names_after no_names all) checked (denied_places_from (log_of no_names all) 0 (finished run.engine)) (before ++ told)
batch-then input checked run all before told at first after =
    let log : Accepted = run.engine.log in
    let whole_log : List Statement = log_of no_names all in
    let start = run.engine.dropped in
    let count = finished run.engine - run.engine.dropped in
    let within : start + count ≤ length log.statements = omega (arith, at.finished_all, at.order) in
    let same : denied_places_from log.statements start count ≡ denied_places_from whole_log start count =
    sym (denied_stand log at.whole at.part.more start count within) ∙ ap (λ (xs : List Statement). denied_places_from xs start count) at.part.statements in
    let later : AreAnswers whole_log (names_after no_names all) checked (denied_places_from whole_log start count) told =
    subst (λ (places : List ℕ). AreAnswers whole_log (names_after no_names all) checked places told) same
    (answers-stand log all checked (denied_places_from log.statements start count) told at.whole at.part after) in
    subst (λ (places : List ℕ). AreAnswers whole_log (names_after no_names all) checked places (before ++ told))
    (sym (denied_parts whole_log 0 start count (finished run.engine) start (omega (arith, at.order)) (omega arith)))
    (answers_then whole_log (names_after no_names all) checked (denied_places_from whole_log 0 start) (denied_places_from whole_log start count) before told first later)

run-at : (input : List ℕ) (left : Option (List ℕ)) (given : ℕ) (run : QuietRun) (all : List ParsedLine) → IsBetween run given → run.engine.dropped ≤ finished run.engine
    → IsRunOf (Some input) left run → AreParsedLines (lines_of input) all → IsAt input run all
run-at input left given run all between order so are = record {
  whole = between.whole;
  finished_all = between.all;
  order = order;
  part = run-part input left run all so are;
}

-- a batch was told after those before it
pub tells_batch : (input : List ℕ) (checked : Bool) (left old mid new : Option (List ℕ)) (given : ℕ) (run : QuietRun) → IsBetween run given
    → run.engine.dropped ≤ finished run.engine → IsRunOf (Some input) left run → TellsTo input checked old mid run.engine.dropped
    → (told : List ℕ) × (AreOfBatch checked run told × Appends mid new told) → TellsTo input checked old new (finished run.engine)
tells_batch input checked left old mid new given run between order so before batch = λ all are.
    let first = before all are in record {
      told = first.told ++ batch.0;
      answers = batch-then input checked run all first.told batch.0 (run-at input left given run all between order so are) first.answers batch.1.0;
      written = appends_then old mid new first.told batch.0 first.written batch.1.1;
    }

-- where the answers about the first places are known, those about all begin with them
begins-all : (input : List ℕ) (checked : Bool) (old new : Option (List ℕ)) (count : ℕ) (all : List ParsedLine) (told : List ℕ) → AreParsedLines (lines_of input) all
    → AreAnswers (log_of no_names all) (names_after no_names all) checked (denied_places_from (log_of no_names all) 0 count) told → count ≤ length (log_of no_names all)
    → AppendsFront old new told → (text : List ℕ) × (AreDenials input checked text × AppendsFront old new text)
begins-all input checked old new count all told are answers within front =
    let log : List Statement = log_of no_names all in
    let names : Names = names_after no_names all in
    let more = length log - count in
    let rest = some_denials log names checked count more (omega (arith, within)) in
    let whole : AreAnswers log names checked (denied_places_from log 0 (length log)) (told ++ rest.0) =
    subst (λ (places : List ℕ). AreAnswers log names checked places (told ++ rest.0))
    (sym (denied_parts log 0 count more (length log) count (omega (arith, within)) (omega arith)))
    (answers_then log names checked (denied_places_from log 0 count) (denied_places_from log count more) told rest.0 answers rest.1) in
    let parts : take front.0 told ++ (drop front.0 told ++ rest.0) ≡ told ++ rest.0 =
    sym (append_assoc (take front.0 told) (drop front.0 told) rest.0) ∙ ap (λ (t : List ℕ). t ++ rest.0) (take-append-drop front.0 told) in
    (told ++ rest.0, ((all, (are, whole)), appends_front old new (take front.0 told) (drop front.0 told ++ rest.0) (told ++ rest.0) front.1 parts))

all-front : (old new : Option (List ℕ)) (told : List ℕ) → Appends old new told → AppendsFront old new told
all-front old new told appends = appends_front old new told [] told appends (append-nil told)

-- so far a beginning of all was written
pub tells_begun : (input : List ℕ) (checked : Bool) (left old new : Option (List ℕ)) (given count : ℕ) (run : QuietRun) → IsBetween run given → count ≤ finished run.engine
    → IsRunOf (Some input) left run → TellsTo input checked old new count → BeginsText (λ input text. AreDenials input checked text) (Some input) old new
tells_begun input checked left old new given count run between order so before =
    let all = readings total_in (lines_of input) in
    let first = before all.0 all.1 in
    let part = run-part input left run all.0 so all.1 in
    let within : count ≤ length (log_of no_names all.0) =
    omega (arith, order, between.all, length-append run.engine.log.statements part.more, ap length part.statements) in
    inr (begins-all input checked old new count all.0 first.told all.1 first.answers within (all-front old new first.told first.written))

-- also where a front of the batch was
pub tells_front : (input : List ℕ) (checked : Bool) (left old mid new : Option (List ℕ)) (given : ℕ) (run : QuietRun) → IsBetween run given
    → run.engine.dropped ≤ finished run.engine → IsRunOf (Some input) left run → TellsTo input checked old mid run.engine.dropped
    → (new ≡ mid) ⊎ ((told : List ℕ) × (AreOfBatch checked run told × AppendsFront mid new told))
    → BeginsText (λ input text. AreDenials input checked text) (Some input) old new
tells_front input checked left old mid new given run between order so before (inl same) =
    tells_begun input checked left old new given run.engine.dropped run between order so
    (subst (λ (w : Option (List ℕ)). TellsTo input checked old w run.engine.dropped) (sym same) before)
tells_front input checked left old mid new given run between order so before (inr batch) =
    let all = readings total_in (lines_of input) in
    let first = before all.0 all.1 in
    let at = run-at input left given run all.0 between order so all.1 in
    let within : finished run.engine ≤ length (log_of no_names all.0) =
    omega (arith, between.all, length-append run.engine.log.statements at.part.more, ap length at.part.statements) in
    let answers = batch-then input checked run all.0 first.told batch.0 at first.answers batch.1.0 in
    let part : first.told ++ take batch.1.1.0 batch.0 ++ drop batch.1.1.0 batch.0 ≡ first.told ++ batch.0 =
    append_assoc first.told (take batch.1.1.0 batch.0) (drop batch.1.1.0 batch.0) ∙ ap (λ (t : List ℕ). first.told ++ t) (take-append-drop batch.1.1.0 batch.0) in
    inr (begins-all input checked old new (finished run.engine) all.0 (first.told ++ batch.0) all.1 answers within
    (appends_front old new (first.told ++ take batch.1.1.0 batch.0) (drop batch.1.1.0 batch.0) (first.told ++ batch.0)
    (appends_then old mid new first.told (take batch.1.1.0 batch.0) first.written batch.1.1.1) part))

-- at the end all were
pub tells_all : (input : List ℕ) (checked : Bool) (left old new : Option (List ℕ)) (given : ℕ) (run : QuietRun) → IsBetween run given → IsRunOf (Some input) left run
    → run.goes_on ≡ false → run.last ≡ MOST_PLACES → TellsTo input checked old new (finished run.engine)
    → (text : List ℕ) × (AreDenials input checked text × Appends old new text)
tells_all input checked left old new given run between so ended last before =
    let front = run-ended input left run so ended in
    let none : front.later ≡ [] = elim front.enough [ inl has ↦ absurd (omega (arith, has, last, between.most)) | inr none ↦ none ] in
    let all : List ParsedLine = front.earlier in
    let are = all-read input (Some run.last) run.engine.log front none in
    let told = before all are in
    let count : finished run.engine ≡ length (log_of no_names all) = between.all ∙ ap length front.made.statements in (
      told.told,
      (
        (
          all,
          (
            are,
            subst (λ (n : ℕ). AreAnswers (log_of no_names all) (names_after no_names all) checked (denied_places_from (log_of no_names all) 0 n) told.told) count
                told.answers,
          ),
        ),
        told.written,
      ),
    )

-- what follows where the input is known
pub if_known : (i left : Option (List ℕ)) (run : QuietRun) (P : List ℕ → Type 0) → IsRunOf i left run → ((input : List ℕ) → IsRunOf (Some input) left run → P input) → IfSome i P
if_known None left run P so known = tt
if_known (Some input) left run P so known = known input so

-- so a beginning was written
pub denials_begun : (checked : Bool) (i left old new : Option (List ℕ)) (run : QuietRun) → IsRunOf i left run
    → ((input : List ℕ) → IsRunOf (Some input) left run → BeginsText (λ input text. AreDenials input checked text) (Some input) old new)
    → BeginsText (λ input text. AreDenials input checked text) i old new
denials_begun checked None left old new run so begun = tt
denials_begun checked (Some input) left old new run so begun = begun input so

-- what was written stays when the writer is flushed
pub denials_written : (checked : Bool) (i left old mid new : Option (List ℕ)) (run : QuietRun) → IsRunOf i left run → Keeps mid new
    → ((input : List ℕ) → IsRunOf (Some input) left run → WritesText (λ input text. AreDenials input checked text) (Some input) old mid)
    → WritesText (λ input text. AreDenials input checked text) i old new × BeginsText (λ input text. AreDenials input checked text) i old new
denials_written checked None left old mid new run so keeps done = (tt, tt)
denials_written checked (Some input) left old mid new run so keeps done =
    let all = done input so in
    let written : Appends old new all.0 = appends_kept old mid new all.0 all.1.1 keeps in
    ((all.0, (all.1.0, written)), inr (all.0, (all.1.0, all-front old new all.0 written)))

-- the answers about places in order are those about the same places in the order asked
pub places_written : {A F : Type 0} (result : Result A F) (checked : Bool) (places sorted : List ℕ) (texts : List (Vec ℕ Global)) (i old new : Option (List ℕ))
    → IfSome i (λ input. (all : List ParsedLine) → AreParsedLines (lines_of input) all
    → AreAnswered (log_of no_names all) (names_after no_names all) checked sorted texts)
    → OnOk result ((log : List Statement) (names : Names) (checked : Bool) → AreAnswered log names checked sorted texts
    → (told : List ℕ) × (AreAnswers log names checked places told × Appends old new told))
    → OnOk result (WritesText (λ input text. AreExplanations input places checked text) i old new)
places_written (Err fault) checked places sorted texts i old new answered done = tt
places_written (Ok value) checked places sorted texts None old new answered done = tt
places_written (Ok value) checked places sorted texts (Some input) old new answered done =
    let all = readings total_in (lines_of input) in
    let told = done (log_of no_names all.0) (names_after no_names all.0) checked (answered all.0 all.1) in
    (told.0, ((all.0, (all.1, told.1.0)), told.1.1))

pub places_begun : (checked : Bool) (places sorted : List ℕ) (texts : List (Vec ℕ Global)) (i old new : Option (List ℕ))
    → IfSome i (λ input. (all : List ParsedLine) → AreParsedLines (lines_of input) all
    → AreAnswered (log_of no_names all) (names_after no_names all) checked sorted texts)
    → (new ≡ old) ⊎ ((log : List Statement) (names : Names) (checked : Bool) → AreAnswered log names checked sorted texts
    → (told : List ℕ) × (AreAnswers log names checked places told × AppendsFront old new told))
    → BeginsText (λ input text. AreExplanations input places checked text) i old new
places_begun checked places sorted texts None old new answered begun = tt
places_begun checked places sorted texts (Some input) old new answered (inl same) = inl same
places_begun checked places sorted texts (Some input) old new answered (inr begun) =
    let all = readings total_in (lines_of input) in
    let told = begun (log_of no_names all.0) (names_after no_names all.0) checked (answered all.0 all.1) in
    inr (told.0, ((all.0, (all.1, told.1.0)), told.1.1))

-- nor are all of the places there in the order asked
pub lacks_asked : (i : Option (List ℕ)) (places sorted : List ℕ) (count : ℕ) → IsPermutation places sorted → IfSome i (λ input. LacksPlaceOf input sorted count)
    → IfSome i (λ input. LacksPlaceOf input places count)
lacks_asked None places sorted count moved lacks = tt
lacks_asked (Some input) places sorted count moved lacks =
    (lacks.0, (Contains-permutation sorted places lacks.0 (IsPermutation-sym places sorted moved) lacks.1.0, lacks.1.1))
