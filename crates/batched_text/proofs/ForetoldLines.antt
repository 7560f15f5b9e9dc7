-- What a line that was read before its turn results in in its turn.
use Rattle.std.proofs.Common.{◌≡◌, ℕ, ◌<◌, List, ◌++◌, ap, arith, length, refl, sym, ◌∙◌, subst}
use Rattle.std.proofs.lemmas.Bool.{ne_eqb}
use Rattle.std.specs.Prelude.{◌==◌, Bool, false, Option, None, slice_index_or}
use Rattle.model_base.specs.declared.limits.TheConstants.{MOST_PLACES}
use Rattle.model_base.specs.declared.statement.Statement.{Statement}
use Rattle.log_text.specs.Fault.{fault_in}
use Rattle.log_text.specs.Statement.{IsInGrammar, ReadsIn, Sentence}
use Rattle.log_text.specs.declared.version.Version.{Version}
use Rattle.line_words.specs.declared.fault.LineFault.{LineFault}
use Rattle.log_text.proofs.Total.{total_in}
use Rattle.sequencer.specs.Catalog.{Names}
use Rattle.sequencer.specs.Foretelling.{Begins, IsForetold}
use Rattle.sequencer.specs.Log.{Accepted, with_accepted}
use Rattle.sequencer.specs.Refusal.{refusal}
use Rattle.sequencer.specs.Whole.{IsWhole}
use Rattle.sequencer.specs.declared.refused.Refused.{Refused}
use Rattle.sequencer.proofs.Beginnings.{begins_further}
use Rattle.read_ahead.specs.Ahead.{IsAhead, line_from}
use Rattle.read_ahead.specs.declared.ahead.Ahead.{Ahead}
use Rattle.read_ahead.specs.declared.ahead.Found.{Found}
use Rattle.report.specs.Report.{ParsedLine, faulty, names_if, read, statement_if}
use Rattle.bohm_base.specs.Collecting.{ReadsAs, line_outcome, outcome_unless, with_reading}
use Rattle.bohm_base.specs.declared.collecting.LineOutcome.{LineOutcome}
use Rattle.bohm_base.proofs.LinesRead.{reads_faulty, reads_statement}
use Rattle.batched_text.specs.Batching.{Deals}
use Rattle.batched_text.specs.Foretold.{WasReadAhead, WereReadAhead, log_names}
use Rattle.batched_text.specs.declared.line_run.LineRun.{LineRun}
use Rattle.batched_text.proofs.LaterNames.{begins_reading}

-- a sentence that passes its tests is read into the log as it is accepted
pub known_log : (log : Accepted) (sentence : Sentence) → refusal log.names sentence ≡ None → with_accepted log sentence ≡ with_reading log (read sentence)
known_log log sentence passes =
    ap (λ (r : Option Refused). record { names = names_if log.names sentence r; statements = log.statements ++ statement_if log.names sentence r }) (sym passes)

pub known_became : (names : Names) (sentence : Sentence) → refusal names sentence ≡ None → LineOutcome.Accepted ≡ line_outcome names (read sentence)
known_became names sentence passes = ap outcome_unless (sym passes)

-- what was found of a line is how it is read
known_reading : (version : Version) (line : List ℕ) (sentence : Sentence) → ReadsIn version line sentence → fault_in version line ≡ None
    → ReadsAs false version line (read sentence)
known_reading version line sentence reads sound = reads_statement false version line sentence refl reads sound

-- so a line is read of which a statement was found; while the log is the same and has a place left, it takes the line's sentence as that
-- statement
pub known_at : (old now : LineRun) (bytes : List ℕ) (ahead : Ahead) (statement : Statement) → now.engine.log ≡ old.engine.log → IsWhole now.engine.log
    → length old.engine.log.statements < MOST_PLACES → WasReadAhead (log_names old) bytes ahead → ahead.found ≡ Found.Known statement
    → (sentence : Sentence) × (IsInGrammar sentence × (ReadsAs false (log_names now).version (line_from bytes ahead.from) (read sentence) × IsForetold (log_names now) sentence statement))
known_at old now bytes ahead statement same whole place was is =
    let found = was.ahead.found in
    let line : List ℕ = line_from bytes ahead.from in
    let version : Version = was.names.version in
    let sound : fault_in version line ≡ None = found.sound statement is in
    let reading = total_in version line sound in
    let stays : version ≡ (log_names now).version = was.version ∙ ap (λ (log : Accepted). log.names.version) (sym same) in
    let begins : Begins was.names (log_names now) = subst (λ (log : Accepted). Begins was.names log.names) (sym same) was.begins in
    let left : (log_names now).places < MOST_PLACES = omega (arith, place, whole.places, ap (λ (log : Accepted). length log.statements) same) in
    let reads = subst (λ (v : Version). ReadsAs false v line (read reading.0)) stays (known_reading version line reading.0 reading.1 sound) in
    (reading.0, (reading.1.grammar, (reads, found.known statement reading.0 is reading.1 (log_names now) begins left)))

pub faulty_at : (now : Names) (bytes : List ℕ) (ahead : Ahead) (fault : LineFault) → WasReadAhead now bytes ahead → ahead.found ≡ Found.Faulty fault
    → ReadsAs false now.version (line_from bytes ahead.from) (faulty fault)
faulty_at now bytes ahead fault was is =
    subst (λ (v : Version). ReadsAs false v (line_from bytes ahead.from) (faulty fault)) was.version
    (reads_faulty false was.names.version (line_from bytes ahead.from) fault refl (was.ahead.found.faulty fault is))

-- so a line after the first is read
pub reads_later : (number : ℕ) (version : Version) (line : List ℕ) (reading : ParsedLine) → 1 < number → ReadsAs false version line reading
    → ReadsAs (number == 1) version line reading
reads_later number version line reading begun reads =
    subst (λ (b : Bool). ReadsAs b version line reading) (sym (ne_eqb number 1 (λ same. omega (arith, same, begun)))) reads

-- a line that was dealt with only names after it
pub begins_dealt : (reading : ParsedLine) (old new : LineRun) → Deals reading old new → Begins (log_names old) (log_names new)
begins_dealt reading old new deals =
    subst (λ (log : Accepted). Begins (log_names old) log.names) (sym deals.log) (begins_reading (log_names old) reading)

-- one of the lines that were read before their turn was, whatever names came since
pub was_ahead : (now later : Names) (bytes : List ℕ) (lines : List Ahead) (index : ℕ) (line : Ahead) → WereReadAhead now bytes lines → Begins now later
    → later.version ≡ now.version → index < length lines → line ≡ slice_index_or lines index line → WasReadAhead later bytes line
was_ahead now later bytes lines index line were further same within is = record {
  names = were.names;
  begins = begins_further were.names now later were.begins further;
  version = were.version ∙ sym same;
  ahead = subst (IsAhead were.names bytes) (sym is) (were.ahead index line within);
}
