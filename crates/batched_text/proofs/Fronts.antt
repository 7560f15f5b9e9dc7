-- The log of the first lines of a text, up to a place.
use Rattle.std.proofs.Common.{◌≡◌, ◌<◌, ◌≤◌, ◌+◌, ◌⊎◌, ℕ, List, [], ◌∷◌, ◌++◌, length, None, Option, Some, refl, ap, sym, subst, arith, inl, inr}
use Rattle.std.specs.Prelude.{◌==◌, ◌&&◌, Bool, IfSome, MatchBool, false, nat_le, true, unwrap_or}
use Rattle.std.proofs.lemmas.Bool.{leb-false, ne_eqb}
use Rattle.std.proofs.lemmas.List.{length-append}
use Rattle.std.specs.Io.KnownBytes.{IsAtEnd, prepend_known}
use Rattle.model_base.specs.declared.limits.TheConstants.{MOST_PLACES}
use Rattle.log_text.proofs.Total.{total_in}
use Rattle.log_text.specs.declared.version.Version.{Version}
use Rattle.line_io.specs.Known.{HadSome, TookLine}
use Rattle.line_io.specs.Lines.{first_line, lines_of}
use Rattle.sequencer.specs.Catalog.{Names, no_names}
use Rattle.sequencer.specs.Log.{Accepted, empty_log}
use Rattle.log_text.specs.Statement.{Sentence}
use Rattle.sequencer.specs.Refusal.{refusal}
use Rattle.sequencer.specs.declared.refused.Refused.{Refused}
use Rattle.report.specs.Report.{AreParsedFrom, IsParsedLine, ParsedLine, accepted, faulty, log_of, names_after, read, statement_if, the_heading}
use Rattle.report.proofs.Readings.{readings_from}
use Rattle.bohm_base.specs.Collecting.{ReadsAs, line_outcome, with_reading}
use Rattle.bohm_base.specs.declared.collecting.LineOutcome.{LineOutcome}
use Rattle.bohm_base.proofs.Logs.{log_step}
use Rattle.batched_text.proofs.Ends.{IsReadAfter, leads_more}
use Rattle.batched_text.specs.Reaching.{AreFewest, EndsTaking, HasTaken, IsFrontTaken, IsLogOfFront, IsLogUpTo}

-- a line adds one statement at most
at-most-one : (names : Names) (sentence : Sentence) (o : Option Refused) → length (statement_if names sentence o) ≤ 1
at-most-one names sentence None = omega arith
at-most-one names sentence (Some refused) = omega arith

few-accepted : (names : Names) (reading : ParsedLine) → length (accepted names reading) ≤ 1
few-accepted names the_heading = omega arith
few-accepted names (read sentence) = at-most-one names sentence (refusal names sentence)
few-accepted names (faulty fault) = omega arith

pub one_more : (log : Accepted) (reading : ParsedLine) → length (with_reading log reading).statements ≤ length log.statements + 1
one_more log reading = omega (arith, few-accepted log.names reading, length-append log.statements (accepted log.names reading))

-- the last of some items, and those before it
snoc-front : {X : Type 0} (xs ys : List X) (x y : X) → xs ++ x ∷ [] ≡ ys ++ y ∷ [] → xs ≡ ys
snoc-front [] [] x y same = refl
snoc-front [] (b ∷ []) x y same = absurd (cc)
snoc-front [] (b ∷ c ∷ ys) x y same = absurd (cc)
snoc-front (a ∷ []) [] x y same = absurd (cc)
snoc-front (a ∷ c ∷ xs) [] x y same = absurd (cc)
snoc-front (a ∷ xs) (b ∷ ys) x y same =
    let first : a ≡ b = cc in
    let rest : xs ++ x ∷ [] ≡ ys ++ y ∷ [] = cc in
    let fronts = snoc-front xs ys x y rest in
    cc

not-nil : {X : Type 0} (xs : List X) (x : X) → [] ≡ xs ++ x ∷ [] → ⊥
not-nil [] x same = cc
not-nil (a ∷ xs) x same = cc

-- no line makes no place
fewest-none : (limit : Option ℕ) → AreFewest limit []
fewest-none limit = λ front last same. absurd (not-nil front last same)

-- a line that is taken while the log hasn't the place
fewest-more : (place : ℕ) (earlier : List ParsedLine) (reading : ParsedLine) → length (log_of no_names earlier) ≤ place → AreFewest (Some place) (earlier ++ reading ∷ [])
fewest-more place earlier reading few = λ front last same has.
    let is = snoc-front earlier front reading last same in
    let count : length (log_of no_names earlier) ≡ length (log_of no_names front) = ap (λ (rs : List ParsedLine). length (log_of no_names rs)) is in
    omega (arith, has, few, count)

-- at first no line is taken
pub front_start : (i : Option (List ℕ)) (bytes : List ℕ) (place : ℕ) (log : Accepted) → bytes ≡ [] → log ≡ empty_log → HasTaken true i (prepend_known bytes i) place log
front_start None bytes place log none empty = tt
front_start (Some input) bytes place log none empty =
    subst (λ (l : Accepted). IsFrontTaken true input (bytes ++ input) place l) (sym empty)
    (subst (λ (w : List ℕ). IsFrontTaken true input (w ++ input) place empty_log) (sym none)
    (record { earlier = []; none = refl; leads = λ later reads. reads; lines = []; made = record { names = refl; statements = refl; each = refl }; fewest = fewest-none (Some place) }))

-- one more line
pub front_step : (first : Bool) (i j k : Option (List ℕ)) (place : ℕ) (log new : Accepted) (known : List ℕ) → HasTaken first i j place log → TookLine j k [] known × HadSome j
    → length log.statements ≤ place → (reading : ParsedLine) → ReadsAs first log.names.version known reading → new ≡ with_reading log reading → HasTaken false i k place new
front_step first None j k place log new known so took few reading reads is = tt
front_step first (Some input) None k place log new known so took few reading reads is = absurd so
front_step first (Some input) (Some ys) None place log new known so took few reading reads is = absurd took.0
front_step first (Some input) (Some ys) (Some zs) place log new known so took few reading reads is =
    let after : IsReadAfter so.earlier (first_line ys) reading =
    subst (λ (n : Names). IsParsedLine (length so.earlier == 0) n.version (first_line ys) reading) so.made.names
    (subst (λ (b : Bool). IsParsedLine b log.names.version (first_line ys) reading) so.none (reads (first_line ys) took.0.0)) in
    let line : LineOutcome = line_outcome log.names reading in
    let count : length log.statements ≡ length (log_of no_names so.earlier) = ap length so.made.statements in
    record {
      earlier = so.earlier ++ reading ∷ [];
      none = sym (ne_eqb (length (so.earlier ++ reading ∷ [])) 0 (λ same. omega (arith, same, length-append so.earlier (reading ∷ []))));
      leads = leads_more input ys zs so.earlier reading took.1 took.0.1 after so.leads;
      lines = so.lines ++ line ∷ [];
      made = log_step so.earlier reading log new so.lines (so.lines ++ line ∷ []) line so.made refl is refl;
      fewest = fewest-more place so.earlier reading (omega (arith, few, count));
    }

-- the log has the place, or there is no more to come
pub ends_there : (first : Bool) (i j : Option (List ℕ)) (place : ℕ) (log : Accepted) → HasTaken first i j place log → place < length log.statements → EndsTaking i place log
ends_there first i j place log so has = (first, j, (so, inl has))

pub ends_all : (first : Bool) (i j : Option (List ℕ)) (place : ℕ) (log : Accepted) → HasTaken first i j place log → IsAtEnd j → EndsTaking i place log
ends_all first i j place log so end = (first, j, (so, inr end))

-- the log of the first lines, of which there are enough
front-ended : (first : Bool) (input rest : List ℕ) (place : ℕ) (log : Accepted) → IsFrontTaken first input rest place log → (place < length log.statements) ⊎ (rest ≡ [])
    → IsLogOfFront input (Some place) log
front-ended first input rest place log so (inl has) =
    let later = readings_from total_in (length so.earlier == 0) (names_after no_names so.earlier).version (lines_of rest) in
    record { earlier = so.earlier; later = later.0; read = so.leads later.0 later.1; lines = so.lines; made = so.made; fewest = so.fewest; enough = inl has }
front-ended first input rest place log so (inr end) =
    let before : Version = (names_after no_names so.earlier).version in
    let none : AreParsedFrom (length so.earlier == 0) before (lines_of rest) [] =
    subst (λ (l : List ℕ). AreParsedFrom (length so.earlier == 0) before (lines_of l) []) (sym end) tt in
    record { earlier = so.earlier; later = []; read = so.leads [] none; lines = so.lines; made = so.made; fewest = so.fewest; enough = inr refl }

ended-known : (first : Bool) (i j : Option (List ℕ)) (place : ℕ) (log : Accepted) → HasTaken first i j place log → (place < length log.statements) ⊎ IsAtEnd j → IsLogUpTo i (Some place) log
ended-known first None j place log so end = tt
ended-known first (Some input) None place log so end = absurd so
ended-known first (Some input) (Some rest) place log so end = front-ended first input rest place log so end

pub front_ended : (i : Option (List ℕ)) (place : ℕ) (log : Accepted) → EndsTaking i place log → IsLogUpTo i (Some place) log
front_ended i place log ends = ended-known ends.0 i ends.1 place log ends.2.0 ends.2.1

-- where a run has ended
pub ended_taking : (b : Bool) (i rest : Option (List ℕ)) (place : ℕ) (log : Accepted) → b ≡ false
    → MatchBool b (HasTaken false i rest place log) (EndsTaking i place log) → EndsTaking i place log
ended_taking true i rest place log is so = absurd (cc)
ended_taking false i rest place log is so = so

-- where no place is named, one that no log has is
all-lines : (input : List ℕ) (place : ℕ) (log : Accepted) → length log.statements ≤ place → IsLogOfFront input (Some place) log → IsLogOfFront input None log
all-lines input place log few so =
    record {
      earlier = so.earlier;
      later = so.later;
      read = so.read;
      lines = so.lines;
      made = so.made;
      fewest = λ front last same has. has;
      enough = elim so.enough [ inl has ↦ absurd (omega (arith, has, few)) | inr none ↦ inr none ];
    }

pub up_to : (i : Option (List ℕ)) (limit : Option ℕ) (place : ℕ) (log : Accepted) → length log.statements ≤ MOST_PLACES → place ≡ unwrap_or limit MOST_PLACES
    → IsLogUpTo i (Some place) log → IsLogUpTo i limit log
up_to None limit place log few is so = tt
up_to (Some input) None place log few is so = all-lines input place log (omega (arith, few, is)) so
up_to (Some input) (Some named) place log few is so = subst (λ (p : ℕ). IsLogOfFront input (Some p) log) is so

pub kept_to : (limit : Option ℕ) (place dropped : ℕ) → place ≡ unwrap_or limit MOST_PLACES → dropped ≤ place → IfSome limit (λ p. dropped ≤ p)
kept_to None place dropped is kept = tt
kept_to (Some named) place dropped is kept = omega (arith, is, kept)

-- a batch was run: the log hasn't the place yet, or there is enough of it
pub some_ended : (more goes_on : Bool) (i k : Option (List ℕ)) (place last : ℕ) (log new : Accepted) → new ≡ log → goes_on ≡ nat_le (length new.statements) place
    → MatchBool more ((last < length log.statements) × HasTaken false i k place log) (EndsTaking i place log)
    → MatchBool (more && goes_on) (HasTaken false i k place new) (EndsTaking i place new)
some_ended true true i k place last log new same is taken = subst (HasTaken false i k place) (sym same) taken.1
some_ended true false i k place last log new same is taken =
    ends_there false i k place new (subst (HasTaken false i k place) (sym same) taken.1) (leb-false (length new.statements) place (sym is))
some_ended false goes_on i k place last log new same is taken = subst (EndsTaking i place) (sym same) taken
