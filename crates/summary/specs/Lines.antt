-- What the lines of a report say became of the lines of a log.
use Rattle.std.specs.Prelude.{◌==◌, ◌∷◌, ◌++◌, Bool, List, None, Option, [], codes, fold, if◌then◌else◌, map, nat_eq, not, position, ℕ}
use Rattle.std.specs.List.{after_first, starts_with}
use Rattle.line_words.specs.declared.fault.LineFault.{LineFault}
use Rattle.sequencer.specs.declared.refused.Refused.{Refused}
use Rattle.report.specs.Text.{fault_word, refused_word}

-- a text cut into whole lines, each of which an LF ended, and what is after the last LF
pub record Cut : Type 0 where
  pub lines : List (List ℕ)
  pub rest : List ℕ

-- with one more byte: an LF ends the line, any other byte goes on with it
abbrev pub cut_with : Cut → ℕ → Cut
cut_with cut byte =
    if byte == 10 then record { lines = cut.lines ++ cut.rest ∷ []; rest = [] }
    else record { lines = cut.lines; rest = cut.rest ++ byte ∷ [] }

-- a text, cut byte after byte
abbrev pub cut_of : List ℕ → Cut
cut_of text = fold cut_with (record { lines = []; rest = [] }) text

-- whether the line is that of a line that was refused; any other is that of a place
abbrev pub is_refused : List ℕ → Bool
is_refused line = starts_with nat_eq line (codes "line ")

-- whether the line is that of a place
abbrev pub is_place : List ℕ → Bool
is_place line = not (is_refused line)

-- what is after the first space
abbrev pub after_space : List ℕ → List ℕ
after_space text = after_first (λ b. b == 32) text

-- which of these words a text begins with
abbrev pub word_number : List (List ℕ) → List ℕ → Option ℕ
word_number words text = position (λ word. starts_with nat_eq text word) words

-- the words of what became of a place
abbrev pub outcome_words : List (List ℕ)
outcome_words =
    codes "created" ∷ codes "done" ∷ codes "granted" ∷ codes "revoked" ∷ codes "denied" ∷ codes "aborted" ∷ codes "undeclared" ∷ []

-- the words of faults of lines, and of refusals of the log
abbrev pub refusal_words : List (List ℕ)
refusal_words =
    map fault_word (LineFault.TooLong ∷ LineFault.NotAscii ∷ LineFault.Empty ∷ LineFault.UnknownWord ∷ LineFault.BadNumber
    ∷ LineFault.BadName ∷ LineFault.TooManySteps ∷ LineFault.TooManyAccesses ∷ LineFault.BadRegister
    ∷ LineFault.TooManyGrantees ∷ LineFault.DuplicateGrantee ∷ [])
    ++ map refused_word (Refused.UnknownTable ∷ Refused.TableExists ∷ Refused.BadColumns ∷ Refused.DuplicateAccess ∷ Refused.BadColumnNumber
    ∷ Refused.SkipPastEnd ∷ Refused.LogFull ∷ Refused.TooManyNames ∷ [])

-- what became of a place by number: the word after the place
abbrev pub outcome_of : List ℕ → Option ℕ
outcome_of line = if is_refused line then None else word_number outcome_words (after_space line)

-- why a line was refused by number: the word after `line`, its number and `refused`
abbrev pub refusal_of : List ℕ → Option ℕ
refusal_of line = if is_refused line then word_number refusal_words (after_space (after_space (after_space line))) else None
