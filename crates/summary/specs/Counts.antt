-- The counts of a report's lines.
use Rattle.std.specs.Prelude.{◌≡◌, ◌==◌, ◌+◌, ◌-◌, ◌^◌, ◌<◌, Bool, List, Option, count_by, false, if◌then◌else◌, length, min, slice_index, ℕ}
use Rattle.std.specs.Option.{option_map_or}
use Rattle.summary.specs.Lines.{is_place, is_refused, outcome_of, refusal_of}
use Rattle.summary.specs.declared.counts.Counts.{Counts}

-- a count, which stops at `u64::MAX`
abbrev pub stopped : ℕ → ℕ
stopped count = min count (2 ^ 64 - 1)

-- a count with one more, if there is one
abbrev pub raised_if : Bool → ℕ → ℕ
raised_if is count = if is then stopped (count + 1) else count

-- whether it is this number
abbrev pub is_number : ℕ → Option ℕ → Bool
is_number k number = option_map_or (λ n. n == k) number false

-- how many of the lines pass the test
abbrev pub count_of : (List ℕ → Bool) → List (List ℕ) → ℕ
count_of test lines = stopped (count_by test lines)

-- each count is that of the lines whose word has its number
abbrev pub AreWordCounts : (List ℕ → Option ℕ) → List (List ℕ) → List ℕ → Type 0
AreWordCounts word_of lines counts =
    (k : ℕ) → k < length counts → slice_index counts k ≡ count_of (λ line. is_number k (word_of line)) lines

-- the counts of some lines
pub record AreLineCounts (all : List (List ℕ)) (counts : Counts) : Type 0 where
  pub lines : counts.lines ≡ stopped (length all)
  pub places : counts.places ≡ count_of is_place all
  pub refused : counts.refused ≡ count_of is_refused all
  pub outcomes : AreWordCounts outcome_of all counts.outcomes
  pub refusals : AreWordCounts refusal_of all counts.refusals
