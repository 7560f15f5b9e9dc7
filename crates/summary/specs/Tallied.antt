-- The counts of a text's whole lines.
use Rattle.std.specs.Prelude.{◌≡◌, List, map, take, ℕ}
use Rattle.summary.specs.Lines.{cut_of}
use Rattle.summary.specs.Counts.{AreLineCounts}
use Rattle.summary.specs.declared.counting.TheConstants.{HEAD_BYTES}
use Rattle.summary.specs.declared.counts.Counts.{Counts}

-- the first bytes of a line, by which it is counted
abbrev pub head_of : List ℕ → List ℕ
head_of line = take HEAD_BYTES line

-- the counts of the whole lines of a text
abbrev pub AreCountsOf : List ℕ → Counts → Type 0
AreCountsOf text counts = AreLineCounts (map head_of (cut_of text).lines) counts

-- so they are, and the line that no LF ended yet begins so
pub record IsTallied (text : List ℕ) (counts : Counts) (head : List ℕ) : Type 0 where
  pub counted : AreCountsOf text counts
  pub kept : head ≡ head_of (cut_of text).rest
