-- What was given to a count of lines.
use Rattle.std.specs.Prelude.{ℕ, List}
use Rattle.summary.specs.declared.counting.Counting.{Counting}

-- the bytes whose lines were counted
abbrev pub given_to : Counting → List ℕ
given_to counting = counting.taken.items
