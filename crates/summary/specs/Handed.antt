-- What a writer handed on.
use Rattle.std.specs.Prelude.{ℕ, List, Option, option_map}
use Rattle.summary.specs.declared.counting.Counting.{Counting}
use Rattle.summary.specs.declared.tally.Tally.{Tally}
use Rattle.summary.specs.Given.{given_to}

-- the bytes whose lines were counted, where lines are counted
abbrev pub counted_by : Option Counting → Option (List ℕ)
counted_by counting = option_map given_to counting

-- the bytes that the inner writer took, where their lines are counted
abbrev pub handed_on : {W : Type 0} → Tally W → Option (List ℕ)
handed_on tally = counted_by tally.counting
