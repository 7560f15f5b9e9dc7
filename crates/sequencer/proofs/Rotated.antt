-- Where the first items are appended to the others, what was after them comes first.
use Rattle.std.proofs.Common.{◌≡◌, ◌≤◌, ◌-◌, ℕ, List, ◌++◌, drop, length, take}
use Rattle.std.proofs.lemmas.List.{length-drop, take_at}

pub first_gone : {T : Type 0} (items : List T) (count : ℕ) → count ≤ length items → take (length items - count) (drop count items ++ take count items) ≡ drop count items
first_gone items count low = take_at (drop count items) (take count items) (length items - count) (length-drop count items)
