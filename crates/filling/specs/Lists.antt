-- Lists of numbers that lie in one, each by where it begins and how many numbers it has.
use Rattle.std.specs.Prelude.{◌≤◌, ◌+◌, ℕ, All, List, drop, length, map, take}
use Rattle.filling.specs.declared.completion.lists.Part.{Part}

abbrev pub list_in : List ℕ → Part → List ℕ
list_in numbers part = take part.count (drop part.begin numbers)

abbrev pub lists_in : List ℕ → List Part → List (List ℕ)
lists_in numbers parts = map (list_in numbers) parts

-- each lies within the numbers
abbrev pub AreWithin : List ℕ → List Part → Type 0
AreWithin numbers parts = All (λ (part : Part). part.begin + part.count ≤ length numbers) parts
