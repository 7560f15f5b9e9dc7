-- A set of slots, as a list of them in whatever order.
use Rattle.std.specs.Prelude.{◌≡◌, ◌==◌, ◌<◌, ◌&&◌, ◌||◌, not, ℕ, Option, Some, None, List, [], All}
use Rattle.grants_base.specs.Index.{is_one_of}

-- the one has this slot, and the slots of the other
abbrev pub HasGained : ℕ → List ℕ → List ℕ → Type 0
HasGained slot old new = (k : ℕ) → is_one_of new k ≡ (is_one_of old k || (slot == k))

-- the one has the slots of the other but this
abbrev pub HasLost : ℕ → List ℕ → List ℕ → Type 0
HasLost slot old new = (k : ℕ) → is_one_of new k ≡ (is_one_of old k && not (slot == k))

-- the least of some slots, if there are any, and the others
abbrev pub AreAbove : Option ℕ → List ℕ → Type 0
AreAbove None others = others ≡ []
AreAbove (Some least) others = All (λ other. least < other) others
