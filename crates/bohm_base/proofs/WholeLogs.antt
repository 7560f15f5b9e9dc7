-- A list with more after it.
use Rattle.std.proofs.Common.{◌≡◌, ℕ, zero, suc, List, [], ◌∷◌, ◌++◌, Some}
use Rattle.std.specs.Prelude.{slice_get}

-- what is in a list is so with more after it
pub slice_get_longer : {X : Type 0} (xs more : List X) (i : ℕ) (x : X) → slice_get xs i ≡ Some x → slice_get (xs ++ more) i ≡ Some x
slice_get_longer [] more i x is = absurd (cc)
slice_get_longer (y ∷ xs) more zero x is = is
slice_get_longer (y ∷ xs) more (suc i) x is = slice_get_longer xs more i x is
