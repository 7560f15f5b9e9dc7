-- Lists of ranks, one for each index.
use Rattle.std.proofs.Common.{◌≡◌, ◌<◌, ◌++◌, ℕ, zero, suc, Some, List, [], ◌∷◌, get_or, length, set, refl, ap, sym, ◌∙◌, arith}
use Rattle.std.specs.Prelude.{slice_get}
use Rattle.std.specs.declared.vec.Vec.{Vec}
use Rattle.std.specs.declared.alloc.Global.{Global}
use Rattle.std.proofs.lemmas.List.{get_or-map, map-set}
use Rattle.filling.specs.Ends.{ended_lists}

-- a vector is written back with one more
pub list-pushed : (vectors : List (Vec ℕ Global)) (i : ℕ) (v d : Vec ℕ Global) (x : ℕ) → i < length vectors → d ≡ get_or vectors i d → v.items ≡ d.items ++ x ∷ []
    → ended_lists (set vectors i v) ≡ set (ended_lists vectors) i (get_or (ended_lists vectors) i [] ++ x ∷ [])
list-pushed vectors i v d x within is grown =
    map-set (λ (v : Vec ℕ Global). v.items) vectors i v ∙
    rw (grown) (ap (λ (xs : List ℕ). set (ended_lists vectors) i (xs ++ x ∷ [])) (ap (λ (v : Vec ℕ Global). v.items) is ∙ sym (get_or-map (λ (v : Vec ℕ Global). v.items) vectors i d [] within)))

-- there is something at an index
pub there : {A : Type 0} (xs : List A) (i : ℕ) → i < length xs → (x : A) × (slice_get xs i ≡ Some x)
there [] i within = absurd (omega arith)
there (x ∷ xs) zero within = (x, refl)
there (x ∷ xs) (suc i) within = there xs i (omega arith)
