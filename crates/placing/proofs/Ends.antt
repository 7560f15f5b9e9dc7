-- Where the references of each place end, and the pieces into which these ends cut the references of a batch.
use Rattle.std.proofs.Common.{◌≡◌, ℕ, zero, suc, ◌<◌, ◌≤◌, ◌++◌, Some, List, [], ◌∷◌, length, refl, arith, ap, slice_get, slice_index_or, slice_range}
use Rattle.model_base.specs.declared.reference.Reference.{Reference}
use Rattle.placing.specs.Parts.{AreRisingEnds}
use Rattle.placing.specs.Refs.{pieces, start_at}

-- the ends lie within more references too
pub ends_more : (start count more : ℕ) (ends : List ℕ) → AreRisingEnds start ends count → count ≤ more → AreRisingEnds start ends more
ends_more start count more [] sound fewer = omega arith
ends_more start count more (end ∷ ends) sound fewer = (sound.0, ends_more end count more ends sound.1 fewer)

-- a further place ends with the last reference
pub ends_snoc : (start count : ℕ) (ends : List ℕ) → AreRisingEnds start ends count → AreRisingEnds start (ends ++ count ∷ []) count
ends_snoc start count [] sound = (sound, omega arith)
ends_snoc start count (end ∷ ends) sound = (sound.0, ends_snoc end count ends sound.1)

pub length_pieces : (start : ℕ) (ends : List ℕ) (references : List Reference) → length (pieces start ends references) ≡ length ends
length_pieces start [] references = refl
length_pieces start (end ∷ ends) references = ap suc (length_pieces end ends references)

-- a piece begins at or before its end, which lies within the references
pub within : (start count : ℕ) (ends : List ℕ) (index : ℕ) → AreRisingEnds start ends count → index < length ends → (start_at start ends index ≤ slice_index_or ends index 0) × (slice_index_or ends index 0 ≤ count) × (start ≤ count)
within start count [] index sound below = absurd (omega arith)
within start count (end ∷ []) zero sound below = (sound.0, sound.1, omega arith)
within start count (end ∷ next ∷ ends) zero sound below =
    let rest = within end count (next ∷ ends) 0 sound.1 (omega arith) in (sound.0, omega arith, omega arith)
within start count (end ∷ []) (suc index) sound below = absurd (omega arith)
within start count (end ∷ next ∷ ends) (suc zero) sound below =
    let rest = within end count (next ∷ ends) 0 sound.1 (omega arith) in (rest.0, rest.1, omega arith)
within start count (end ∷ next ∷ ends) (suc (suc index)) sound below =
    let rest = within end count (next ∷ ends) (suc index) sound.1 (omega arith) in (rest.0, rest.1, omega arith)

-- the piece of this index
pub piece_at : (start : ℕ) (ends : List ℕ) (references : List Reference) (index : ℕ) → index < length ends → slice_get (pieces start ends references) index ≡ Some (slice_range references (start_at start ends index) (slice_index_or ends index 0))
piece_at start [] references index below = absurd (omega arith)
piece_at start (end ∷ ends) references zero below = refl
piece_at start (end ∷ []) references (suc index) below = absurd (omega arith)
piece_at start (end ∷ next ∷ ends) references (suc zero) below = refl
piece_at start (end ∷ next ∷ ends) references (suc (suc index)) below = piece_at end (next ∷ ends) references (suc index) (omega arith)
