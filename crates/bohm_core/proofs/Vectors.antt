-- A list of vectors, seen as a list of lists.
use Rattle.std.proofs.Common.{◌≡◌, ◌<◌, ℕ, suc, zero, List, [], length, get_or, set, map, replicate, refl, sym, ◌∙◌, ap, arith, ◌++◌, ◌∷◌}
use Rattle.std.specs.declared.vec.Vec.{Vec}
use Rattle.std.specs.declared.alloc.Global.{Global}
use Rattle.std.proofs.lemmas.List.{length-append, length-map, map-append, map-set, get_or-map, set-get_or}
use Rattle.bohm_core_base.specs.Batch.{Batch, reference_words}
use Rattle.bohm_core_base.specs.Machine.{empty_references}
use Rattle.bohm_core.specs.Storage.{lists_of}

-- an element is written back as it was
pub lists-kept : (vectors : List (Vec ℕ Global)) (i : ℕ) (v d : Vec ℕ Global) → i < length vectors → d ≡ get_or vectors i d → v.items ≡ d.items → lists_of (set vectors i v) ≡ lists_of vectors
lists-kept vectors i v d within is same =
    map-set (λ (v : Vec ℕ Global). v.items) vectors i v ∙
    rw (same) (ap (λ (xs : List ℕ). set (lists_of vectors) i xs) (ap (λ (v : Vec ℕ Global). v.items) is ∙ sym (get_or-map (λ (v : Vec ℕ Global). v.items) vectors i d [] within)) ∙ set-get_or (lists_of vectors) i [])

-- an element is written back with one more
pub lists-pushed : (vectors : List (Vec ℕ Global)) (i : ℕ) (v d : Vec ℕ Global) (x : ℕ) → i < length vectors → d ≡ get_or vectors i d → v.items ≡ d.items ++ x ∷ [] → lists_of (set vectors i v) ≡ set (lists_of vectors) i (get_or (lists_of vectors) i [] ++ x ∷ [])
lists-pushed vectors i v d x within is grown =
    map-set (λ (v : Vec ℕ Global). v.items) vectors i v ∙
    rw (grown) (ap (λ (xs : List ℕ). set (lists_of vectors) i (xs ++ x ∷ [])) (ap (λ (v : Vec ℕ Global). v.items) is ∙ sym (get_or-map (λ (v : Vec ℕ Global). v.items) vectors i d [] within)))

pub lists-set : (vectors : List (Vec ℕ Global)) (i : ℕ) (v : Vec ℕ Global) → lists_of (set vectors i v) ≡ set (lists_of vectors) i v.items
lists-set vectors i v = map-set (λ (v : Vec ℕ Global). v.items) vectors i v

-- one more vector at the end
pub lists-more : (vectors : List (Vec ℕ Global)) (v : Vec ℕ Global) → lists_of (vectors ++ v ∷ []) ≡ lists_of vectors ++ v.items ∷ []
lists-more vectors v = map-append (λ (v : Vec ℕ Global). v.items) vectors (v ∷ [])

-- a zero for each element
pub zeros-each : (items : List ℕ) → map {B = ℕ} (λ _. 0) items ≡ replicate (length items) 0
zeros-each [] = refl
zeros-each (item ∷ items) = ap (λ (zeros : List ℕ). 0 ∷ zeros) (zeros-each items)

-- there are as many vectors as lists
pub lists-length : (vectors : List (Vec ℕ Global)) (lists : List (List ℕ)) → lists_of vectors ≡ lists → length vectors ≡ length lists
lists-length vectors lists same = sym (length-map vectors (λ (v : Vec ℕ Global). v.items)) ∙ ap (λ (lists : List (List ℕ)). length lists) same

-- each of this many places has a list of references
pub empty-length : (batch : Batch) (places : ℕ) → length (empty_references batch places) ≡ places
empty-length batch zero = refl
empty-length batch (suc index) =
    rw (length-append (empty_references batch index) (map {B = ℕ} (λ _. 0) (reference_words batch index) ∷ []), empty-length batch index) (omega arith)
