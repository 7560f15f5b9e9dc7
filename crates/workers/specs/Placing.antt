-- The placers of workers. Each partition of a batch has a placer of its own: J. M. Faleiro and D. J. Abadi, "Rethinking
-- Serializable Multiversion Concurrency Control", PVLDB 8 (2015), section 3.2; that workers share them out, and go on to run
-- places while others still place, is this project's own.
use Rattle.std.specs.Prelude.{◌≡◌, ◌≢◌, ◌⊎◌, ◌==◌, ◌%◌, ◌≤◌, ◌++◌, ℕ, suc, List, [], ◌∷◌, Some, slice_get, if◌then◌else◌}

-- each of the placers is one of these words, and has placed this many places at least
abbrev pub HavePlaced : {W P : Type 0} → (W → P → Type 0) → (P → ℕ) → W → ℕ → List P → Type 0
HavePlaced {W} {P} is_of front words count placers =
    (index : ℕ) (placer : P) → slice_get placers index ≡ Some placer → is_of words placer × (count ≤ front placer)

-- of the placers from this number on, those of a worker: every this many'th has the same worker
abbrev pub dealt : {P : Type 0} → ℕ → ℕ → ℕ → List P → List P
dealt worker workers number [] = []
dealt worker workers number (placer ∷ placers) =
    (if number % workers == worker then placer ∷ [] else []) ++ dealt worker workers (suc number) placers

-- the worker has this placer more, and each other one has what it had
abbrev pub IsGiven : {P H : Type 0} → (H → List P) → ℕ → P → List H → List H → Type 0
IsGiven {P} {H} items worker placer hands after =
    (other : ℕ) (hand : H) → slice_get after other ≡ Some hand
    → (before : H) × (slice_get hands other ≡ Some before)
    × (((other ≡ worker) × (items hand ≡ items before ++ placer ∷ [])) ⊎ ((other ≢ worker) × (items hand ≡ items before)))

-- each of the workers has its placers
abbrev pub AreDealt : {P H : Type 0} → (H → List P) → ℕ → List P → List H → Type 0
AreDealt {P} {H} items workers placers hands =
    (worker : ℕ) (hand : H) → slice_get hands worker ≡ Some hand → items hand ≡ dealt worker workers 0 placers

-- each of the placers of each of the workers is one of these words
abbrev pub HaveDealt : {W P H : Type 0} → (H → List P) → (W → P → Type 0) → (P → ℕ) → W → List H → Type 0
HaveDealt {W} {P} {H} items is_of front words hands =
    (worker : ℕ) (hand : H) → slice_get hands worker ≡ Some hand → HavePlaced is_of front words 0 (items hand)
