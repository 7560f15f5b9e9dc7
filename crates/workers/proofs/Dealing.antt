-- Lists of placers, and those of each worker.
use Rattle.std.proofs.Common.{◌≡◌, ◌≢◌, ◌⊎◌, ◌≤◌, ◌%◌, ◌++◌, ℕ, zero, suc, Bool, true, false, List, [], ◌∷◌, Some, length, set, refl, sym, ap, subst, ◌∙◌, arith, inl, inr}
use Rattle.std.specs.Prelude.{slice_get, ◌==◌, if◌then◌else◌}
use Rattle.std.specs.Option.{unwrap_or}
use Rattle.std.proofs.lemmas.Bool.{eq-eqb, eqb-true}
use Rattle.std.proofs.lemmas.List.{append_assoc, append-nil}
use Rattle.workers.specs.Placing.{AreDealt, HaveDealt, HavePlaced, dealt}

pub some_same : {A : Type 0} (x y : A) → Some x ≡ Some y → y ≡ x
some_same {A} x y is = sym (ap (λ found. unwrap_or found x) is)

-- a list of which one item was set has at an index that one, or what it had
pub set_or_old : {A : Type 0} (xs : List A) (at index : ℕ) (y z : A) → slice_get (set xs at y) index ≡ Some z
    → ((index ≡ at) × (z ≡ y)) ⊎ ((index ≢ at) × (slice_get xs index ≡ Some z))
set_or_old [] at index y z is = absurd (cc is)
set_or_old (x ∷ xs) zero zero y z is = inl (refl, some_same y z is)
set_or_old (x ∷ xs) zero (suc index) y z is = inr ((λ same. absurd (omega (arith, same))), is)
set_or_old (x ∷ xs) (suc at) zero y z is = inr ((λ same. absurd (omega (arith, same))), is)
set_or_old (x ∷ xs) (suc at) (suc index) y z is = elim (set_or_old xs at index y z is) [
  | inl here ↦ inl (ap suc here.0, here.1)
  | inr there ↦ inr ((λ same. there.0 (omega (arith, same))), there.1)
]

-- the next placer is one of the worker whose turn it is, and of no other
pub dealt_here : {P : Type 0} (worker workers number : ℕ) (placer : P) (placers : List P) → worker ≡ number % workers
    → dealt worker workers number (placer ∷ placers) ≡ placer ∷ dealt worker workers (suc number) placers
dealt_here {P} worker workers number placer placers is =
    ap (λ (mine : Bool). (if mine then placer ∷ [] else []) ++ dealt worker workers (suc number) placers) (eq-eqb (number % workers) worker (sym is))

unequal : (a b : ℕ) (is : Bool) → is ≡ (a == b) → b ≢ a → (a == b) ≡ false
unequal a b true is differ = absurd (differ (sym (eqb-true a b (sym is))))
unequal a b false is differ = sym is

pub dealt_elsewhere : {P : Type 0} (worker workers number : ℕ) (placer : P) (placers : List P) → worker ≢ number % workers
    → dealt worker workers number (placer ∷ placers) ≡ dealt worker workers (suc number) placers
dealt_elsewhere {P} worker workers number placer placers differ =
    ap (λ (mine : Bool). (if mine then placer ∷ [] else []) ++ dealt worker workers (suc number) placers)
    (unequal (number % workers) worker (number % workers == worker) refl differ)

-- what a worker has and is still to get stays the same as a placer is given
pub given_here : {P : Type 0} (worker workers number : ℕ) (had has : List P) (placer : P) (placers all : List P)
    → worker ≡ number % workers → has ≡ had ++ placer ∷ [] → had ++ dealt worker workers number (placer ∷ placers) ≡ all
    → has ++ dealt worker workers (suc number) placers ≡ all
given_here {P} worker workers number had has placer placers all here is before =
    ap (λ (mine : List P). mine ++ dealt worker workers (suc number) placers) is
    ∙ append_assoc had (placer ∷ []) (dealt worker workers (suc number) placers)
    ∙ ap (λ (rest : List P). had ++ rest) (sym (dealt_here worker workers number placer placers here)) ∙ before

pub given_elsewhere : {P : Type 0} (worker workers number : ℕ) (had has : List P) (placer : P) (placers all : List P)
    → worker ≢ number % workers → has ≡ had → had ++ dealt worker workers number (placer ∷ placers) ≡ all
    → has ++ dealt worker workers (suc number) placers ≡ all
given_elsewhere {P} worker workers number had has placer placers all differ is before =
    ap (λ (mine : List P). mine ++ dealt worker workers (suc number) placers) is
    ∙ ap (λ (rest : List P). had ++ rest) (sym (dealt_elsewhere worker workers number placer placers differ)) ∙ before

-- at the end each worker has what it was to get
pub given_all : {P : Type 0} (worker workers number : ℕ) (has rest all : List P) → rest ≡ []
    → has ++ dealt worker workers number rest ≡ all → has ≡ all
given_all {P} worker workers number has rest all none is =
    let last : has ++ dealt worker workers number [] ≡ all = rw none at is in
    sym (append-nil has) ∙ last

-- those of a worker are some of all
dealt_among : {W P : Type 0} (is_of : W → P → Type 0) (front : P → ℕ) (words : W) (worker workers number : ℕ) (first : P) (placers : List P)
    (mine : Bool) → HavePlaced is_of front words 0 (first ∷ placers)
    → HavePlaced is_of front words 0 (dealt worker workers (suc number) placers)
    → (index : ℕ) (placer : P)
    → slice_get ((if mine then first ∷ [] else []) ++ dealt worker workers (suc number) placers) index ≡ Some placer
    → is_of words placer × (0 ≤ front placer)
dealt_among is_of front words worker workers number first placers true all rest zero placer is = all 0 placer is
dealt_among is_of front words worker workers number first placers true all rest (suc index) placer is = rest index placer is
dealt_among is_of front words worker workers number first placers false all rest index placer is = rest index placer is

dealt_of : {W P : Type 0} (is_of : W → P → Type 0) (front : P → ℕ) (words : W) (worker workers number : ℕ) (placers : List P)
    → HavePlaced is_of front words 0 placers → HavePlaced is_of front words 0 (dealt worker workers number placers)
dealt_of is_of front words worker workers number [] all index placer is = absurd (cc is)
dealt_of is_of front words worker workers number (first ∷ placers) all index placer is =
    dealt_among is_of front words worker workers number first placers (number % workers == worker) all
    (dealt_of is_of front words worker workers (suc number) placers (λ at. all (suc at))) index placer is

pub have_dealt : {W P H : Type 0} (items : H → List P) (is_of : W → P → Type 0) (front : P → ℕ) (words : W) (workers : ℕ) (placers : List P)
    (hands : List H) → AreDealt items workers placers hands → HavePlaced is_of front words 0 placers → HaveDealt items is_of front words hands
have_dealt {W} {P} {H} items is_of front words workers placers hands dealt all worker hand is =
    subst (λ (mine : List P). HavePlaced is_of front words 0 mine) (sym (dealt worker hand is))
    (dealt_of is_of front words worker workers 0 placers all)

pub none_left : {A : Type 0} (xs : List A) → length xs ≡ 0 → xs ≡ []
none_left [] none = refl
none_left (x ∷ xs) none = absurd (omega (arith, none))

-- the first hands of all have what they had
get_front : {A : Type 0} (xs ys : List A) (at : ℕ) (z : A) → slice_get xs at ≡ Some z → slice_get (xs ++ ys) at ≡ Some z
get_front [] ys at z is = absurd (cc is)
get_front (x ∷ xs) ys zero z is = is
get_front (x ∷ xs) ys (suc at) z is = get_front xs ys at z is

pub dealt_front : {W P H : Type 0} (items : H → List P) (is_of : W → P → Type 0) (front : P → ℕ) (words : W) (before hands : List H) (last : H)
    → before ≡ hands ++ last ∷ [] → HaveDealt items is_of front words before → HaveDealt items is_of front words hands
dealt_front {W} {P} {H} items is_of front words before hands last is dealt worker hand at =
    dealt worker hand (rw is (get_front hands (last ∷ []) worker hand at))
