-- The steps that are left fall.
use Rattle.std.proofs.Common.{◌≡◌, ℕ, zero, suc, ◌+◌, ◌*◌, ◌-◌, ◌^◌, ◌<◌, ◌≤◌, List, [], ◌∷◌, ◌++◌, length, ap, ◌∙◌, inl, inr, arith}
use Rattle.std.proofs.Math.Nat.{one-le-pow, pow-le-pow_right, mul-lt-mul_of_pos_right, pow-suc}
use Rattle.std.proofs.lemmas.Bool.{cases_eq}
use Rattle.bohm_core_base.specs.Batch.{Batch, reference_words}
use Rattle.filling_base.specs.declared.walk.Frame.{Frame}
use Rattle.filling_base.specs.Walks.{cost, costs, widest_below}

wide : (b : Batch) (n : ℕ) → 2 ≤ widest_below b n
wide b zero = omega arith
wide b (suc n) = let rest = wide b n in omega arith

wider : (b : Batch) (n i : ℕ) → i < n → length (reference_words b i) + 2 ≤ widest_below b n
wider b zero i below = absurd (omega arith)
wider b (suc n) i below = elim (cases_eq i n) [
  | inl is ↦ (let rest = wide b n in let same : length (reference_words b i) ≡ length (reference_words b n) = ap (λ (x : ℕ). length (reference_words b x)) is in omega arith)
  | inr differ ↦ (let rest = wider b n i (omega arith) in omega arith)
]

pub costs-snoc : (b : Batch) (fs : List Frame) (f : Frame) → costs b (fs ++ f ∷ []) ≡ costs b fs + cost b f.index f.next
costs-snoc b [] f = omega arith
costs-snoc b (g ∷ fs) f = let rest = costs-snoc b fs f in omega arith

positive : (b : Batch) (i : ℕ) → 0 < widest_below b b.size ^ i
positive b i = let w = wide b b.size in let one = one-le-pow i (widest_below b b.size) (omega arith) in omega arith

less-by : (a p : ℕ) → suc a * p ≡ a * p + p
less-by a p = grind arith

falls-by : (a n p : ℕ) → n < suc a → (suc a - n) * p ≡ (suc a - suc n) * p + p
falls-by a n p below = let is : suc a - n ≡ suc (suc a - suc n) = omega arith in ap (λ (k : ℕ). k * p) is ∙ less-by (suc a - suc n) p

pub less-next : (b : Batch) (i n : ℕ) → n < length (reference_words b i) → cost b i (suc n) < cost b i n
unfolding cost
less-next b i n below =
    let is = falls-by (length (reference_words b i)) n (widest_below b b.size ^ i) (omega arith) in let p = positive b i in omega arith

pub less-enter : (b : Batch) (i r n : ℕ) → r < b.size → n < length (reference_words b i) → r < i → cost b r 0 + cost b i (suc n) < cost b i n
unfolding cost
less-enter b i r n within short below =
    let is = falls-by (length (reference_words b i)) n (widest_below b b.size ^ i) (omega arith) in
    let w = wide b b.size in
    let room = wider b b.size r within in
    let up : widest_below b b.size ^ suc r ≤ widest_below b b.size ^ i = pow-le-pow_right (omega arith) (omega arith) in
    let times : (suc (length (reference_words b r)) - 0) * widest_below b b.size ^ r < widest_below b b.size * widest_below b b.size ^ r = mul-lt-mul_of_pos_right (omega arith) (positive b r) in
    let same : widest_below b b.size * widest_below b b.size ^ r ≡ widest_below b b.size ^ suc r = grind (arith, pow-suc) in
    omega arith

pub less-leave : (b : Batch) (i n : ℕ) → n ≤ length (reference_words b i) → 0 < cost b i n
unfolding cost
less-leave b i n short =
    let is = falls-by (length (reference_words b i)) n (widest_below b b.size ^ i) (omega arith) in let p = positive b i in omega arith
