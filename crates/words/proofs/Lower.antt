-- A place is referred to earlier ones alone.
use Rattle.std.proofs.Common.{◌≤◌, ℕ, zero, suc, List, [], ◌∷◌, ◌++◌, map, get_or, arith}
use Rattle.model_base.specs.declared.row.Key.{Key}
use Rattle.model_base.proofs.Replay.{by_cases}
use Rattle.bohm_core_base.specs.Batch.{Access, Batch, changes_key, place_has_deed_on, prior_reference, reference_words, writer_reference}
use Rattle.words.specs.Layout.{reference_at}

writer-most : (b : Batch) (n : ℕ) (key : Key) → writer_reference b n key ≤ n
writer-most b zero key = omega arith
writer-most b (suc n) key =
    by_cases (changes_key (b.accesses n) key)
    (λ here. rw here (omega arith))
    (λ not_here. rw not_here (let rest = writer-most b n key in omega arith))

prior-most : (b : Batch) (n table : ℕ) → prior_reference b n table ≤ n
prior-most b zero table = omega arith
prior-most b (suc n) table =
    by_cases (place_has_deed_on b n table)
    (λ here. rw here (omega arith))
    (λ not_here. rw not_here (let rest = prior-most b n table in omega arith))

each-most : {A : Type 0} (f : A → ℕ) (n : ℕ) → ((a : A) → f a ≤ n) → (xs : List A) (m : ℕ) → get_or (map f xs) m 0 ≤ n
each-most f n all [] m = omega arith
each-most f n all (x ∷ xs) zero = all x
each-most f n all (x ∷ xs) (suc m) = each-most f n all xs m

both-most : (n : ℕ) (xs ys : List ℕ) → ((m : ℕ) → get_or xs m 0 ≤ n) → ((m : ℕ) → get_or ys m 0 ≤ n) → (m : ℕ) → get_or (xs ++ ys) m 0 ≤ n
both-most n [] ys low low' m = low' m
both-most n (x ∷ xs) ys low low' zero = low 0
both-most n (x ∷ xs) ys low low' (suc m) = both-most n xs ys (λ k. low (suc k)) low' m

-- so its references are at most its index
pub reference-most : (b : Batch) (i m : ℕ) → reference_at b i m ≤ i
unfolding reference_words
reference-most b i m =
    both-most i (map (λ (access : Access). writer_reference b i access.key) (b.accesses i)) (map (λ table. prior_reference b i table) (b.tables i))
    (each-most (λ (access : Access). writer_reference b i access.key) i (λ access. writer-most b i access.key) (b.accesses i))
    (each-most (λ table. prior_reference b i table) i (λ table. prior-most b i table) (b.tables i)) m
