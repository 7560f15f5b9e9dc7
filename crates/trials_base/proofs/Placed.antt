-- What the placers find, one partition after another.
use Rattle.std.proofs.Common.{◌≡◌, ◌+◌, ◌++◌, ◌∷◌, ℕ, List, [], map, sym, ap, ◌∙◌, arith}
use Rattle.std.specs.List.{range_with_len}
use Rattle.std.proofs.lemmas.List.FromFn.{map-range_with_len_more}

-- the parts of one partition more
pub one_more : {A : Type 0} (found : ℕ → A) (partition : ℕ) (old new : List A) (part : A)
    → new ≡ old ++ part ∷ [] → old ≡ map found (range_with_len 0 partition) → part ≡ found partition
    → new ≡ map found (range_with_len 0 (partition + 1))
one_more found partition old new part pushed before is =
    pushed ∙ ap (λ xs. xs ++ part ∷ []) before ∙ ap (λ x. map found (range_with_len 0 partition) ++ x ∷ []) is
    ∙ sym (map-range_with_len_more found 0 partition partition (omega arith))
