-- Bytes that are written over the front of others.
use Rattle.std.proofs.Common.{◌≡◌, ℕ, List, ◌++◌, ap, ◌∙◌, take, drop, length}
use Rattle.std.specs.Prelude.{min}
use Rattle.std.proofs.Math.Nat.{min_comm}
use Rattle.std.proofs.lemmas.List.{take_min, drop_min}

-- as many of the bytes as there is room for
pub written_over : (bytes out : List ℕ) → take (min (length out) (length bytes)) bytes ++ drop (min (length out) (length bytes)) out ≡ take (length out) bytes ++ drop (length bytes) out
written_over bytes out =
    ap (λ (front : List ℕ). front ++ drop (min (length out) (length bytes)) out) (take_min (length out) bytes)
    ∙ ap (λ (rest : List ℕ). take (length out) bytes ++ rest) (ap (λ (n : ℕ). drop n out) (min_comm (length out) (length bytes)) ∙ drop_min (length bytes) out)
