-- How the hash of a key ends, and which seed some bytes make.
use Rattle.std.specs.Prelude.{ℕ, ◌-◌, ◌*◌, ◌/◌, ◌%◌, ◌^◌, List, bit_and, bit_or, bit_xor}
use Rattle.std.specs.Hash.FoldHasher.{initial, write}
use Rattle.std.specs.Hash.{le_bytes}
use Rattle.std.specs.Int.{from_le_bytes, w128}
use Rattle.model_base.specs.declared.hash_seed.HashSeed.{HashSeed}

-- the two halves of the 128 bits of a product, joined
abbrev pub folded : ℕ → ℕ → ℕ
folded a b = bit_xor (bit_and (a * b) (2 ^ 64 - 1)) (a * b / 2 ^ 64)

-- the seed that sixteen bytes make: each hash starts as after the number of the first eight, and is multiplied at its end by the number
-- of the others, made odd
abbrev pub seed_of : List ℕ → HashSeed
seed_of bytes =
    let number = from_le_bytes w128 bytes in
    record {
      first = record { inner = write initial (le_bytes 8 (number % 2 ^ 64)); last = bit_or (number / 2 ^ 64) 1 };
    }
