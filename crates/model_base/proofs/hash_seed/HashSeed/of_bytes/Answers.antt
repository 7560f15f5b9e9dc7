use Rattle.std.proofs.lemmas.Nat.{and_mask}
use Rattle.model_base.proofs.hash_seed.HashSeed.of_bytes.Goals as goal

pub returns : goal.returns
returns c = cc (and_mask c.from_le_bytes-drawn.result 64)
