use Rattle.std.proofs.Common.{w64}
use Rattle.std.proofs.Math.Facts.{Fits-lt-pow, Fits-of_z}
use Rattle.std.proofs.lemmas.Int.{of_z-to_z, to_z-of_z}
use Rattle.own_words.proofs.Undoing.{detail_below}
use Rattle.own_words.proofs.laws.words_fit.Goals as goal

pub returns : goal.returns
returns c = record {
  below = λ value fit. Fits-lt-pow (Fits-of_z fit);
  told = to_z-of_z w64;
  back = of_z-to_z w64;
  detail = λ form outcome fit. detail_below form outcome fit.details;
}
