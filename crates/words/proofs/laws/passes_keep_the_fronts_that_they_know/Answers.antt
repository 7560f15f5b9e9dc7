use Rattle.std.proofs.Common.{refl, inl, arith}
use Rattle.words.specs.Views.{joined, with_front}
use Rattle.words.proofs.Known.{found-front, front-later, keeps-first, keeps-found, keeps-second, past-later}
use Rattle.words.proofs.laws.passes_keep_the_fronts_that_they_know.Goals as goal

pub returns : goal.returns
returns c = record {
  found = found-front;
  kept = λ view partition found other index knows. front-later view (with_front view partition found) other index (keeps-found view partition found) knows;
  all = λ batch view index partition below. inl refl;
  past = λ batch view after index other keeps low knows. past-later batch view after index other keeps low knows;
  split = λ batch view index knows. (knows, knows);
  first = λ batch view other number index knows. past-later batch view (joined view number other) index index (keeps-first view other number) (omega arith) knows;
  second = λ batch view other number index knows. past-later batch other (joined view number other) index index (keeps-second view other number) (omega arith) knows;
}
