use Rattle.std.proofs.Common.{[], ◌∷◌, refl, inl}
use Rattle.words.proofs.Members.{in_back, in_front}
use Rattle.words.proofs.laws.passes_keep_what_they_know.Goals as goal

pub returns : goal.returns
returns c = record {
  learned = λ view index. in_back index view.known (index ∷ []) (inl refl);
  kept = λ view index other known. in_front other view.known (index ∷ []) known;
  split = λ view index known. (known, known);
  first = λ view other number index known. in_front index view.known other.known known;
  second = λ view other number index known. in_back index view.known other.known known;
  references = λ batch view after index more knows other has. more other (knows other has);
  settled = λ batch view after index more is. (is.0, is.1, is.2, is.3, (λ other has. more other (is.4 other has)), is.5, is.6);
}
