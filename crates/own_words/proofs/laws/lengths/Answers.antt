use Rattle.own_words.proofs.Undoing.{header_length, needs_length, row_length}
use Rattle.own_words.proofs.laws.lengths.Goals as goal

pub returns : goal.returns
returns c = record {
  header = λ form outcome fit. header_length form outcome fit.details;
  row = row_length;
  needs = needs_length;
}
