use Rattle.std.proofs.Common.{[], ap, sym, ◌∙◌}
use Rattle.std.proofs.lemmas.List.{append-nil}
use Rattle.own_words.specs.Words.{ended_in, header, outcome_from}
use Rattle.own_words.proofs.Undoing.{details_told}
use Rattle.own_words.proofs.laws.decoding_undoes_coding.Goals as goal

pub returns : goal.returns
returns c = record {
  alone = λ form outcome fit.
      ap (λ words. outcome_from form words (ended_in outcome)) (sym (append-nil (header form outcome)))
      ∙ details_told form outcome [] fit.details;
  followed = λ form outcome more fit. details_told form outcome more fit.details;
}
