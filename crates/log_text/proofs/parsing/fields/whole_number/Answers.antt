use Rattle.std.proofs.Common.{ap, sym, ◌∙◌}
use Rattle.line_words.specs.Words.{first_word}
use Rattle.log_text.specs.Fault.{misfit, OfWhole}
use Rattle.log_text.proofs.Missing.{whole_missing}
use Rattle.log_text.proofs.parsing.fields.whole_number.Goals as goal

pub returns-in-None-clause-fault : goal.returns-in-None-clause-fault
returns-in-None-clause-fault c = ap (λ ws. misfit OfWhole (first_word ws)) (sym c.in_default.ensures ∙ sym c.in_default-next_negative.ensures ∙ c.in-None.ensures.0) ∙ whole_missing
