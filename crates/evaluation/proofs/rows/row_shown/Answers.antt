use Rattle.std.proofs.Common.{ℕ, Option, ap, sym, ◌∙◌}
use Rattle.log_batch.specs.Shown.{row_numbers}
use Rattle.log_batch.specs.Supplied.{batch_of}
use Rattle.evaluation.specs.ReadSource.{referred_word, row_referred}
use Rattle.evaluation.proofs.Shown.{numbers-told}
use Rattle.evaluation.proofs.rows.row_shown.Goals as goal

pub returns-in-None-clause-value : goal.returns-in-None-clause-value
returns-in-None-clause-value g c =
    let ranged = c.args.batch.now in
    c.row_before.ensures ∙ sym (numbers-told ranged c.log-log.ensures.of_log ranged.first c.args.key)
    ∙ ap (λ (reference : Option ℕ). row_numbers (row_referred (batch_of ranged) c.args.key (referred_word reference))) (sym c.in-None.is)
