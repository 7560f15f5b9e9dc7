use Rattle.std.proofs.Common.{◌<◌, ◌+◌, ◌^◌, Some, arith, ap, sym, ◌∙◌}
use Rattle.model_base.specs.declared.statement.Statement.{Statement}
use Rattle.own_words.specs.Words.{outcome_from}
use Rattle.filling.proofs.Told.{outcome_told}
use Rattle.filling.proofs.completion.finished.outcome_of.Goals as goal

pub returns : goal.returns
returns c =
    let ranged = c.args.batch.now in
    let place = ranged.first + c.args.index in
    let statement : Statement = c.statement-statement.result.now in
    let low : place < 2 ^ 64 = omega (arith, c.requires.within, c.first_place-first.ensures.small) in
    outcome_told ranged.log place statement c.args.own.now c.args.ended.items c.statement-statement.ensures.whole c.statement-statement.ensures.at low
    c.requires.words c.requires.ended
    ∙ ap Some (ap (outcome_from statement.form c.args.own.now) (sym c.new.ensures) ∙ sym c.decoded.ensures)
