use Rattle.std.proofs.Common.{◌++◌, ap, arith, ◌∙◌}
use Rattle.std.specs.Option.{option_to_list}
use Rattle.std.proofs.lemmas.List.{get_or_default}
use Rattle.log_batch.specs.Supplied.{batch_of}
use Rattle.filling.specs.Numbers.{number_at, numbers_at}
use Rattle.filling.proofs.Numbered.{numbers-more}
use Rattle.filling.proofs.ends.numbers_of.Goals as goal

pub loop-name-preserved : goal.loop-name-preserved
loop-name-preserved c =
    let b = batch_of c.args.key.now.batch in
    let listed = c.args.key.now.slots in
    let ranks = c.args.names.now in
    let k = c.loop-name.name-index in
    let item = c.name-item.is ∙ get_or_default ranks k c.name-item.result 0 c.loop-name-test.true in
    numbers-more b listed ranks c.loop-name.numbers.items c.put_number.new.numbers.items (numbers_at b listed ranks) k (omega arith)
    (c.in_ok-put_number.ensures ∙ ap (λ name. c.loop-name.numbers.items ++ option_to_list (number_at b listed name)) item) c.loop-name.invariant
