use Rattle.sequencer.proofs.Learned.{learned_name}
use Rattle.sequencer.proofs.names.NameTable.catch_up.Goals as goal

pub loop-index-preserved : goal.loop-index-preserved
loop-index-preserved c =
    learned_name c.loop-index.self c.args.later.now c.add.new.self c.loop-index.index c.new_name.result.now c.loop-index.invariant
    c.new_name.ensures.name c.new_name.ensures.is_new c.in_ok-add.ensures.added
