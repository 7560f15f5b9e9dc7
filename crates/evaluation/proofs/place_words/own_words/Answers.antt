use Rattle.evaluation.proofs.Room.{few_needs, few_outputs, header_fits}
use Rattle.evaluation.proofs.place_words.own_words.Goals as goal

pub put_header-requires-clause-needs : goal.put_header-requires-clause-needs
put_header-requires-clause-needs g c = few_needs c.args.statement.now.form c.requires.runnable

pub put_header-requires-clause-outputs : goal.put_header-requires-clause-outputs
put_header-requires-clause-outputs g c = few_outputs c.args.statement.now.form c.requires.runnable

pub push_cells-requires-clause-room : goal.push_cells-requires-clause-room
push_cells-requires-clause-room g c =
    rw c.put_header.ensures (header_fits c.args.statement.now.form c.judged-outcome.result c.requires.runnable c.judged-outcome.ensures.outputs)
