-- The law of a front, by its lemma.
use Rattle.line_io.proofs.Written.{appends_front}
use Rattle.line_io.proofs.laws.writing_laws.Goals as goal

pub returns-clause-front : goal.returns-clause-front
returns-clause-front c = appends_front
