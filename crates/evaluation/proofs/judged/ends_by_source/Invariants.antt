use Rattle.std.proofs.Common.{Some}
use Rattle.evaluation.proofs.judged.ends_by_source.Given as goal

-- it is this reader all along
abbrev pub ghosts-judge_ends : goal.ghosts-judge_ends
ghosts-judge_ends g a = record { as_reader = Some (g.T.ReadSource.as_reader a.source); work = Some (g.T.ReadSource.work a.source) }
