use Rattle.log_text.specs.Versions.{version_number}
use Rattle.log_text.proofs.KindLists.{only_taken}
use Rattle.log_text.proofs.parsing.granting.kinds.Goals as goal

pub returns-in-Some-clause-ok : goal.returns-in-Some-clause-ok
returns-in-Some-clause-ok c =
    rw c.only.ensures (only_taken (version_number c.args.version) c.in-Some.kind c.args.words.now c.next_kind.new.words c.in-Some.ensures)
