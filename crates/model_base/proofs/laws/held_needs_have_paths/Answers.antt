use Rattle.model_base.specs.Privileges.{kept}
use Rattle.model_base.proofs.Paths.{leads-path, part-path, rising-path}
use Rattle.model_base.proofs.laws.held_needs_have_paths.Goals as goal

pub returns : goal.returns
returns c = record {
  leads = leads-path;
  part = λ owners deeds. part-path owners (kept owners deeds);
  rises = rising-path;
}
