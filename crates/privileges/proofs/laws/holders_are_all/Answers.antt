use Rattle.privileges.proofs.Told.{holds-all, holds-option}
use Rattle.privileges.proofs.laws.holders_are_all.Goals as goal

pub returns : goal.returns
returns c = record { all = holds-all; option = holds-option }
