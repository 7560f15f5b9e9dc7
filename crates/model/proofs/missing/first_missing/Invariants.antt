use Rattle.std.proofs.Common.{◌≡◌, length, not}
use Rattle.std.specs.List.{find}
use Rattle.model_base.specs.Privileges.{has}
use Rattle.model.proofs.missing.first_missing.Given as goal

-- the first missing need of those that are left is that of all
abbrev pub invariant-needs : goal.invariant-needs
invariant-needs l =
    find (λ need. not (has l.owners l.grants l.user need)) l.needs ≡ find (λ need. not (has l.owners l.grants l.user need)) l.initial.needs

abbrev pub decreases-needs : goal.decreases-needs
decreases-needs l = length l.needs
