use Rattle.std.proofs.Common.{◌≡◌, length}
use Rattle.checker.specs.Missing.{Covers, first_lack}
use Rattle.checker.proofs.missing.first_lack.Given as goal

-- the first missing need of those that are left is that of all
abbrev pub invariant-needs : goal.invariant-needs
invariant-needs g l = record {
  same : g.V.Records.shown l.view ≡ g.V.Records.shown l.initial.view;
  covered : Covers (g.V.Records.shown l.initial.view) l.needs;
  rest : first_lack (g.V.Records.shown l.initial.view) l.user l.needs ≡ first_lack (g.V.Records.shown l.initial.view) l.user l.initial.needs;
}

abbrev pub decreases-needs : goal.decreases-needs
decreases-needs g l = length l.needs
