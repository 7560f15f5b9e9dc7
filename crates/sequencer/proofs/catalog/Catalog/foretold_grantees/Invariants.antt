use Rattle.std.proofs.Common.{◌≡◌, true, length}
use Rattle.std.specs.List.{AllByRecursion}
use Rattle.sequencer.specs.Foretelling.{is_known_grantee}
use Rattle.sequencer.proofs.Parties.{AreTaken}
use Rattle.sequencer.proofs.catalog.Catalog.foretold_grantees.Given as goal

abbrev pub invariant-grantees : goal.invariant-grantees
invariant-grantees l = record {
  taken : AreTaken l.self.users l.grantees l.left l.found;
  known : AllByRecursion (λ g. is_known_grantee l.self.users g ≡ true) l.left → AllByRecursion (λ g. is_known_grantee l.self.users g ≡ true) l.grantees;
}

abbrev pub decreases-grantees : goal.decreases-grantees
decreases-grantees l = length l.left
