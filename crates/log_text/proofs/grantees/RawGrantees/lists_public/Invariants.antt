use Rattle.std.proofs.Common.{◌≡◌, length}
use Rattle.std.specs.List.{list_any}
use Rattle.log_text.specs.Grantees.{grantees_named, is_everyone}
use Rattle.log_text.proofs.grantees.RawGrantees.lists_public.Given as goal

abbrev pub invariant-pieces : goal.invariant-pieces
invariant-pieces l = list_any is_everyone l.self ≡ list_any is_everyone (grantees_named l.left)

abbrev pub decreases-pieces : goal.decreases-pieces
decreases-pieces l = length l.left
