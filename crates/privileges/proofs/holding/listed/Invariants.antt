use Rattle.std.proofs.Common.{◌≡◌, ◌++◌, length}
use Rattle.privileges.proofs.holding.listed.Given as goal

abbrev pub invariant-loop-user : goal.invariant-loop-user
invariant-loop-user l = l.found.items ++ l.users.keys ≡ l.fn.users.keys

abbrev pub decreases-loop-user : goal.decreases-loop-user
decreases-loop-user l = length l.users.keys
