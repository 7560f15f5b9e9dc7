use Rattle.std.proofs.Common.{◌≡◌, ◌++◌}
use Rattle.std.specs.List.{filter_map}
use Rattle.chains.specs.RowsThere.{there_in}
use Rattle.chains.proofs.listing.rows_in.Given as goal

abbrev pub invariant-loop-key : goal.invariant-loop-key
invariant-loop-key l = l.found.items ++ filter_map there_in l.key-iterator ≡ filter_map there_in l.newest.entries
