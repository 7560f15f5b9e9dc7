use Rattle.std.proofs.Common.{◌≡◌}
use Rattle.sequencer.specs.Foretelling.{with_tables_of}
use Rattle.sequencer.proofs.catalog.Catalog.catch_up.Given as goal

abbrev pub invariant-loop-index : goal.invariant-loop-index
invariant-loop-index l = l.self ≡ with_tables_of l.initial.self l.later l.index
