use Rattle.std.proofs.Common.{◌≡◌}
use Rattle.words.specs.Passes.{gone_on}
use Rattle.filling.specs.Placers.{AreNewPlacers, with_all_cut}
use Rattle.filling.proofs.opening.cut_placers.Given as goal

abbrev pub invariant-loop-partition : goal.invariant-loop-partition
invariant-loop-partition l =
    (l.first ≡ gone_on l.fn.pass (with_all_cut l.fn.pass.view l.partition)) × AreNewPlacers l.batch l.partition l.placers.items
