use Rattle.std.proofs.Common.{◌≤◌, arith}
use Rattle.std.proofs.lemmas.Grind.{common_steps}
use Rattle.std.proofs.lemmas.List.Elements.{All-push}
use Rattle.sequencer.proofs.WholeLogs.{narrow_create}
use Rattle.sequencer.proofs.catalog.Catalog.create_table.Goals as goal

pub invariant_of-self-2 : goal.invariant_of-self-2
invariant_of-self-2 c =
    record {
      owners = grind (arith, common_steps);
      columns = grind (arith, common_steps);
      narrow = rw (c.push_reserved-2.ensures.items, c.in_ok-reserve-2.ensures.items)
          (All-push (λ count. count ≤ 8) c.self.inside.columns.items c.args.columns c.self.invariant.narrow
          (narrow_create c.args.self.now c.args.user.now c.args.table.now c.args.columns c.requires.passes));
      places = grind (arith, common_steps);
    }
