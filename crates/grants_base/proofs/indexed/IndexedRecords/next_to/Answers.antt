use Rattle.std.proofs.Common.{List, sym, subst}
use Rattle.model_base.specs.declared.deed.Record.{Record}
use Rattle.model_base.specs.Records.{recorded}
use Rattle.grants_base.specs.Index.{IsFirst, IsNext, is_to}
use Rattle.grants_base.specs.Index.{is_one_of}
use Rattle.grants_base.specs.Sides.{AreAscending}
use Rattle.grants_base.specs.InForce.{made_under}
use Rattle.grants_base.specs.declared.index.HolderKey.{HolderKey}
use Rattle.grants_base.proofs.SideLaws.{next_found, slots_rise}
use Rattle.grants_base.proofs.indexed.IndexedRecords.next_to.Goals as goal

pub next_made-requires : goal.next_made-requires
next_made-requires c =
    subst (λ (side : HolderKey). AreAscending (made_under c.self.inside.in_force side)) (sym c.side_of.ensures)
    (slots_rise is_to (made_under c.self.inside.in_force) c.self.inside.records.items c.args.holder.grantee c.args.holder.kind c.args.holder.table c.self.invariant.grantees)

pub returns : goal.returns
returns c =
    let found = subst (λ (side : HolderKey). IsFirst (is_one_of (made_under c.self.inside.in_force side)) c.args.from c.next_made.result) c.side_of.ensures c.next_made.ensures in
    subst (λ (entries : List Record). IsNext (is_to c.args.holder.grantee c.args.holder.kind c.args.holder.table) (recorded entries) c.args.from c.next_made.result) c.self.view_is
    (next_found is_to (made_under c.self.inside.in_force) c.self.inside.records.items c.args.holder.grantee c.args.holder.kind c.args.holder.table c.self.invariant.grantees c.args.from c.next_made.result found)
