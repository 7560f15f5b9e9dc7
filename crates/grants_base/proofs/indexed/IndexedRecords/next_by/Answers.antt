use Rattle.std.proofs.Common.{List, sym, subst}
use Rattle.model_base.specs.declared.deed.Grantee.TheVariants.{User}
use Rattle.model_base.specs.declared.deed.Record.{Record}
use Rattle.model_base.specs.Records.{recorded}
use Rattle.grants_base.specs.Index.{is_by, is_one_of, IsFirst, IsNext}
use Rattle.grants_base.specs.Sides.{AreAscending, is_made_by, slots_under}
use Rattle.grants_base.specs.declared.index.HolderKey.{HolderKey}
use Rattle.grants_base.proofs.SideLaws.{next_found, slots_rise}
use Rattle.grants_base.proofs.indexed.IndexedRecords.next_by.Goals as goal

pub next-requires : goal.next-requires
next-requires c =
    subst (λ (side : HolderKey). AreAscending (slots_under c.self.inside.by side)) (sym c.side_by.ensures)
    (slots_rise is_made_by (slots_under c.self.inside.by) c.self.inside.records.items (User c.args.user) c.args.kind c.args.table c.self.invariant.grantors)

pub returns : goal.returns
returns c =
    let found = subst (λ (side : HolderKey). IsFirst (is_one_of (slots_under c.self.inside.by side)) c.args.from c.next.result) c.side_by.ensures c.next.ensures in
    subst (λ (entries : List Record). IsNext (is_by c.args.user c.args.kind c.args.table) (recorded entries) c.args.from c.next.result) c.self.view_is
    (next_found is_made_by (slots_under c.self.inside.by) c.self.inside.records.items (User c.args.user) c.args.kind c.args.table c.self.invariant.grantors c.args.from c.next.result found)
