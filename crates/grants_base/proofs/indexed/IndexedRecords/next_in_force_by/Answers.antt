use Rattle.std.proofs.Common.{◌≡◌, true, List, subst}
use Rattle.std.specs.Prelude.{slice_get}
use Rattle.model_base.specs.declared.deed.Record.{Record}
use Rattle.grants_base.specs.Force.{gives_by, is_in_force}
use Rattle.grants_base.specs.GrantorSet.{has_by}
use Rattle.grants_base.specs.InForce.{privilege_under}
use Rattle.grants_base.specs.Index.{IsFirst}
use Rattle.grants_base.specs.Sides.{side_of}
use Rattle.grants_base.specs.declared.force.NextBy.{NextBy}
use Rattle.grants_base.specs.declared.index.HolderKey.{HolderKey}
use Rattle.grants_base.proofs.Indexing.{first_as}
use Rattle.grants_base.proofs.Keeping.{next_by_told}
use Rattle.grants_base.proofs.indexed.IndexedRecords.next_in_force_by.Goals as goal

pub returns : goal.returns
returns c =
    let user = c.args.user in
    let passes = gives_by user c.args.holder.grantee c.args.holder.kind c.args.holder.table in
    let index = c.self.inside.in_force in
    next_by_told c.next_by.result (index.is_whole ≡ true) _ (λ (next : NextBy). IsFirst (λ k. is_in_force passes (slice_get c.args.self.now k)) c.args.from next.slot)
    c.next_by.ensures.whole c.next_by.ensures.slot
    (λ next whole slot.
    let kept = (c.self.invariant.kept whole c.args.holder.grantee c.args.holder.kind c.args.holder.table).by user in
    let found = subst (λ (side : HolderKey). IsFirst (has_by (privilege_under index side).by user) c.args.from next.slot) c.side_of.ensures slot in
    subst (λ (es : List Record). IsFirst (λ k. is_in_force passes (slice_get es k)) c.args.from next.slot) c.self.view_is
    (first_as (has_by (privilege_under index (side_of c.args.holder.grantee c.args.holder.kind c.args.holder.table)).by user) (λ k. is_in_force passes (slice_get c.self.inside.records.items k)) kept c.args.from next.slot found))
