use Rattle.std.proofs.Common.{◌≡◌, true, List, ◌∙◌, subst}
use Rattle.std.specs.Prelude.{slice_get}
use Rattle.model_base.specs.declared.deed.Record.{Record}
use Rattle.grants_base.specs.Force.{force_of, gives_to, is_in_force}
use Rattle.grants_base.specs.InForce.{IsNextInForce, privilege_under}
use Rattle.grants_base.specs.Index.{IsFirst, is_one_of}
use Rattle.grants_base.specs.Sides.{side_of}
use Rattle.grants_base.specs.declared.index.HolderKey.{HolderKey}
use Rattle.grants_base.proofs.Indexing.{first_as}
use Rattle.grants_base.proofs.Keeping.{next_told}
use Rattle.grants_base.proofs.indexed.IndexedRecords.next_in_force.Goals as goal

pub returns : goal.returns
returns c =
    let passes = gives_to c.args.holder.grantee c.args.holder.kind c.args.holder.table c.args.option in
    let index = c.self.inside.in_force in
    next_told c.next.result (index.is_whole ≡ true) _ _ (IsNextInForce passes c.args.self.now c.args.from) c.next.ensures.whole c.next.ensures.slot c.next.ensures.lost
    (λ next whole slot lost.
    let kept = (c.self.invariant.kept whole c.args.holder.grantee c.args.holder.kind c.args.holder.table).force c.args.option in
    let found =
    subst (λ (side : HolderKey). IsFirst (is_one_of (force_of c.args.option (privilege_under index side)).slots) c.args.from next.slot) c.side_of.ensures slot in
    let last = subst (λ (side : HolderKey). next.lost ≡ (force_of c.args.option (privilege_under index side)).lost) c.side_of.ensures lost in
    subst (λ (es : List Record). IsNextInForce passes es c.args.from next) c.self.view_is
    (record {
      slot = first_as (is_one_of (force_of c.args.option (privilege_under index (side_of c.args.holder.grantee c.args.holder.kind c.args.holder.table))).slots) (λ k. is_in_force passes (slice_get c.self.inside.records.items k)) kept.slots c.args.from next.slot found;
      lost = last ∙ kept.lost;
    }))
