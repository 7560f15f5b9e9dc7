use Rattle.std.proofs.Common.{◌≡◌, true, false, List, ◌∙◌, sym, subst}
use Rattle.std.specs.Prelude.{slice_get}
use Rattle.model_base.specs.declared.deed.Record.{Record}
use Rattle.grants_base.specs.Force.{gives_to, is_in_force}
use Rattle.grants_base.specs.InForce.{privilege_under}
use Rattle.grants_base.specs.Index.{IsOnly, is_one_of}
use Rattle.grants_base.specs.declared.index.HolderKey.{HolderKey}
use Rattle.grants_base.proofs.Keeping.{next_by_told}
use Rattle.grants_base.proofs.indexed.IndexedRecords.only_in_force.Goals as goal

pub returns : goal.returns
returns c =
    let passes = gives_to c.args.holder.grantee c.args.holder.kind c.args.holder.table false in
    let index = c.self.inside.in_force in
    next_by_told c.only.result (index.is_whole ≡ true) _ (IsOnly (λ k. is_in_force passes (slice_get c.args.self.now k))) c.only.ensures.whole c.only.ensures.slot
    (λ slot whole only.
    let kept = (c.self.invariant.kept whole c.args.holder.grantee c.args.holder.kind c.args.holder.table).force false in
    let found = subst (λ (side : HolderKey). IsOnly (is_one_of (privilege_under index side).plain.slots) slot) c.side_of.ensures only in
    subst (λ (es : List Record). IsOnly (λ k. is_in_force passes (slice_get es k)) slot) c.self.view_is
    (λ k other. sym (kept.slots k) ∙ found k other))
