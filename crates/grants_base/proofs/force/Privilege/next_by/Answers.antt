use Rattle.std.proofs.Common.{◌||◌, sym, subst}
use Rattle.grants_base.specs.Force.{Privilege, held_by_one, held_by_others}
use Rattle.grants_base.specs.GrantorSet.{has_by}
use Rattle.grants_base.specs.Index.{IsFirst}
use Rattle.grants_base.proofs.GrantorLaws.{by-append}
use Rattle.grants_base.proofs.Indexing.{first_as}
use Rattle.grants_base.proofs.force.Privilege.next_by.Goals as goal

pub returns : goal.returns
returns c =
    let user = c.args.grantor in
    let one = (held_by_one c.self.inside.one).by in
    let others = (held_by_others c.self.inside.others).by in
    subst (λ (it : Privilege). IsFirst (has_by it.by user) c.args.from c.lesser.result) c.self.view_is
    (first_as (λ k. has_by one user k || has_by others user k) _ (λ k. sym (by-append one others user k)) c.args.from c.lesser.result
    (c.lesser.ensures (has_by one user) (has_by others user) c.args.from c.slot_by.ensures c.next_other_by.ensures))
