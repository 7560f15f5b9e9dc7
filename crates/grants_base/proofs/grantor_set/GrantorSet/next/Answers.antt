use Rattle.std.proofs.Common.{◌||◌, List, sym, subst}
use Rattle.std.specs.Option.{option_to_list}
use Rattle.grants_base.specs.GrantorSet.{has_by}
use Rattle.grants_base.specs.Index.{IsFirst}
use Rattle.grants_base.specs.declared.grantor_set.Granted.{Granted}
use Rattle.grants_base.proofs.GrantorLaws.{by-append}
use Rattle.grants_base.proofs.Indexing.{first_as}
use Rattle.grants_base.proofs.grantor_set.GrantorSet.next.Goals as goal

pub returns : goal.returns
returns c =
    let user = c.args.grantor in
    let one = option_to_list c.self.inside.one in
    let others = c.self.inside.others.keys in
    subst (λ (slots : List Granted). IsFirst (has_by slots user) c.args.from c.lesser.result) c.self.view_is
    (first_as (λ k. has_by one user k || has_by others user k) _ (λ k. sym (by-append one others user k)) c.args.from c.lesser.result
    (c.lesser.ensures (has_by one user) (has_by others user) c.args.from c.slot_by.ensures c.next_by.ensures))
