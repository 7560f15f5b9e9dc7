use Rattle.std.proofs.Common.{◌++◌, List, subst}
use Rattle.std.specs.Option.{option_to_list}
use Rattle.grants_base.specs.GrantorSet.{HasLostBy}
use Rattle.grants_base.specs.declared.grantor_set.Granted.{Granted}
use Rattle.grants_base.proofs.GrantorLaws.{lost_by, set_lost_by}
use Rattle.grants_base.proofs.grantor_set.GrantorSet.remove.Goals as goal

pub returns : goal.returns
returns c =
    let one = option_to_list c.without-self-inside.result in
    subst (λ (old : List Granted). HasLostBy c.args.granted.now old (one ++ c.remove.new.self.keys)) c.self.view_is
    (lost_by (option_to_list c.self.inside.one) one c.self.inside.others.keys c.remove.new.self.keys c.args.granted.now c.without-self-inside.ensures
    (set_lost_by c.self.inside.others c.remove.new.self c.args.granted.now c.remove.ensures.updates))
