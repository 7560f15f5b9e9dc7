use Rattle.std.proofs.Common.{◌++◌, List, subst}
use Rattle.std.specs.Option.{option_to_list}
use Rattle.grants_base.specs.GrantorSet.{HasGainedBy}
use Rattle.grants_base.specs.declared.grantor_set.Granted.{Granted}
use Rattle.grants_base.proofs.GrantorLaws.{gained_by}
use Rattle.grants_base.proofs.grantor_set.GrantorSet.insert.Goals as goal

pub returns-in_ok-insert-clause-ok : goal.returns-in_ok-insert-clause-ok
returns-in_ok-insert-clause-ok c =
    let one = option_to_list c.self.inside.one in
    subst (λ (old : List Granted). HasGainedBy c.args.granted old (one ++ c.insert.new.self.keys)) c.self.view_is
    (gained_by one c.self.inside.others c.insert.new.self c.args.granted c.in_ok-insert.ensures.updates)
