use Rattle.std.proofs.Common.{◌≡◌, List, ℕ, None, rules}
use Rattle.sequencer.specs.Names.{known_number}
use Rattle.fed_run.proofs.FedListed.{fed_holders, fed_names_none}
use Rattle.fed_run.proofs.fed.FedRun.holders.Goals as goal

pub returns-clause-told : goal.returns-clause-told
returns-clause-told c =
    fed_holders c.args.self.now c.in_ok-engine.ensures.none _ c.in_ok-engine.ensures.engine _ _ _ c.in_ok-put_holders.ensures.holders

pub returns-in_err-put_holders-clause-lacks : goal.returns-in_err-put_holders-clause-lacks
returns-in_err-put_holders-clause-lacks c = λ is.
    let lacks : known_number c.in_ok-engine.engine.now.log.names.tables c.args.name.now ≡ None = search rules in
    fed_names_none c.args.self.now c.in_ok-engine.ensures.none _ c.in_ok-engine.ensures.engine _ lacks
