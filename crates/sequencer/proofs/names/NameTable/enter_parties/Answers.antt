use Rattle.std.proofs.Common.{subst}
use Rattle.sequencer.specs.Refusal.{IsRefusal, parties_refusal}
use Rattle.sequencer.proofs.Parties.{forgotten}
use Rattle.sequencer.proofs.names.NameTable.enter_parties.Goals as goal

pub returns-in-Err-clause-err : goal.returns-in-Err-clause-err
returns-in-Err-clause-err c =
    forgotten c.args.self.now c.enter.new.self c.enter_grantees.new.self c.forget_to.new.self c.args.user.now c.len-before.result c.in-Ok.ensures.entered
    c.enter_grantees.ensures.begins c.len-before.ensures.count c.forget_to.ensures

pub returns-in-Err-clause-refused : goal.returns-in-Err-clause-refused
returns-in-Err-clause-refused c =
    subst (λ names. IsRefusal c.refused-in-Err.result (parties_refusal names c.args.user.now c.args.grantees.now)) (returns-in-Err-clause-err c) c.refused-in-Err.ensures
