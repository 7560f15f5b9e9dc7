use Rattle.std.proofs.Common.{◌∙◌}
use Rattle.bohm_base.proofs.Named.{looked_up}
use Rattle.bohm_base.proofs.Reporting.{grantee-there, no-grantee}
use Rattle.bohm_base.proofs.grantees.grantee_of.Goals as goal

pub returns-in-Some : goal.returns-in-Some
returns-in-Some c =
    let found = c.in-Some.ensures.lookup.3 in
    c.grantee.ensures
    ∙ grantee-there c.args.statements.now c.name.inside c.args.name c.name.view_is c.in-Some.statement.now
    (looked_up c.args.statements.now c.name.inside.place c.in-Some.statement.now found.0 found.1)

pub returns-in-None : goal.returns-in-None
returns-in-None c =
    no-grantee c.args.statements.now c.name.inside c.args.name c.name.view_is
    c.in-None.ensures.lookup.3
