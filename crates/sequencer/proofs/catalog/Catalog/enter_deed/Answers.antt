use Rattle.std.proofs.Common.{Some, ap, ◌∙◌}
use Rattle.sequencer.specs.Catalog.{Names, with_users}
use Rattle.sequencer.specs.Names.{number_of}
use Rattle.sequencer.proofs.catalog.Catalog.enter_deed.Goals as goal

pub returns-clause-deed : goal.returns-clause-deed
returns-clause-deed c =
    let users = ap (λ (names : Names). names.users) c.self.view_is in
    c.deed_form.ensures (with_users c.args.self.now c.args.user.now (Some c.args.deed.now))
    (c.in_ok-table.ensures.answer.1 ∙ ap (number_of c.args.self.now.tables) c.names_in.ensures.table)
    (rw (c.in_ok-user.ensures.entered, users, c.names_in.ensures.grantees, c.as_str.ensures.text) at c.in_ok-user.ensures.grantees)
