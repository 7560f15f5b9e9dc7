use Rattle.std.proofs.Common.{ℕ, List, sym, subst}
use Rattle.model_base.specs.Privileges.{deeds_below}
use Rattle.grants_base.proofs.SlotSetLaws.{set_lost}
use Rattle.privileges.specs.Holders.{AreHolders}
use Rattle.privileges.proofs.Named.{are_holders}
use Rattle.privileges.proofs.holding.holders.Goals as goal

pub returns : goal.returns
returns c = λ owners deeds shows.
    subst (λ (users : List ℕ). AreHolders owners (deeds_below c.args.place deeds) c.args.need.now users) (sym c.in_ok-found.ensures)
    (are_holders c.args.book.now owners deeds c.args.place c.owner_of.result c.args.need.now c.in_ok-users.users.keys c.remove.new.self.keys
    shows c.requires.covered c.owner_of.ensures c.in_ok-users.ensures
    (set_lost c.in_ok-users.users c.remove.new.self c.owner_of.result c.remove.ensures.updates) c.remove.ensures.ordered)
