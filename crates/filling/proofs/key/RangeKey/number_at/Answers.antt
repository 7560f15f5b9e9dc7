use Rattle.std.proofs.Common.{sym, ap, ◌∙◌, subst}
use Rattle.log_batch.specs.Supplied.{LogRange, batch_of}
use Rattle.words.specs.Layout.{IsListed}
use Rattle.filling.specs.Numbers.{number_at}
use Rattle.filling.proofs.Numbered.{number-searched, number-unslotted}
use Rattle.filling.proofs.key.RangeKey.number_at.Goals as goal

pub returns-in-Some : goal.returns-in-Some
returns-in-Some c =
    let ranged = c.batch.result.now in
    let listed = c.args.self.now.slots in
    let right = subst (λ (r : LogRange). IsListed (batch_of r) listed) (sym c.batch.ensures) c.ends-ends.ensures.listed in
    number-searched (batch_of ranged) listed c.args.name right c.slot_of.result c.slot_of.ensures.found c.slot_of.ensures.only c.in-Some.slot c.number_of.result c.in-Some.is c.number_of.ensures
    ∙ ap (λ (r : LogRange). number_at (batch_of r) listed c.args.name) c.batch.ensures

pub returns-in-None : goal.returns-in-None
returns-in-None c =
    let ranged = c.batch.result.now in
    let listed = c.args.self.now.slots in
    let right = subst (λ (r : LogRange). IsListed (batch_of r) listed) (sym c.batch.ensures) c.ends-ends.ensures.listed in
    number-unslotted (batch_of ranged) listed c.args.name right c.slot_of.result c.slot_of.ensures.found c.slot_of.ensures.only c.in-None.is
    ∙ ap (λ (r : LogRange). number_at (batch_of r) listed c.args.name) c.batch.ensures
