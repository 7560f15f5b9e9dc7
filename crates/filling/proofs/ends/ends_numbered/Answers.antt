use Rattle.std.proofs.Common.{◌≡◌, ℕ, Vec, Global, sym, subst}
use Rattle.std.proofs.lemmas.Result.{IfOk-weaker}
use Rattle.log_batch.specs.Supplied.{batch_of}
use Rattle.filling_base.specs.Storing.{IsEnding}
use Rattle.filling.specs.Numbers.{numbers_at}
use Rattle.filling.proofs.Lists.{rises-by}
use Rattle.filling.proofs.Numbered.{ends-of_ranks}
use Rattle.filling.proofs.ends.ends_numbered.Goals as goal

pub returns : goal.returns
returns c =
    let b = batch_of c.args.key.now.batch in
    let listed = c.args.key.now.slots in
    let ranks = c.args.names.now in
    IfOk-weaker c.numbers_of.result
    (λ (numbers : Vec ℕ Global). numbers.items ≡ numbers_at b listed ranks)
    (λ (numbers : Vec ℕ Global). IsEnding b listed c.args.index numbers.items)
    (λ numbers is.
    subst (IsEnding b listed c.args.index) (sym is)
    (ends-of_ranks b listed ranks c.args.index c.ends-ends.ensures.listed (rises-by ranks c.requires.order) c.requires.ends
    (λ slot other grant later less at above. c.slots_stand_in_order.ensures b slot other grant later c.places-places.ensures.sound less at above)))
    c.numbers_of.ensures
