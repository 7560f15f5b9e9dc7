use Rattle.std.proofs.Common.{ℕ, subst, sym}
use Rattle.engine.specs.RunState.{IsRunState}
use Rattle.engine.proofs.Cutting.{cut_back}
use Rattle.engine.proofs.in_order.run_next.Goals as goal

pub returns-in-Err-clause-err : goal.returns-in-Err-clause-err
returns-in-Err-clause-err g c =
    cut_back g.after.statements c.len-place.result c.args.state.now c.run_place.new.state
    (subst (λ (n : ℕ). IsRunState g.after.statements n c.args.state.now.chains c.args.state.now.book) (sym c.len-place.ensures.count) c.requires.stands)
    c.mark-mark.ensures.whole c.run_place.ensures.adds
    c.cut.new.self c.cut-in-Err.new.self c.cut.ensures c.cut-in-Err.ensures.cut
