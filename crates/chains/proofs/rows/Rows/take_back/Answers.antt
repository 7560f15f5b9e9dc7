use Rattle.std.proofs.Common.{subst, sym, ◌∙◌}
use Rattle.chains.specs.Keyed.{Held}
use Rattle.chains.specs.Kept.{AreChained}
use Rattle.chains.proofs.Cutting.{all-below, last-cut}
use Rattle.chains.proofs.rows.Rows.take_back.Goals as goal

pub loop-preserved : goal.loop-preserved
loop-preserved c =
    let taken = c.loop-test.ensures.taken in
    let now : AreChained c.loop.self c.requires.0 = c.loop.invariant.chained c.requires.0 c.requires.1 in
    let cut = last-cut c.args.first c.loop.self c.take_last.new.self taken.0 c.requires.0 taken.1 taken.2 taken.3 now in
    record { below = cut.below ∙ c.loop.invariant.below; chained = λ end chained. cut.chained end (c.loop.invariant.chained end chained) }

pub returns-clause-gone : goal.returns-clause-gone
returns-clause-gone c =
    let now : AreChained c.take_last.new.self c.requires.0 =
    subst (λ (held : Held). AreChained held c.requires.0) (sym c.loop-test.ensures.same) (c.loop.invariant.chained c.requires.0 c.requires.1) in
    all-below c.args.first 0 c.requires.0 c.take_last.new.self.replacing now.rising c.loop-test.ensures.none
