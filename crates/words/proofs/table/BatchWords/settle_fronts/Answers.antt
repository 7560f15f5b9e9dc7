use Rattle.std.proofs.Common.{ℕ, sym, subst}
use Rattle.atomic_table.specs.Table.{Allows}
use Rattle.words.specs.Legal.{legal}
use Rattle.words.specs.Passes.{PassState}
use Rattle.words.specs.Views.{KnowsPast, with_all_placed}
use Rattle.words.proofs.Plays.{goes_to}
use Rattle.words.proofs.Allowed.{settles}
use Rattle.words.proofs.table.BatchWords.settle_fronts.Goals as goal

pub get-all-requires-clause-allows : goal.get-all-requires-clause-allows
get-all-requires-clause-allows g c =
    let key = c.args.self.now.key in
    let b = g.K.BatchData.batch key in
    let listed = g.K.BatchData.listed key in
    let seat = c.pass.inside.seat in
    let past = subst (λ (p : PassState). KnowsPast b p.view c.args.last) (sym c.pass.view_is) c.requires.past in
    subst (λ (w : ℕ). Allows (λ s. legal b listed s.words s.views) c.args.self.now.table.slots seat.id seat.me w (λ n. n) (goes_to (with_all_placed seat.me.0) seat.me)) (sym c.front_spot-at.ensures.value)
    (settles b listed c.args.self.now.table.slots seat.id seat.me c.pass.invariant.alive c.pass.invariant.pass 0 c.args.last c.requires.last past)
