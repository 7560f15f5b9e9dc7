use Rattle.std.proofs.Common.{◌≡◌, ℕ, sym, ◌∙◌, subst}
use Rattle.atomic_table.specs.Table.{Allows}
use Rattle.words.specs.Legal.{legal}
use Rattle.words.specs.Passes.{PassState, gone_on}
use Rattle.words.specs.Meanings.{FrontMeans}
use Rattle.words.specs.Views.{with_front}
use Rattle.words.proofs.Plays.{front_then}
use Rattle.words.proofs.Allowed.{front_reads}
use Rattle.words.proofs.table.BatchWords.front.Goals as goal

pub get-requires-clause-allows : goal.get-requires-clause-allows
get-requires-clause-allows g c =
    let key = c.args.self.now.key in
    let b = g.K.BatchData.batch key in
    let listed = g.K.BatchData.listed key in
    let seat = c.pass.inside.seat in
    subst (λ (w : ℕ). Allows (λ s. legal b listed s.words s.views) c.args.self.now.table.slots seat.id seat.me w (λ n. n) (front_then b c.args.partition seat.me)) (sym c.front_spot-at.ensures.value)
    (front_reads b listed c.args.self.now.table.slots seat.id seat.me c.pass.invariant.alive c.pass.invariant.pass c.args.partition c.requires.within)

pub invariant_of-pass : goal.invariant_of-pass
invariant_of-pass g c =
    let then = c.get.ensures.then in
    record { bare = then.0.0 ∙ c.pass.invariant.bare; alive = then.0.1 ∙ c.pass.invariant.alive; pass = then.0.2 ∙ c.pass.invariant.pass; placed = c.pass.invariant.placed ∙ sym then.0.3 }

pub returns-clause-same : goal.returns-clause-same
returns-clause-same g c =
    let same = c.get.ensures.same in
    let then = c.get.ensures.then in
    let passed : PassState = record { table = c.get.new.seat.table_id; number = c.get.new.seat.id; view = c.get.new.seat.me.0; bodies = c.pass.inside.bodies } in
    subst (λ (p : PassState). passed ≡ gone_on p (with_front p.view c.args.partition c.get.result)) c.pass.view_is
    (λ t. record { table = same.0 t; number = same.1 t; view = then.1 t; bodies = c.pass.inside.bodies })

pub returns-clause-tells : goal.returns-clause-tells
returns-clause-tells g c =
    subst (λ (p : PassState). FrontMeans (g.K.BatchData.batch c.args.self.now.key) c.args.partition p.view c.get.result) c.pass.view_is c.get.ensures.then.2
