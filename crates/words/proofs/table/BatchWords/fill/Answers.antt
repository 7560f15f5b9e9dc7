use Rattle.std.proofs.Common.{◌≡◌, ℕ, List, sym, ◌∙◌, subst}
use Rattle.atomic_table.specs.Table.{Allows}
use Rattle.bohm_core_base.specs.declared.event.Event.TheVariants.{Fill}
use Rattle.words.specs.Legal.{legal}
use Rattle.words.specs.Passes.{PassState, gone_on}
use Rattle.words.specs.Views.{Holds, KnowsReferences, with_event}
use Rattle.words.proofs.Plays.{makes}
use Rattle.words.proofs.Allowed.{fills}
use Rattle.words.proofs.table.BatchWords.fill.Goals as goal

pub put-requires-clause-allows : goal.put-requires-clause-allows
put-requires-clause-allows g c =
    let key = c.args.self.now.key in
    let b = g.K.BatchData.batch key in
    let seat = c.pass.inside.seat in
    let held = subst (λ (p : PassState). (ended : List ℕ) × Holds p.view c.args.index c.args.number ended) (sym c.pass.view_is) c.requires.held in
    let ready = subst (λ (p : PassState). KnowsReferences b p.view c.args.index) (sym c.pass.view_is) c.requires.ready in
    subst (λ (w : ℕ). Allows (λ s. legal b (g.K.BatchData.listed key) s.words s.views) c.args.self.now.table.slots seat.id seat.me w (λ _. c.args.word) (λ _. makes (Fill seat.id c.args.index) seat.me c.args.word)) (sym c.own_at-at.ensures.value)
    (fills b (g.K.BatchData.listed key) c.args.self.now.table.slots seat.id seat.me c.pass.invariant.alive c.pass.invariant.pass c.args.index c.requires.within c.args.word c.args.number held.0 c.requires.missing held.1 ready c.requires.right)

pub invariant_of-pass : goal.invariant_of-pass
invariant_of-pass g c =
    let then = c.put.ensures.then in
    record { bare = then.0.0 ∙ c.pass.invariant.bare; alive = then.0.1 ∙ c.pass.invariant.alive; pass = then.0.2 ∙ c.pass.invariant.pass; placed = c.pass.invariant.placed ∙ sym then.0.3 }

pub returns : goal.returns
returns g c =
    let same = c.put.ensures.same in
    let then = c.put.ensures.then in
    let passed : PassState = record { table = c.put.new.seat.table_id; number = c.put.new.seat.id; view = c.put.new.seat.me.0; bodies = c.pass.inside.bodies } in
    subst (λ (p : PassState). passed ≡ gone_on p (with_event p.view (Fill p.number c.args.index))) c.pass.view_is
    (λ t. record { table = same.0 t; number = same.1 t; view = then.1 t; bodies = c.pass.inside.bodies })
