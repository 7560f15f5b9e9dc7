use Rattle.std.proofs.Common.{◌≡◌, ℕ, sym, ◌∙◌, subst}
use Rattle.atomic_table.specs.Table.{Allows}
use Rattle.bohm_core_base.specs.declared.event.Event.TheVariants.{Finish}
use Rattle.words.specs.Legal.{legal}
use Rattle.words.specs.Passes.{PassState, gone_on}
use Rattle.words.specs.Meanings.{HoldsWhole}
use Rattle.words.specs.Views.{with_event, with_known}
use Rattle.words.proofs.Plays.{finishes}
use Rattle.words.proofs.Allowed.{finishing}
use Rattle.words.proofs.table.BatchWords.finish_place.Goals as goal

pub put-requires-clause-allows : goal.put-requires-clause-allows
put-requires-clause-allows g c =
    let key = c.args.self.now.key in
    let b = g.K.BatchData.batch key in
    let listed = g.K.BatchData.listed key in
    let seat = c.pass.inside.seat in
    let held = subst (λ (p : PassState). HoldsWhole b p.view c.args.index) (sym c.pass.view_is) c.requires.whole in
    subst (λ (w : ℕ). Allows (λ s. legal b listed s.words s.views) c.args.self.now.table.slots seat.id seat.me w (λ _. 2) (λ _. finishes seat.id c.args.index seat.me 2)) (sym c.claim_at-at.ensures.value)
    (finishing b listed c.args.self.now.table.slots seat.id seat.me c.pass.invariant.alive c.pass.invariant.pass c.args.index c.requires.within held)

pub invariant_of-pass : goal.invariant_of-pass
invariant_of-pass g c =
    let then = c.put.ensures.then in
    record { bare = then.0.0 ∙ c.pass.invariant.bare; alive = then.0.1 ∙ c.pass.invariant.alive; pass = then.0.2 ∙ c.pass.invariant.pass; placed = c.pass.invariant.placed ∙ sym then.0.3 }

pub returns : goal.returns
returns g c =
    let same = c.put.ensures.same in
    let then = c.put.ensures.then in
    let passed : PassState = record { table = c.put.new.seat.table_id; number = c.put.new.seat.id; view = c.put.new.seat.me.0; bodies = c.pass.inside.bodies } in
    subst (λ (p : PassState). passed ≡ gone_on p (with_known (with_event p.view (Finish p.number c.args.index)) c.args.index)) c.pass.view_is
    (λ t. record { table = same.0 t; number = same.1 t; view = then.1 t; bodies = c.pass.inside.bodies })
