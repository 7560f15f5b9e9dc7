use Rattle.std.proofs.Common.{◌≡◌, ℕ, ◌+◌, suc, List, sym, ◌∙◌, subst, arith}
use Rattle.atomic_table.specs.Table.{Allows}
use Rattle.bohm_core_base.specs.declared.event.Event.TheVariants.{End}
use Rattle.bohm_core_base.specs.Batch.{words_length}
use Rattle.words.specs.Layout.{listed_slot_at}
use Rattle.words.specs.Legal.{legal}
use Rattle.words.specs.Passes.{PassState, gone_on}
use Rattle.words.specs.Views.{Holds, In, KnowsReferences, with_event}
use Rattle.words.proofs.Plays.{makes}
use Rattle.words.proofs.Allowed.{ends}
use Rattle.words.proofs.table.BatchWords.set_end.Goals as goal

pub put-requires-clause-allows : goal.put-requires-clause-allows
put-requires-clause-allows g c =
    let key = c.args.self.now.key in
    let b = g.K.BatchData.batch key in
    let listed = g.K.BatchData.listed key in
    let seat = c.pass.inside.seat in
    let slot = listed_slot_at listed c.args.end in
    let held = subst (λ (p : PassState). (ended : List ℕ) × Holds p.view c.args.index (words_length b c.args.index) ended × ¬ (In slot ended)) (sym c.pass.view_is) c.requires.held in
    let ready = subst (λ (p : PassState). KnowsReferences b p.view c.args.index) (sym c.pass.view_is) c.requires.ready in
    let is = c.requires.place in
    let one : suc (b.first + c.args.index) ≡ c.args.place + 1 = omega arith in
    subst (λ (n : ℕ). Allows (λ s. legal b listed s.words s.views) c.args.self.now.table.slots seat.id seat.me c.end_at-at.result (λ _. n) (λ _. makes (End seat.id c.args.index slot) seat.me n)) one
    (subst (λ (w : ℕ). Allows (λ s. legal b listed s.words s.views) c.args.self.now.table.slots seat.id seat.me w (λ _. suc (b.first + c.args.index)) (λ _. makes (End seat.id c.args.index slot) seat.me (suc (b.first + c.args.index)))) (sym c.end_at-at.ensures.value)
    (ends b listed c.args.self.now.table.slots seat.id seat.me c.pass.invariant.alive c.pass.invariant.pass c.args.index c.requires.within c.args.end held.0 c.requires.listed held.1 held.2 ready c.requires.right))

pub invariant_of-pass : goal.invariant_of-pass
invariant_of-pass g c =
    let then = c.put.ensures.then in
    record { bare = then.0.0 ∙ c.pass.invariant.bare; alive = then.0.1 ∙ c.pass.invariant.alive; pass = then.0.2 ∙ c.pass.invariant.pass; placed = c.pass.invariant.placed ∙ sym then.0.3 }

pub returns : goal.returns
returns g c =
    let same = c.put.ensures.same in
    let then = c.put.ensures.then in
    let passed : PassState = record { table = c.put.new.seat.table_id; number = c.put.new.seat.id; view = c.put.new.seat.me.0; bodies = c.pass.inside.bodies } in
    subst (λ (p : PassState). passed ≡ gone_on p (with_event p.view (End p.number c.args.index (listed_slot_at (g.K.BatchData.listed c.args.self.now.key) c.args.end)))) c.pass.view_is
    (λ t. record { table = same.0 t; number = same.1 t; view = then.1 t; bodies = c.pass.inside.bodies })
