use Rattle.std.proofs.Common.{◌≡◌, ℕ, sym, ◌∙◌, subst, arith, rules}
use Rattle.atomic_table.specs.Table.{Allows}
use Rattle.words.specs.Legal.{legal}
use Rattle.words.specs.Passes.{PassState, gone_on}
use Rattle.words.specs.Meanings.{LookMeans}
use Rattle.words.specs.Views.{In, IsSettled}
use Rattle.words.proofs.Plays.{look_then}
use Rattle.words.proofs.Allowed.{looks}
use Rattle.words.proofs.table.BatchWords.look.Goals.{in-0, in-1, in_default}
use Rattle.words.proofs.table.BatchWords.look.Goals as goal

pub get-found-requires-clause-allows : goal.get-found-requires-clause-allows
get-found-requires-clause-allows g c =
    let key = c.args.self.now.key in
    let b = g.K.BatchData.batch key in
    let listed = g.K.BatchData.listed key in
    let seat = c.pass.inside.seat in
    subst (λ (w : ℕ). Allows (λ s. legal b listed s.words s.views) c.args.self.now.table.slots seat.id seat.me w (λ n. n) (look_then b c.args.index seat.me)) (sym c.claim_at-at.ensures.value)
    (looks b listed c.args.self.now.table.slots seat.id seat.me c.pass.invariant.alive c.pass.invariant.pass c.args.index c.requires.within)

pub invariant_of-pass : goal.invariant_of-pass
invariant_of-pass g c =
    let then = c.get-found.ensures.then in
    record { bare = then.0.0 ∙ c.pass.invariant.bare; alive = then.0.1 ∙ c.pass.invariant.alive; pass = then.0.2 ∙ c.pass.invariant.pass; placed = c.pass.invariant.placed ∙ sym then.0.3 }

pub returns-clause-same : goal.returns-clause-same
returns-clause-same g c =
    let same = c.get-found.ensures.same in
    let passed : PassState = record { table = c.get-found.new.seat.table_id; number = c.get-found.new.seat.id; view = c.get-found.new.seat.me.0; bodies = c.pass.inside.bodies } in
    subst (λ (p : PassState). passed ≡ gone_on p c.get-found.new.seat.me.0) c.pass.view_is
    (λ t. record { table = same.0 t; number = same.1 t; view = c.get-found.new.seat.me.0; bodies = c.pass.inside.bodies })

pub returns-clause-tells : goal.returns-clause-tells
returns-clause-tells g c =
    let then = c.get-found.ensures.then in
    subst (λ (p : PassState). LookMeans c.args.index p.view c.match-found.result c.get-found.new.seat.me.0) c.pass.view_is
    (elim c.match-found.branch [
      | in-0 w ↦ rw (w.result-is) (then.1 w.in-0.is)
      | in-1 w ↦ rw (w.result-is) (then.2 w.in-1.is)
      | in_default w ↦ rw (w.result-is) (then.3 (let own = w.in_default in search rules) (let own = w.in_default in search rules))
    ])

pub returns-clause-known : goal.returns-clause-known
returns-clause-known g c known =
    let then = c.get-found.ensures.then in
    let two = then.4 (subst (λ (p : PassState). In c.args.index p.view.known) (sym c.pass.view_is) known) in
    elim c.match-found.branch [
      | in-0 w ↦ absurd (let is = w.in-0.is in omega arith)
      | in-1 w ↦ absurd (let is = w.in-1.is in omega arith)
      | in_default w ↦ w.result-is
    ]

pub returns-clause-settled : goal.returns-clause-settled
returns-clause-settled g c settled =
    let then = c.get-found.ensures.then in
    let two = then.5 (subst (λ (p : PassState). IsSettled (g.K.BatchData.batch c.args.self.now.key) p.view c.args.index) (sym c.pass.view_is) settled) in
    elim c.match-found.branch [
      | in-0 w ↦ absurd (let is = w.in-0.is in omega arith)
      | in-1 w ↦ absurd (let is = w.in-1.is in omega arith)
      | in_default w ↦ w.result-is
    ]
