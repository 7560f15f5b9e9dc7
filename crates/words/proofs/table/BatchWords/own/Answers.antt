use Rattle.std.proofs.Common.{◌≡◌, ℕ, get_or, sym, ap, ◌∙◌, subst}
use Rattle.atomic_table.specs.Table.{Allows}
use Rattle.bohm_core_base.specs.Serial.{serial_words}
use Rattle.words.specs.Legal.{legal}
use Rattle.words.specs.Passes.{PassState}
use Rattle.words.specs.Views.{In}
use Rattle.words.proofs.Plays.{reads}
use Rattle.words.proofs.Allowed.{owns}
use Rattle.words.proofs.table.BatchWords.own.Goals as goal

pub get-requires-clause-allows : goal.get-requires-clause-allows
get-requires-clause-allows g c =
    let key = c.args.self.now.key in
    let b = g.K.BatchData.batch key in
    let seat = c.pass.inside.seat in
    let known = subst (λ (p : PassState). In c.args.index p.view.known) (sym c.pass.view_is) c.requires.known in
    subst (λ (w : ℕ). Allows (λ s. legal b (g.K.BatchData.listed key) s.words s.views) c.args.self.now.table.slots seat.id seat.me w (λ n. n) (reads (get_or (serial_words b c.args.index) c.args.number 0) seat.me)) (sym c.own_at-at.ensures.value)
    (owns b (g.K.BatchData.listed key) c.args.self.now.table.slots seat.id seat.me c.pass.invariant.alive c.pass.invariant.pass c.args.index c.requires.within.0 c.args.number c.requires.within.1 known)

pub invariant_of-pass : goal.invariant_of-pass
invariant_of-pass g c =
    let me = c.get.ensures.then.0 in
    record { bare = ap (λ m. m.1) me ∙ c.pass.invariant.bare; alive = ap (λ m. m.0.spent) me ∙ c.pass.invariant.alive; pass = ap (λ m. m.0.placer) me ∙ c.pass.invariant.pass; placed = c.pass.invariant.placed ∙ sym (ap (λ m. m.0.placed) me) }

pub returns-clause-same : goal.returns-clause-same
returns-clause-same g c =
    let same = c.get.ensures.same in
    let me = c.get.ensures.then.0 in
    let passed : PassState = record { table = c.get.new.seat.table_id; number = c.get.new.seat.id; view = c.get.new.seat.me.0; bodies = c.pass.inside.bodies } in
    subst (λ (p : PassState). passed ≡ p) c.pass.view_is
    (λ t. record { table = same.0 t; number = same.1 t; view = (me t).0; bodies = c.pass.inside.bodies })

pub returns-clause-value : goal.returns-clause-value
returns-clause-value g c = c.get.ensures.then.1
