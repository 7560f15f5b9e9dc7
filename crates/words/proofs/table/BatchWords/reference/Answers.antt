use Rattle.std.proofs.Common.{◌≡◌, ℕ, sym, ap, ◌∙◌, subst}
use Rattle.atomic_table.specs.Table.{Allows}
use Rattle.words.specs.Layout.{partition_at, reference_at}
use Rattle.words.specs.Legal.{legal}
use Rattle.words.specs.Passes.{PassState}
use Rattle.words.specs.Views.{KnowsFront}
use Rattle.words.proofs.Plays.{reads}
use Rattle.words.proofs.Allowed.{reference_reads}
use Rattle.words.proofs.table.BatchWords.reference.Goals as goal

pub get-word-requires-clause-allows : goal.get-word-requires-clause-allows
get-word-requires-clause-allows g c =
    let key = c.args.self.now.key in
    let b = g.K.BatchData.batch key in
    let seat = c.pass.inside.seat in
    let known = subst (λ (p : PassState). KnowsFront p.view (partition_at b c.args.index c.args.number) c.args.index) (sym c.pass.view_is) c.requires.known in
    subst (λ (w : ℕ). Allows (λ s. legal b (g.K.BatchData.listed key) s.words s.views) c.args.self.now.table.slots seat.id seat.me w (λ n. n) (reads (reference_at b c.args.index c.args.number) seat.me)) (sym c.reference_spot-at.ensures.value)
    (reference_reads b (g.K.BatchData.listed key) c.args.self.now.table.slots seat.id seat.me c.pass.invariant.alive c.pass.invariant.pass c.args.index c.args.number c.requires.within c.requires.number known)

pub invariant_of-pass : goal.invariant_of-pass
invariant_of-pass g c =
    let me = c.get-word.ensures.then.0 in
    record { bare = ap (λ m. m.1) me ∙ c.pass.invariant.bare; alive = ap (λ m. m.0.spent) me ∙ c.pass.invariant.alive; pass = ap (λ m. m.0.placer) me ∙ c.pass.invariant.pass; placed = c.pass.invariant.placed ∙ sym (ap (λ m. m.0.placed) me) }

pub returns-clause-same : goal.returns-clause-same
returns-clause-same g c =
    let same = c.get-word.ensures.same in
    let me = c.get-word.ensures.then.0 in
    let passed : PassState = record { table = c.get-word.new.seat.table_id; number = c.get-word.new.seat.id; view = c.get-word.new.seat.me.0; bodies = c.pass.inside.bodies } in
    subst (λ (p : PassState). passed ≡ p) c.pass.view_is
    (λ t. record { table = same.0 t; number = same.1 t; view = (me t).0; bodies = c.pass.inside.bodies })

pub returns-clause-value : goal.returns-clause-value
returns-clause-value g c = c.index_in.ensures ∙ c.get-word.ensures.then.1
