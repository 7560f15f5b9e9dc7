use Rattle.std.proofs.Common.{◌≡◌, ℕ, Option, sym, ap, ◌∙◌, subst}
use Rattle.atomic_table.specs.Table.{Allows}
use Rattle.words.specs.Layout.{listed_slot_at}
use Rattle.words.specs.Legal.{legal}
use Rattle.words.specs.Passes.{PassState}
use Rattle.words.specs.Meanings.{EndMeans}
use Rattle.words.proofs.Plays.{end_then}
use Rattle.words.proofs.Allowed.{end_reads}
use Rattle.words.proofs.table.BatchWords.end.Goals as goal

pub get-word-requires-clause-allows : goal.get-word-requires-clause-allows
get-word-requires-clause-allows g c =
    let key = c.args.self.now.key in
    let b = g.K.BatchData.batch key in
    let listed = g.K.BatchData.listed key in
    let seat = c.pass.inside.seat in
    subst (λ (w : ℕ). Allows (λ s. legal b listed s.words s.views) c.args.self.now.table.slots seat.id seat.me w (λ n. n) (end_then b (listed_slot_at listed c.args.end) seat.me)) (sym c.end_at-at.ensures.value)
    (end_reads b listed c.args.self.now.table.slots seat.id seat.me c.pass.invariant.alive c.pass.invariant.pass c.args.end c.requires.listed)

pub invariant_of-pass : goal.invariant_of-pass
invariant_of-pass g c =
    let me = c.get-word.ensures.then.0 in
    record { bare = ap (λ m. m.1) me ∙ c.pass.invariant.bare; alive = ap (λ m. m.0.spent) me ∙ c.pass.invariant.alive; pass = ap (λ m. m.0.placer) me ∙ c.pass.invariant.pass; placed = c.pass.invariant.placed ∙ sym (ap (λ m. m.0.placed) me) }

pub returns-clause-same : goal.returns-clause-same
returns-clause-same g c =
    let same = c.get-word.ensures.same in
    let me = c.get-word.ensures.then.0 in
    let passed : PassState = record { table = c.get-word.new.seat.table_id; number = c.get-word.new.seat.id; view = c.get-word.new.seat.me.0; bodies = c.pass.inside.bodies } in
    subst (λ (p : PassState). passed ≡ p) c.pass.view_is
    (λ t. record { table = same.0 t; number = same.1 t; view = (me t).0; bodies = c.pass.inside.bodies })

pub returns-clause-tells : goal.returns-clause-tells
returns-clause-tells g c =
    let b = g.K.BatchData.batch c.args.self.now.key in
    let slot = listed_slot_at (g.K.BatchData.listed c.args.self.now.key) c.args.end in
    subst (λ (p : PassState). EndMeans b slot p.view c.number_in.result) c.pass.view_is
    (subst (λ (end : Option ℕ). EndMeans b slot c.pass.inside.seat.me.0 end) (sym c.number_in.ensures.number) c.get-word.ensures.then.1)
