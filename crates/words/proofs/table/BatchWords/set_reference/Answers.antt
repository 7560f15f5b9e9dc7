use Rattle.std.proofs.Common.{◌≡◌, ◌<◌, ℕ, length, sym, ap, ◌∙◌, subst}
use Rattle.atomic_table.specs.Table.{Allows}
use Rattle.bohm_core_base.specs.Batch.{reference_words}
use Rattle.words.specs.Layout.{partition_at, position, reference_at, reference_word}
use Rattle.words.specs.Legal.{legal}
use Rattle.words.specs.Passes.{PlacerState, placed_on}
use Rattle.words.specs.Views.{front_in, with_stored}
use Rattle.words.proofs.Plays.{goes_to}
use Rattle.words.proofs.Advancing.{stores}
use Rattle.words.proofs.table.BatchWords.set_reference.Goals as goal

pub reference_spot-at-requires : goal.reference_spot-at-requires
reference_spot-at-requires g c =
    let b = g.K.BatchData.batch c.args.self.now.key in
    let front = c.placer.invariant.front in
    let within : front_in c.placer.inside.seat.me.0 < b.size = subst (λ (p : PlacerState). front_in p.view < b.size) (sym c.placer.view_is) c.requires.within in
    let number : c.args.number < length (reference_words b (front_in c.placer.inside.seat.me.0)) = subst (λ (p : PlacerState). c.args.number < length (reference_words b (front_in p.view))) (sym c.placer.view_is) c.requires.number in
    record { within = subst (λ (i : ℕ). (i < b.size) × (c.args.number < length (reference_words b i))) (sym front) (within, number) }

pub put-requires-clause-allows : goal.put-requires-clause-allows
put-requires-clause-allows g c =
    let key = c.args.self.now.key in
    let b = g.K.BatchData.batch key in
    let listed = g.K.BatchData.listed key in
    let seat = c.placer.inside.seat in
    let within = subst (λ (p : PlacerState). front_in p.view < b.size) (sym c.placer.view_is) c.requires.within in
    let number = subst (λ (p : PlacerState). c.args.number < length (reference_words b (front_in p.view))) (sym c.placer.view_is) c.requires.number in
    let mine = subst (λ (p : PlacerState). partition_at b (front_in p.view) c.args.number ≡ p.view.partition) (sym c.placer.view_is) c.requires.mine in
    let right = subst (λ (p : PlacerState). c.args.word ≡ reference_at b (front_in p.view) c.args.number) (sym c.placer.view_is) c.requires.right in
    let at : c.reference_spot-at.result ≡ position b (reference_word (front_in seat.me.0) c.args.number) = c.reference_spot-at.ensures.value ∙ ap (λ (i : ℕ). position b (reference_word i c.args.number)) c.placer.invariant.front in
    subst (λ (w : ℕ). Allows (λ s. legal b listed s.words s.views) c.args.self.now.table.slots seat.id seat.me w (λ _. c.args.word) (λ _. goes_to (with_stored seat.me.0 c.args.number) seat.me c.args.word)) (sym at)
    (stores b listed c.args.self.now.table.slots seat.id seat.me c.placer.invariant.alive c.placer.invariant.places within c.args.number c.args.word number mine right)

pub invariant_of-placer : goal.invariant_of-placer
invariant_of-placer g c =
    let then = c.put.ensures.then in
    let old = c.placer.invariant in
    record {
      bare = ap (λ m. m.1) then ∙ old.bare;
      alive = ap (λ m. m.0.spent) then ∙ old.alive;
      places = ap (λ m. m.0.placer) then ∙ old.places;
      partition = old.partition ∙ sym (ap (λ m. m.0.partition) then);
      front = old.front ∙ sym (ap (λ m. front_in m.0) then);
    }

pub returns : goal.returns
returns g c =
    let same = c.put.ensures.same in
    let then = c.put.ensures.then in
    let placed : PlacerState = record { table = c.put.new.seat.table_id; number = c.put.new.seat.id; view = c.put.new.seat.me.0 } in
    subst (λ (p : PlacerState). placed ≡ placed_on p (with_stored p.view c.args.number)) c.placer.view_is
    (λ t. record { table = same.0 t; number = same.1 t; view = (then t).0 })
