use Rattle.std.proofs.Common.{◌≡◌, ◌<◌, ◌+◌, ℕ, suc, sym, ap, ◌∙◌, subst, arith}
use Rattle.std.proofs.lemmas.List.{length_push}
use Rattle.atomic_table.specs.Table.{Allows}
use Rattle.bohm_core_base.specs.declared.event.Event.TheVariants.{Place}
use Rattle.words.specs.Layout.{front_word, position}
use Rattle.words.specs.Legal.{legal}
use Rattle.words.specs.Passes.{PlacerState, placed_on}
use Rattle.words.specs.Meanings.{StoredAll}
use Rattle.words.specs.Views.{front_in, with_placing}
use Rattle.words.proofs.Plays.{goes_to}
use Rattle.words.proofs.Advancing.{advances}
use Rattle.words.proofs.table.BatchWords.advance.Goals as goal

pub overflow_add-front : goal.overflow_add-front
overflow_add-front g c =
    let b = g.K.BatchData.batch c.args.self.now.key in
    let within : front_in c.placer.inside.seat.me.0 < b.size = subst (λ (p : PlacerState). front_in p.view < b.size) (sym c.placer.view_is) c.requires.within in
    let front = c.placer.invariant.front in
    let size = c.places-places.ensures in
    omega arith

pub front_spot-at-requires : goal.front_spot-at-requires
front_spot-at-requires g c =
    let b = g.K.BatchData.batch c.args.self.now.key in
    let partition : c.placer.inside.seat.me.0.partition < b.partitions = subst (λ (p : PlacerState). p.view.partition < b.partitions) (sym c.placer.view_is) c.requires.partition in
    subst (λ (p : ℕ). p < b.partitions) (sym c.placer.invariant.partition) partition

pub put-requires-clause-allows : goal.put-requires-clause-allows
put-requires-clause-allows g c =
    let key = c.args.self.now.key in
    let b = g.K.BatchData.batch key in
    let listed = g.K.BatchData.listed key in
    let seat = c.placer.inside.seat in
    let within = subst (λ (p : PlacerState). front_in p.view < b.size) (sym c.placer.view_is) c.requires.within in
    let stored = subst (λ (p : PlacerState). StoredAll b p.view) (sym c.placer.view_is) c.requires.stored in
    let front = c.placer.invariant.front in
    let next : suc (front_in seat.me.0) ≡ c.placer.inside.front + 1 = omega arith in
    let at : c.front_spot-at.result ≡ position b (front_word seat.me.0.partition) = c.front_spot-at.ensures.value ∙ ap (λ (p : ℕ). position b (front_word p)) c.placer.invariant.partition in
    subst (λ (n : ℕ). Allows (λ s. legal b listed s.words s.views) c.args.self.now.table.slots seat.id seat.me c.front_spot-at.result (λ _. n) (λ _. goes_to (with_placing seat.me.0) seat.me n)) next
    (subst (λ (w : ℕ). Allows (λ s. legal b listed s.words s.views) c.args.self.now.table.slots seat.id seat.me w (λ _. suc (front_in seat.me.0)) (λ _. goes_to (with_placing seat.me.0) seat.me (suc (front_in seat.me.0)))) (sym at)
    (advances b listed c.args.self.now.table.slots seat.id seat.me c.placer.invariant.alive c.placer.invariant.places within stored))

pub invariant_of-placer : goal.invariant_of-placer
invariant_of-placer g c =
    let then = c.put.ensures.then in
    let old = c.placer.invariant in
    let front = old.front in
    let longer = length_push c.placer.inside.seat.me.0.placings (Place c.placer.inside.seat.me.0.partition) in
    record {
      bare = ap (λ m. m.1) then ∙ old.bare;
      alive = ap (λ m. m.0.spent) then ∙ old.alive;
      places = ap (λ m. m.0.placer) then ∙ old.places;
      partition = old.partition ∙ sym (ap (λ m. m.0.partition) then);
      front = (let next : c.placer.inside.front + 1 ≡ front_in (with_placing c.placer.inside.seat.me.0) = omega arith in next) ∙ sym (ap (λ m. front_in m.0) then);
    }

pub returns : goal.returns
returns g c =
    let same = c.put.ensures.same in
    let then = c.put.ensures.then in
    let placed : PlacerState = record { table = c.put.new.seat.table_id; number = c.put.new.seat.id; view = c.put.new.seat.me.0 } in
    subst (λ (p : PlacerState). placed ≡ placed_on p (with_placing p.view)) c.placer.view_is
    (λ t. record { table = same.0 t; number = same.1 t; view = (then t).0 })
