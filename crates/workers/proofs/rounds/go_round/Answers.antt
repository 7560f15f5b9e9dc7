use Rattle.std.proofs.Common.{◌<◌, ◌∙◌, length, ap, arith, inl, inr, subst, sym}
use Rattle.std.specs.Prelude.{Ok, Err}
use Rattle.filling_base.specs.declared.run.Tried.TheVariants.{Done, Busy, NotPlaced}
use Rattle.filling_base.specs.Tries.{TriedMeans}
use Rattle.workers.proofs.Going.{asked_all, asked_first, asked_none, asked_on, asking_done, asking_missed, asking_none, left_done, left_first, left_open, on_and_on, stays, stopped_at, stopped_before, tells_done}
use Rattle.workers.proofs.rounds.go_round.Goals as goal
use Rattle.workers.proofs.rounds.go_round.Goals.{else-loop-test, in-Busy, in-Done, in-NotPlaced, then-loop-test+in_default+in_default-pop_front}

pub loop-init : goal.loop-init
loop-init g c = record { on = stays c.args.pass; left = c.requires.left; asked = asking_none (g.K.BatchData.batch c.args.shared.now.key) c.args.pass c.args.rest.now.items }

pub overflow_add-place : goal.overflow_add-place
overflow_add-place g c =
    let within = subst (λ words. c.in-Some.index < (g.K.BatchData.batch words.key).size) (sym c.shared.view_is)
    (left_first (g.K.BatchData.batch c.args.shared.now.key).size c.in-Some.index c.loop.last.view.known c.loop.rest.items c.pop_front.new.self.items
    c.in-Some.ensures.items c.loop.invariant.left) in
    omega (arith, within, c.shared.invariant)

pub try_run-next-requires-clause-within : goal.try_run-next-requires-clause-within
try_run-next-requires-clause-within g c =
    subst (λ words. c.in-Some.index < (g.K.BatchData.batch words.key).size) (sym c.shared.view_is)
    (left_first (g.K.BatchData.batch c.args.shared.now.key).size c.in-Some.index c.loop.last.view.known c.loop.rest.items c.pop_front.new.self.items
    c.in-Some.ensures.items c.loop.invariant.left)

pub returns-in_default-tried-clause-on : goal.returns-in_default-tried-clause-on
returns-in_default-tried-clause-on g c =
    on_and_on c.args.pass c.loop.last c.try_run-next.result.0 c.loop.invariant.on
    (asked_on (g.K.BatchData.batch c.shared.inside.batch.now.key) c.in-Some.index c.loop.last c.try_run-next.result.0 c.try_run-next.result.1
    c.try_run-next.ensures.same c.try_run-next.ensures.tells)

pub returns-in_default-tried-clause-stopped : goal.returns-in_default-tried-clause-stopped
returns-in_default-tried-clause-stopped g c =
    let batch = g.K.BatchData.batch c.args.shared.now.key in
    let index = c.in-Some.index in
    let before = c.loop.last in
    let after = c.try_run-next.result.0 in
    let tells = subst (λ words. TriedMeans (g.K.BatchData.batch words.key) index before.view c.try_run-next.result.1 after.view)
    c.shared.view_is c.try_run-next.ensures.tells in
    let goes = asked_on batch index before after c.try_run-next.result.1 c.try_run-next.ensures.same tells in
    stopped_at batch c.args.pass before after index c.args.rest.now.items c.loop.rest.items c.pop_front.new.self.items c.loop.counter c.in_default-tried.field-0
    c.loop.invariant.asked c.in-Some.ensures.items goes
    (asked_first batch c.args.pass before after (Err c.in_default-tried.field-0) index c.loop.invariant.on goes (rw c.in_default-tried.is at tells))

pub loop-preserved : goal.loop-preserved
loop-preserved g c =
    let batch = g.K.BatchData.batch c.args.shared.now.key in
    let index = c.in-Some.index in
    let pass = c.args.pass in
    let before = c.loop.last in
    let after = c.try_run-next.result.0 in
    let first = c.args.rest.now.items in
    let rest = c.loop.rest.items in
    let then = c.pop_front.new.self.items in
    let is = c.in-Some.ensures.items in
    let tells = subst (λ words. TriedMeans (g.K.BatchData.batch words.key) index before.view c.try_run-next.result.1 after.view)
    c.shared.view_is c.try_run-next.ensures.tells in
    let goes = asked_on batch index before after c.try_run-next.result.1 c.try_run-next.ensures.same tells in
    let on = on_and_on pass before after c.loop.invariant.on goes in
    let less : c.loop.counter < length first = omega (arith, c.loop-test.true, c.len-end.ensures, c.args.rest.now.ok.0) in
    elim c.match-found.branch [
      | in-Done w ↦ record {
        on = on;
        left = rw w.rest-is (left_done batch.size index before.view.known after.view.known rest then goes.knows is c.loop.invariant.left
            (tells_done batch index before.view after.view c.try_run-next.result.1 tells (c.in-Ok.is ∙ ap (λ found. Ok found) w.in-Done.is)));
        asked = rw w.rest-is (asking_done batch pass before after index first rest then c.loop.counter c.loop.invariant.asked less is goes
            (asked_first batch pass before after (Ok Done) index c.loop.invariant.on goes (rw w.in-Done.is at (rw c.in-Ok.is at tells))));
      }
      | in-Busy w ↦ record {
        on = on;
        left = rw w.rest-is (left_open batch.size index before.view.known after.view.known rest then w.push_back_reserved.new.self.items goes.knows is
            w.push_back_reserved.ensures.items c.loop.invariant.left);
        asked = rw w.rest-is (asking_missed batch pass before after index first rest then w.push_back_reserved.new.self.items c.loop.counter
            c.loop.invariant.asked less is w.push_back_reserved.ensures.items goes
            (inl (
              w.in-Busy.field-0,
              asked_first batch pass before after (Ok (Busy w.in-Busy.field-0)) index c.loop.invariant.on goes
                  (rw w.in-Busy.is at (rw c.in-Ok.is at tells)),
            )));
      }
      | in-NotPlaced w ↦ record {
        on = on;
        left = rw w.rest-is (left_open batch.size index before.view.known after.view.known rest then w.push_back_reserved-in-NotPlaced.new.self.items goes.knows is
            w.push_back_reserved-in-NotPlaced.ensures.items c.loop.invariant.left);
        asked = rw w.rest-is (asking_missed batch pass before after index first rest then w.push_back_reserved-in-NotPlaced.new.self.items c.loop.counter
            c.loop.invariant.asked less is w.push_back_reserved-in-NotPlaced.ensures.items goes
            (inr (
              w.in-NotPlaced.field-0,
              asked_first batch pass before after (Ok (NotPlaced w.in-NotPlaced.field-0)) index c.loop.invariant.on goes
                  (rw w.in-NotPlaced.is at (rw c.in-Ok.is at tells)),
            )));
      }
    ]

pub returns-in-Err-clause-stopped : goal.returns-in-Err-clause-stopped
returns-in-Err-clause-stopped g c =
    stopped_before (g.K.BatchData.batch c.args.shared.now.key) c.args.pass c.loop.last c.args.rest.now.items c.loop.rest.items c.loop.counter c.loop.invariant.asked

pub returns-clause-asked : goal.returns-clause-asked
returns-clause-asked g c =
    let batch = g.K.BatchData.batch c.args.shared.now.key in
    let first = c.args.rest.now.items in
    let asked = c.loop.invariant.asked in
    elim c.loop-test.branch [
      | else-loop-test w ↦ rw w.rest-is (asked_all batch c.args.pass c.loop.last first c.loop.rest.items c.loop.counter asked
          (omega (arith, w.loop-test.false, c.len-end.ensures, c.args.rest.now.ok.0)))
      | then-loop-test+in_default+in_default-pop_front w ↦ rw w.rest-is (asked_none batch c.args.pass c.loop.last first c.loop.rest.items w.pop_front.new.self.items
          c.loop.counter asked w.in_default-pop_front.ensures.items (omega (arith, w.in_default-pop_front.ensures.cases.0, c.loop.rest.ok.0)))
    ]
