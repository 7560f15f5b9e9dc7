use Rattle.std.proofs.Common.{◌≡◌, ℕ, length, subst, sym, ◌∙◌}
use Rattle.workers.specs.Working.{AreLeft}
use Rattle.workers.proofs.Going.{left_all, left_more, left_none, none_of, on_and_on, stays}
use Rattle.workers.proofs.work.work.Goals as goal

pub loop-init : goal.loop-init
loop-init g c = record {
  on = stays c.args.pass;
  left = subst (λ (size : ℕ). AreLeft size c.args.pass.view.known c.in-Ok.rest.items)
      c.places.ensures
      (left_all c.places.result c.args.pass.view.known c.in-Ok.rest.items c.in-Ok.ensures);
}

pub returns-then-count-eq0-clause-all : goal.returns-then-count-eq0-clause-all
returns-then-count-eq0-clause-all g c =
    let none : length c.loop.rest.items ≡ 0 = sym c.loop.rest.ok.0 ∙ sym c.len-count.ensures ∙ c.if-count-eq0.true in
    left_none (g.K.BatchData.batch c.args.shared.now.key).size c.loop.last.view c.loop.rest.items (none_of c.loop.rest.items none) c.loop.invariant.left

pub returns-in-Err-asked-clause-on : goal.returns-in-Err-asked-clause-on
returns-in-Err-asked-clause-on g c = on_and_on c.args.pass c.look-looked.result c.go_round-next.result.0
    (on_and_on c.args.pass c.loop.last c.look-looked.result c.loop.invariant.on c.look-looked.ensures) c.go_round-next.ensures.on

pub loop-preserved-then-len-count : goal.loop-preserved-then-len-count
loop-preserved-then-len-count g c = record {
  on = on_and_on c.args.pass c.look-looked.result c.go_round-next.result.0
      (on_and_on c.args.pass c.loop.last c.look-looked.result c.loop.invariant.on c.look-looked.ensures) c.go_round-next.ensures.on;
  left = rw c.in-Ok-asked.is at c.go_round-next.ensures.left;
}

pub loop-preserved : goal.loop-preserved
loop-preserved g c = record {
  on = on_and_on c.args.pass c.look-looked.result c.go_round-next.result.0
      (on_and_on c.args.pass c.loop.last c.look-looked.result c.loop.invariant.on c.look-looked.ensures) c.go_round-next.ensures.on;
  left = rw c.in-Ok-asked.is at c.go_round-next.ensures.left;
}

pub go_round-next-requires-clause-left : goal.go_round-next-requires-clause-left
go_round-next-requires-clause-left g c =
    left_more (g.K.BatchData.batch c.args.shared.now.key).size c.loop.last.view.known c.look-looked.result.view.known c.loop.rest.items
    c.look-looked.ensures.knows c.loop.invariant.left
