use Rattle.std.proofs.Common.{◌≡◌, [], length, ap, arith, rules, sym, subst, ◌∙◌}
use Rattle.std.proofs.lemmas.List.Elements.{All-nil, All-push, All-same}
use Rattle.words.specs.Passes.{PassState, cut_first}
use Rattle.workers.specs.Working.{GoesOn}
use Rattle.workers.proofs.Dealing.{dealt_front}
use Rattle.workers.proofs.Going.{cut_on, on_and_on, stays}
use Rattle.workers.proofs.work.start_others.Goals as goal

pub hands-init : goal.hands-init
hands-init g c = record {
  on = stays c.args.pass;
  hands = c.requires.hands;
  some = c.requires.some;
  helpers = All-same (λ thread. thread.promise.0.now ≡ c.args.shared.now) _ [] c.requires.none (All-nil (λ thread. thread.promise.0.now ≡ c.args.shared.now));
  all = omega (arith, ap length c.requires.none);
  room = omega (arith, ap length c.requires.none, c.requires.room);
}

pub returns-in_default-spawn_with-clause-on : goal.returns-in_default-spawn_with-clause-on
returns-in_default-spawn_with-clause-on g c =
    subst (λ (after : PassState). GoesOn c.args.pass after) (sym c.split-kept.ensures.first)
    (on_and_on c.args.pass c.hands.rest (cut_first c.hands.rest) c.hands.invariant.on (cut_on c.hands.rest))

pub returns-in_default-spawn_with-clause-hands : goal.returns-in_default-spawn_with-clause-hands
returns-in_default-spawn_with-clause-hands g c =
    dealt_front (λ hand. hand.items) g.P.BatchPlacer.is_of g.P.BatchPlacer.front c.args.shared.now c.hands.hands.items c.pop.new.self.items c.in-Some.placers
    c.in-Some.ensures.items c.hands.invariant.hands

pub hands-preserved : goal.hands-preserved
hands-preserved g c = record {
  on = subst (λ (after : PassState). GoesOn c.args.pass after) (sym c.split-kept.ensures.first)
      (on_and_on c.args.pass c.hands.rest (cut_first c.hands.rest) c.hands.invariant.on (cut_on c.hands.rest));
  hands = dealt_front (λ hand. hand.items) g.P.BatchPlacer.is_of g.P.BatchPlacer.front c.args.shared.now c.hands.hands.items c.pop.new.self.items c.in-Some.placers
      c.in-Some.ensures.items c.hands.invariant.hands;
  some = search rules;
  helpers = All-same (λ thread. thread.promise.0.now ≡ c.args.shared.now) _ _ c.push_reserved.ensures.items
      (All-push (λ thread. thread.promise.0.now ≡ c.args.shared.now) c.hands.threads.items c.in-Ok.thread c.hands.invariant.helpers
      (ap (λ promise. promise.0.now) c.in-Ok.ensures.ok ∙ c.shared.view_is));
  all = search rules;
  room = search rules;
}
