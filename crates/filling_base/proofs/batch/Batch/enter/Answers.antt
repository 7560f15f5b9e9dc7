use Rattle.std.proofs.Common.{◌≡◌, ◌<◌, [], ◌∷◌, ◌++◌, List, sym, subst, arith}
use Rattle.std.proofs.lemmas.Grind.{common_steps}
use Rattle.bohm_core_base.specs.Batch.{Batch}
use Rattle.filling_base.specs.declared.walk.Frame.{Frame}
use Rattle.filling_base.specs.Walks.{GoesFurther, asked_place, spot}
use Rattle.words.specs.Views.{KnowsPast}
use Rattle.words.proofs.Known.{keeps-same, past-later}
use Rattle.filling_base.proofs.Counting.{counts-claim}
use Rattle.filling_base.proofs.Falling.{falls-at}
use Rattle.filling_base.proofs.Paths.{path-top}
use Rattle.filling_base.proofs.Steps.{met-other, no-room, went-in, went-next}
use Rattle.filling_base.proofs.batch.Batch.enter.Goals as goal

pub returns-then-is_err-clause-stepped : goal.returns-then-is_err-clause-stepped
returns-then-is_err-clause-stepped g c =
    let s = spot c.args.walk.now in
    let back : c.push.new.self.items ≡ c.args.walk.now.stack.items = grind (arith, common_steps) in
    no-room (g.K.BatchData.batch c.args.self.now.key) s.view s.at s.next c.args.index s.frames c.push.new.self.items c.requires.walks c.requires.short c.requires.names c.requires.untold back

pub claim-requires-clause-within : goal.claim-requires-clause-within
claim-requires-clause-within g c =
    let view = c.self.view_is in
    let same : g.K.BatchData.batch c.args.self.now.key ≡ g.K.BatchData.batch c.self.inside.words.key = cc in
    let b = g.K.BatchData.batch c.args.self.now.key in
    let s = spot c.args.walk.now in
    let top = path-top b s.view.known s.frames s.at c.requires.walks.path in
    let below = falls-at b s.at s.next c.args.index c.requires.short c.requires.names in
    let within = c.requires.within in
    subst (λ (b : Batch). c.args.index < b.size) same (omega arith)

pub claim-requires-clause-past : goal.claim-requires-clause-past
claim-requires-clause-past g c =
    let view = c.self.view_is in
    let same : g.K.BatchData.batch c.args.self.now.key ≡ g.K.BatchData.batch c.self.inside.words.key = cc in
    let b = g.K.BatchData.batch c.args.self.now.key in
    let s = spot c.args.walk.now in
    let top = path-top b s.view.known s.frames s.at c.requires.walks.path in
    let below = falls-at b s.at s.next c.args.index c.requires.short c.requires.names in
    subst (λ (b : Batch). KnowsPast b s.view c.args.index) same
    (past-later b s.view s.view (asked_place s) c.args.index (keeps-same s.view) (omega arith) c.requires.walks.past)

pub returns-in-Won-clause-stepped : goal.returns-in-Won-clause-stepped
returns-in-Won-clause-stepped g c =
    let s = spot c.args.walk.now in
    let more : c.push.new.self.items ≡ s.frames ++ record { index = s.at; next = c.args.next } ∷ [] = grind (arith, common_steps) in
    went-in (g.K.BatchData.batch c.args.self.now.key) s.view c.claim.new.pass.view c.args.walk.now.holding.number s.at c.args.index s.next c.args.next s.frames c.push.new.self.items
    c.requires.within c.requires.walks c.requires.short c.requires.names c.requires.next c.requires.untold c.in-Won.ensures.tells.0 more

pub returns-in-Held-clause-stepped : goal.returns-in-Held-clause-stepped
returns-in-Held-clause-stepped g c =
    let s = spot c.args.walk.now in
    let back : c.pop.new.self.items ≡ c.args.walk.now.stack.items = grind (arith, common_steps) in
    met-other (g.K.BatchData.batch c.args.self.now.key) s.view c.claim.new.pass.view s.at s.next c.args.index s.frames c.pop.new.self.items c.requires.walks c.requires.short c.requires.names c.requires.untold c.in-Held.ensures.tells back

pub returns-in-Done-clause-stepped : goal.returns-in-Done-clause-stepped
returns-in-Done-clause-stepped g c =
    let s = spot c.args.walk.now in
    let b = g.K.BatchData.batch c.args.self.now.key in
    let back : c.pop-in-Done.new.self.items ≡ c.args.walk.now.stack.items = grind (arith, common_steps) in
    subst (λ (fs : List Frame). GoesFurther b s (record { view = c.claim.new.pass.view; at = s.at; next = c.args.next; frames = fs })) (sym back)
    (went-next b s.view c.claim.new.pass.view s.at s.next c.args.next c.args.index s.frames c.requires.walks c.requires.short c.requires.names c.in-Done.ensures.tells c.requires.next)

pub returns-in-Won-clause-bodies : goal.returns-in-Won-clause-bodies
returns-in-Won-clause-bodies g c =
    counts-claim (g.K.Fills.runs c.args.self.now.key) c.args.walk.now.holding c.claim.new.pass c.args.index c.claim.result c.claim.ensures.same c.claim.ensures.tells

pub returns-in-Done-clause-bodies : goal.returns-in-Done-clause-bodies
returns-in-Done-clause-bodies g c =
    counts-claim (g.K.Fills.runs c.args.self.now.key) c.args.walk.now.holding c.claim.new.pass c.args.index c.claim.result c.claim.ensures.same c.claim.ensures.tells
