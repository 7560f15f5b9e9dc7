use Rattle.std.proofs.Common.{◌≡◌, ap, subst}
use Rattle.bohm_core_base.specs.Batch.{Batch}
use Rattle.words.specs.declared.knowledge.Knowledge.{Knowledge}
use Rattle.words.specs.Views.{IsSettled, KnowsPast}
use Rattle.filling_base.specs.Counting.{finished_places}
use Rattle.filling_base.specs.Extending.{OnlyLearns}
use Rattle.filling_base.specs.Tries.{MeetsUnplaced}
use Rattle.filling_base.proofs.Counting.{counts-claim, counts-look, counts-on, counts-then}
use Rattle.filling_base.proofs.Going.{learns-nothing}
use Rattle.filling_base.proofs.Learning.{none-later}
use Rattle.filling_base.proofs.Seeing.{untold-claimed, untold-free, untold-held}
use Rattle.filling_base.proofs.Walking.{claimed, found-done, found-held, found-unplaced}
use Rattle.filling_base.proofs.batch.Batch.claim_placed.Goals as goal

pub returns-in-Done-clause-tells : goal.returns-in-Done-clause-tells
returns-in-Done-clause-tells g c =
    let v = c.args.holding.now.view in
    found-done (g.K.BatchData.batch c.args.self.now.key) c.args.index v v c.look.new.pass.view c.requires.idle (learns-nothing v) c.in-Done.ensures.tells

-- held, as the look found
pub returns-in-Held-clause-tells : goal.returns-in-Held-clause-tells
returns-in-Held-clause-tells g c =
    let b = g.K.BatchData.batch c.args.self.now.key in
    let i = c.args.index in
    let view = c.self.view_is in
    let words : b ≡ g.K.BatchData.batch c.self.inside.words.key = cc in
    let v = c.args.holding.now.view in
    let untold = untold-held b v i c.look.result c.in-Held.is c.look.ensures.known (λ settled. c.look.ensures.settled (subst (λ (x : Batch). IsSettled x v i) words settled)) in
    found-held b i v v c.look.new.pass.view c.requires.idle (learns-nothing v) untold c.in-Held.ensures.tells

pub returns-in-Some-clause-tells : goal.returns-in-Some-clause-tells
returns-in-Some-clause-tells g c =
    let b = g.K.BatchData.batch c.args.self.now.key in
    let i = c.args.index in
    let view = c.self.view_is in
    let words : b ≡ g.K.BatchData.batch c.self.inside.words.key = cc in
    let v = c.args.holding.now.view in
    let untold = untold-free b v i c.look.result c.in-Free.is c.look.ensures.known (λ settled. c.look.ensures.settled (subst (λ (x : Batch). IsSettled x v i) words settled)) in
    let found : MeetsUnplaced b i c.in-Some.partition c.look.new.pass.view c.unplaced.new.holding.view = rw c.in-Some.is at c.unplaced.ensures.found in
    found-unplaced b i c.in-Some.partition v c.unplaced.new.holding.view c.requires.idle
    (subst (λ (x : Knowledge). MeetsUnplaced b i c.in-Some.partition x c.unplaced.new.holding.view) c.in-Free.ensures.tells found) untold

pub claim-requires-clause-past : goal.claim-requires-clause-past
claim-requires-clause-past g c =
    let view = c.self.view_is in
    let words : g.K.BatchData.batch c.args.self.now.key ≡ g.K.BatchData.batch c.self.inside.words.key = cc in
    subst (λ (x : Batch). KnowsPast x c.unplaced.new.holding.view c.args.index) words (rw c.in-None.is at c.unplaced.ensures.found)

pub returns-in-Done-claim-clause-tells : goal.returns-in-Done-claim-clause-tells
returns-in-Done-claim-clause-tells g c =
    let v = c.args.holding.now.view in
    let w = c.unplaced.new.holding.view in
    let learns : OnlyLearns v w = subst (λ (x : Knowledge). OnlyLearns x w) c.in-Free.ensures.tells c.unplaced.ensures.learns in
    found-done (g.K.BatchData.batch c.args.self.now.key) c.args.index v w c.claim.new.pass.view (none-later v w learns c.requires.idle) learns c.in-Done-claim.ensures.tells

-- held, as the claim found
pub returns-in-Held-claim-clause-tells : goal.returns-in-Held-claim-clause-tells
returns-in-Held-claim-clause-tells g c =
    let b = g.K.BatchData.batch c.args.self.now.key in
    let i = c.args.index in
    let view = c.self.view_is in
    let words : b ≡ g.K.BatchData.batch c.self.inside.words.key = cc in
    let v = c.args.holding.now.view in
    let w = c.unplaced.new.holding.view in
    let learns : OnlyLearns v w = subst (λ (x : Knowledge). OnlyLearns x w) c.in-Free.ensures.tells c.unplaced.ensures.learns in
    let untold = untold-claimed b w i c.claim.result c.in-Held-claim.is c.claim.ensures.known (λ settled. c.claim.ensures.settled (subst (λ (x : Batch). IsSettled x w i) words settled)) in
    found-held b i v w c.claim.new.pass.view (none-later v w learns c.requires.idle) learns untold c.in-Held-claim.ensures.tells

pub returns-in-Won-clause-tells : goal.returns-in-Won-clause-tells
returns-in-Won-clause-tells g c =
    let b = g.K.BatchData.batch c.args.self.now.key in
    let i = c.args.index in
    let view = c.self.view_is in
    let words : b ≡ g.K.BatchData.batch c.self.inside.words.key = cc in
    let v = c.args.holding.now.view in
    let w = c.unplaced.new.holding.view in
    let learns : OnlyLearns v w = subst (λ (x : Knowledge). OnlyLearns x w) c.in-Free.ensures.tells c.unplaced.ensures.learns in
    let untold = untold-free b v i c.look.result c.in-Free.is c.look.ensures.known (λ settled. c.look.ensures.settled (subst (λ (x : Batch). IsSettled x v i) words settled)) in
    let past : KnowsPast b w i = rw c.in-None.is at c.unplaced.ensures.found in
    claimed b i v w c.claim.new.pass.view c.unplaced.new.holding.number (none-later v w learns c.requires.idle) learns untold past c.in-Won.ensures.tells.0

pub returns-in-Done-claim-clause-bodies : goal.returns-in-Done-claim-clause-bodies
returns-in-Done-claim-clause-bodies g c =
    let runs = g.K.Fills.runs c.args.self.now.key in
    let first = c.args.holding.now in
    let seen = c.look.new.pass in
    let free = c.unplaced.new.holding in
    let taken = c.claim.new.pass in
    counts-then runs first seen taken (counts-look runs first seen c.args.index c.look.result c.look.ensures.same c.look.ensures.tells)
    (counts-then runs seen free taken (counts-on runs seen free free.view c.unplaced.ensures.same (ap finished_places c.unplaced.ensures.learns.events))
    (counts-claim runs free taken c.args.index c.claim.result c.claim.ensures.same c.claim.ensures.tells))

pub returns-in-Won-clause-bodies : goal.returns-in-Won-clause-bodies
returns-in-Won-clause-bodies g c =
    let runs = g.K.Fills.runs c.args.self.now.key in
    let first = c.args.holding.now in
    let seen = c.look.new.pass in
    let free = c.unplaced.new.holding in
    let taken = c.claim.new.pass in
    counts-then runs first seen taken (counts-look runs first seen c.args.index c.look.result c.look.ensures.same c.look.ensures.tells)
    (counts-then runs seen free taken (counts-on runs seen free free.view c.unplaced.ensures.same (ap finished_places c.unplaced.ensures.learns.events))
    (counts-claim runs free taken c.args.index c.claim.result c.claim.ensures.same c.claim.ensures.tells))
