use Rattle.std.proofs.Common.{◌≡◌, ◌-◌, ap, sym, ◌∙◌, subst, arith}
use Rattle.bohm_core_base.specs.Batch.{Batch}
use Rattle.words.specs.declared.knowledge.Knowledge.{Knowledge}
use Rattle.words.specs.Passes.{PassState}
use Rattle.words.specs.Views.{KnowsPast}
use Rattle.words.proofs.Known.{past-later}
use Rattle.filling_base.specs.Extending.{OnlyLearns}
use Rattle.filling_base.proofs.Learning.{again}
use Rattle.filling_base.proofs.batch.Batch.all_placed.Goals as goal

pub returns-in-None-clause-all : goal.returns-in-None-clause-all
returns-in-None-clause-all g c _ =
    let invariant = c.self.invariant in
    let view = c.self.view_is in
    let same : g.K.BatchData.batch c.args.self.now.key ≡ g.K.BatchData.batch c.self.inside.key = cc in
    let b = g.K.BatchData.batch c.args.self.now.key in
    let last = c.places-last.result - 1 in
    let u = c.unplaced.new.holding.view in
    let begun-is : c.begin-holding.result.view ≡ c.args.pass.view = ap (λ (p : PassState). p.view) c.begin-holding.ensures.same in
    let learns : OnlyLearns c.args.pass.view u = subst (λ (v : Knowledge). OnlyLearns v u) begun-is c.unplaced.ensures.learns in
    let past : KnowsPast b u last = rw c.in-None.is at c.unplaced.ensures.found in
    let size : c.places-last.result ≡ b.size = c.places-last.ensures.value ∙ ap (λ (x : Batch). x.size) (sym same) in
    record {
      learns = again c.args.pass.view u c.settled.result.view learns c.settled.ensures.learns;
      past = λ index below. past-later b u c.settled.result.view last index c.settled.ensures.learns.goes.fronts (omega arith) past;
      placed = c.settled.ensures.placed;
    }
