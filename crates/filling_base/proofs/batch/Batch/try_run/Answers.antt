use Rattle.std.proofs.Common.{◌≡◌, ◌<◌, [], length, sym, ap, ◌∙◌, subst, arith}
use Rattle.std.proofs.lemmas.Grind.{common_steps}
use Rattle.std.specs.Prelude.{Ok}
use Rattle.bohm_core_base.specs.Batch.{Batch, reference_words}
use Rattle.words.specs.Passes.{PassState}
use Rattle.words.specs.Views.{KnowsPast, KnowsReferences}
use Rattle.words.proofs.Known.{keeps-same, past-later}
use Rattle.filling_base.specs.declared.run.Tried.TheVariants.{Done}
use Rattle.filling_base.specs.Counting.{CountsBodies, counted_more}
use Rattle.filling_base.specs.Extending.{IsSamePass}
use Rattle.filling_base.specs.References.{IsRevocation}
use Rattle.filling_base.specs.Tries.{IsKnownDone, TakesPlaced, TriedMeans}
use Rattle.filling_base.specs.Walks.{GoesFurther, asked_place, spot}
use Rattle.filling_base.proofs.Counting.{counts-filled, counts-starved, counts-then, counts-to}
use Rattle.filling_base.proofs.Going.{same-then}
use Rattle.filling_base.proofs.Paths.{knows-all, path-top}
use Rattle.filling_base.proofs.Steps.{at-spot, starved, went-out}
use Rattle.filling_base.proofs.Walking.{begun, busy, filled-all, filled-none, out-of-memory, over, over-idle, round}
use Rattle.filling_base.proofs.batch.Batch.try_run.Goals as goal

pub returns-in-Some-clause-told : goal.returns-in-Some-clause-told
returns-in-Some-clause-told g c told =
    ap (λ tried. Ok tried) (c.in-Some.ensures.tells.told (subst (λ (p : PassState). IsKnownDone (g.K.BatchData.batch c.args.self.now.key) p.view c.args.index) (sym c.begin-holding.ensures.same) told))

pub steps-init : goal.steps-init
steps-init g c =
    let b = g.K.BatchData.batch c.args.self.now.key in
    let begun-is = c.begin-holding.ensures.same in
    let taken = c.claim_placed.new.holding in
    let same : IsSamePass c.args.pass taken = subst (λ (p : PassState). IsSamePass p taken) begun-is c.in_default.ensures.same in record {
      same_table = same.table ∙ c.requires.same_table;
      same = same;
      bodies = subst (λ (p : PassState). CountsBodies (g.K.Fills.runs c.args.self.now.key) p taken) begun-is c.in_default.ensures.bodies;
      runs = begun b c.args.index c.args.pass.view taken.view c.new.result.items
          (subst (λ (p : PassState). TakesPlaced b c.args.index p.view taken.view) begun-is c.in_default.ensures.tells) c.new.ensures.items;
    }

pub references_length-requires : goal.references_length-requires
references_length-requires g c =
    let invariant = c.self.invariant in
    let view = c.self.view_is in
    let same : g.K.BatchData.batch c.args.self.now.key ≡ g.K.BatchData.batch c.self.inside.key = cc in
    let s = spot c.steps.walk in
    let runs = c.steps.invariant.runs in
    let top = path-top (g.K.BatchData.batch c.args.self.now.key) s.view.known s.frames s.at runs.walks.path in
    let asked = runs.for in
    let within = c.requires.within in
    subst (λ (b : Batch). s.at < b.size) same (omega arith)

pub steps-preserved-in-Ok-Went : goal.steps-preserved-in-Ok-Went
steps-preserved-in-Ok-Went g c =
    let i = c.steps.invariant in
    let stepped : GoesFurther (g.K.BatchData.batch c.args.self.now.key) (spot c.steps.walk) (spot c.step.new.walk) =
    rw c.in-Ok-Went.field-0-is at c.in-Ok-Went.ensures.stepped in
    let same = c.step.ensures.same in record {
      same_table = same.table ∙ i.same_table;
      same = same-then c.args.pass c.steps.walk.holding c.step.new.walk.holding i.same same;
      bodies = counts-then (g.K.Fills.runs c.args.self.now.key) c.args.pass c.steps.walk.holding c.step.new.walk.holding i.bodies c.step.ensures.bodies;
      runs = round (g.K.BatchData.batch c.args.self.now.key) c.args.index c.args.pass.view (spot c.steps.walk) (spot c.step.new.walk) i.runs stepped;
    }

pub returns-in-Ok-Busy-clause-tells : goal.returns-in-Ok-Busy-clause-tells
returns-in-Ok-Busy-clause-tells g c =
    busy (g.K.BatchData.batch c.args.self.now.key) c.args.index c.in-Ok-Busy.other c.args.pass.view c.release.result.view (spot c.steps.walk) (spot c.step.new.walk)
    c.steps.invariant.runs (rw c.in-Ok-Busy.field-0-is at c.in-Ok-Busy.ensures.stepped) c.release.ensures.released

pub returns-in-Ok-Busy-clause-bodies : goal.returns-in-Ok-Busy-clause-bodies
returns-in-Ok-Busy-clause-bodies g c =
    let runs = g.K.Fills.runs c.args.self.now.key in
    let next = c.step.new.walk.holding in
    counts-then runs c.args.pass next c.release.result
    (counts-then runs c.args.pass c.steps.walk.holding next c.steps.invariant.bodies c.step.ensures.bodies) c.release.ensures.bodies

pub returns-in-Err-clause-tells : goal.returns-in-Err-clause-tells
returns-in-Err-clause-tells g c =
    out-of-memory (g.K.BatchData.batch c.args.self.now.key) c.args.index c.args.pass.view c.release-in-Err.result.view (spot c.steps.walk) (spot c.step.new.walk)
    c.steps.invariant.runs c.in-Err.ensures.stepped c.release-in-Err.ensures.released

pub returns-in-Err-clause-bodies : goal.returns-in-Err-clause-bodies
returns-in-Err-clause-bodies g c =
    let runs = g.K.Fills.runs c.args.self.now.key in
    let next = c.step.new.walk.holding in
    counts-then runs c.args.pass next c.release-in-Err.result
    (counts-then runs c.args.pass c.steps.walk.holding next c.steps.invariant.bodies c.step.ensures.bodies) c.release-in-Err.ensures.bodies

pub returns-in-Ok-Busy-clause-told : goal.returns-in-Ok-Busy-clause-told
returns-in-Ok-Busy-clause-told g c told =
    absurd (c.in_default.ensures.tells.untold (subst (λ (p : PassState). IsKnownDone (g.K.BatchData.batch c.args.self.now.key) p.view c.args.index) (sym c.begin-holding.ensures.same) told))

pub returns-in-Err-clause-told : goal.returns-in-Err-clause-told
returns-in-Err-clause-told g c told =
    absurd (c.in_default.ensures.tells.untold (subst (λ (p : PassState). IsKnownDone (g.K.BatchData.batch c.args.self.now.key) p.view c.args.index) (sym c.begin-holding.ensures.same) told))

-- no reference is left, and the place is filled
pub fill-holding-requires-clause-within : goal.fill-holding-requires-clause-within
fill-holding-requires-clause-within g c =
    let invariant = c.self.invariant in
    let view = c.self.view_is in
    let same : g.K.BatchData.batch c.args.self.now.key ≡ g.K.BatchData.batch c.self.inside.key = cc in
    let s = spot c.steps.walk in
    let runs = c.steps.invariant.runs in
    let top = path-top (g.K.BatchData.batch c.args.self.now.key) s.view.known s.frames s.at runs.walks.path in
    let asked = runs.for in
    let within = c.requires.within in
    subst (λ (b : Batch). s.at < b.size) same (omega arith)

pub fill-holding-requires-clause-ready : goal.fill-holding-requires-clause-ready
fill-holding-requires-clause-ready g c =
    let invariant = c.self.invariant in
    let view = c.self.view_is in
    let same : g.K.BatchData.batch c.args.self.now.key ≡ g.K.BatchData.batch c.self.inside.key = cc in
    let s = spot c.steps.walk in
    let many : c.references_length.result ≡ length (reference_words (g.K.BatchData.batch c.args.self.now.key) s.at) =
    c.references_length.ensures.value ∙ ap (λ (b : Batch). length (reference_words b s.at)) (sym same) in
    let more = c.if-walk-references_length.false in
    subst (λ (b : Batch). KnowsReferences b s.view s.at) same
    (knows-all (g.K.BatchData.batch c.args.self.now.key) s.view s.at s.next (omega arith) c.steps.invariant.runs.walks.ready)

pub fill-holding-requires-clause-past : goal.fill-holding-requires-clause-past
fill-holding-requires-clause-past g c =
    let invariant = c.self.invariant in
    let view = c.self.view_is in
    let same : g.K.BatchData.batch c.args.self.now.key ≡ g.K.BatchData.batch c.self.inside.key = cc in
    let b = g.K.BatchData.batch c.args.self.now.key in
    let s = spot c.steps.walk in
    let walks = c.steps.invariant.runs.walks in
    let top = path-top b s.view.known s.frames s.at walks.path in
    subst (λ (b : Batch). KnowsPast b s.view s.at) same
    (past-later b s.view s.view (asked_place s) s.at (keeps-same s.view) top walks.past)

-- memory ran out for it
pub release-requires-then-is_err-clause-walks : goal.release-requires-then-is_err-clause-walks
release-requires-then-is_err-clause-walks g c =
    let invariant = c.self.invariant in
    let view = c.self.view_is in
    let b = g.K.BatchData.batch c.args.self.now.key in
    let same : b ≡ g.K.BatchData.batch c.self.inside.key = cc in
    let s = spot c.steps.walk in
    let after = c.fill-holding.result.0 in
    let told = filled-none (g.K.BatchData.batch c.self.inside.key) s.at (g.K.Fills.runs c.self.inside.key s.at) c.steps.walk.holding.bodies after.bodies s.view after.view c.fill-holding.result.1
    (sym c.is_err.ensures.value ∙ c.if-is_err.true) c.fill-holding.ensures.tells c.fill-holding.ensures.bodies in
    (starved b s.view after.view s.at s.next s.frames c.steps.invariant.runs.walks told.0 (subst (λ (b : Batch). IsRevocation b s.at) (sym same) told.1)).stays.walks

pub returns-then-is_err-clause-tells : goal.returns-then-is_err-clause-tells
returns-then-is_err-clause-tells g c =
    let invariant = c.self.invariant in
    let view = c.self.view_is in
    let b = g.K.BatchData.batch c.args.self.now.key in
    let same : b ≡ g.K.BatchData.batch c.self.inside.key = cc in
    let s = spot c.steps.walk in
    let after = c.fill-holding.result.0 in
    let told = filled-none (g.K.BatchData.batch c.self.inside.key) s.at (g.K.Fills.runs c.self.inside.key s.at) c.steps.walk.holding.bodies after.bodies s.view after.view c.fill-holding.result.1
    (sym c.is_err.ensures.value ∙ c.if-is_err.true) c.fill-holding.ensures.tells c.fill-holding.ensures.bodies in
    out-of-memory b c.args.index c.args.pass.view c.release-then-is_err.result.view s (at-spot after.view s.at s.next s.frames) c.steps.invariant.runs
    (starved b s.view after.view s.at s.next s.frames c.steps.invariant.runs.walks told.0 (subst (λ (b : Batch). IsRevocation b s.at) (sym same) told.1)) c.release-then-is_err.ensures.released

pub returns-then-is_err-clause-bodies : goal.returns-then-is_err-clause-bodies
returns-then-is_err-clause-bodies g c =
    let runs = g.K.Fills.runs c.args.self.now.key in
    let s = spot c.steps.walk in
    let after = c.fill-holding.result.0 in
    let told = filled-none (g.K.BatchData.batch c.self.inside.key) s.at (g.K.Fills.runs c.self.inside.key s.at) c.steps.walk.holding.bodies after.bodies s.view after.view c.fill-holding.result.1
    (sym c.is_err.ensures.value ∙ c.if-is_err.true) c.fill-holding.ensures.tells c.fill-holding.ensures.bodies in
    counts-then runs c.args.pass after c.release-then-is_err.result
    (counts-then runs c.args.pass c.steps.walk.holding after c.steps.invariant.bodies (counts-starved runs c.steps.walk.holding after told.0 told.2)) c.release-then-is_err.ensures.bodies

pub returns-then-is_err-clause-told : goal.returns-then-is_err-clause-told
returns-then-is_err-clause-told g c told =
    absurd (c.in_default.ensures.tells.untold (subst (λ (p : PassState). IsKnownDone (g.K.BatchData.batch c.args.self.now.key) p.view c.args.index) (sym c.begin-holding.ensures.same) told))

-- it is done, and the place that waits for it goes on
pub steps-smaller : goal.steps-smaller
steps-smaller g c =
    let b = g.K.BatchData.batch c.args.self.now.key in
    let s = spot c.steps.walk in
    let after = c.fill-holding.result.0 in
    let told = filled-all (g.K.BatchData.batch c.self.inside.key) s.at (g.K.Fills.runs c.self.inside.key s.at) c.steps.walk.holding.bodies after.bodies s.view after.view c.fill-holding.result.1
    (sym c.is_err.ensures.value ∙ c.if-is_err.false) c.fill-holding.ensures.tells c.fill-holding.ensures.bodies in
    (went-out b s.view after.view s.at s.next s.frames c.pop.new.self.items c.in-Some-pop.frame c.steps.invariant.runs.walks told.0 c.in-Some-pop.ensures.items).less

pub steps-preserved : goal.steps-preserved
steps-preserved g c =
    let invariant = c.self.invariant in
    let view = c.self.view_is in
    let b = g.K.BatchData.batch c.args.self.now.key in
    let runs = g.K.Fills.runs c.args.self.now.key in
    let i = c.steps.invariant in
    let p = c.steps.walk.holding in
    let s = spot c.steps.walk in
    let after = c.fill-holding.result.0 in
    let counted : g.K.Fills.runs c.self.inside.key s.at ≡ runs s.at = cc in
    let told = filled-all (g.K.BatchData.batch c.self.inside.key) s.at (g.K.Fills.runs c.self.inside.key s.at) p.bodies after.bodies s.view after.view c.fill-holding.result.1
    (sym c.is_err.ensures.value ∙ c.if-is_err.false) c.fill-holding.ensures.tells c.fill-holding.ensures.bodies in
    let same = c.fill-holding.ensures.same in
    let frame = c.in-Some-pop.frame in record {
      same_table = same.table ∙ i.same_table;
      same = same-then c.args.pass p after i.same same;
      bodies = counts-then runs c.args.pass p after i.bodies (counts-filled runs p after s.at told.0 (told.1 ∙ ap (counted_more p.bodies) counted));
      runs = round b c.args.index c.args.pass.view s (at-spot after.view frame.index frame.next c.pop.new.self.items) i.runs
          (went-out b s.view after.view s.at s.next s.frames c.pop.new.self.items frame i.runs.walks told.0 c.in-Some-pop.ensures.items);
    }

-- none waits
pub end-requires-in-None : goal.end-requires-in-None
end-requires-in-None g c =
    let b = g.K.BatchData.batch c.args.self.now.key in
    let s = spot c.steps.walk in
    let after = c.fill-holding.result.0 in
    let empty : c.steps.walk.stack.items ≡ [] = grind (arith, common_steps) in
    let told = filled-all (g.K.BatchData.batch c.self.inside.key) s.at (g.K.Fills.runs c.self.inside.key s.at) c.steps.walk.holding.bodies after.bodies s.view after.view c.fill-holding.result.1
    (sym c.is_err.ensures.value ∙ c.if-is_err.false) c.fill-holding.ensures.tells c.fill-holding.ensures.bodies in
    over-idle b c.args.index c.args.pass.view after.view s c.steps.invariant.runs told.0 empty

pub returns-in-None-clause-tells : goal.returns-in-None-clause-tells
returns-in-None-clause-tells g c =
    let b = g.K.BatchData.batch c.args.self.now.key in
    let s = spot c.steps.walk in
    let after = c.fill-holding.result.0 in
    let empty : c.steps.walk.stack.items ≡ [] = grind (arith, common_steps) in
    let told = filled-all (g.K.BatchData.batch c.self.inside.key) s.at (g.K.Fills.runs c.self.inside.key s.at) c.steps.walk.holding.bodies after.bodies s.view after.view c.fill-holding.result.1
    (sym c.is_err.ensures.value ∙ c.if-is_err.false) c.fill-holding.ensures.tells c.fill-holding.ensures.bodies in
    subst (λ (p : PassState). TriedMeans b c.args.index c.args.pass.view (Ok Done) p.view) (sym c.end-in-None.ensures)
    (over b c.args.index c.args.pass.view after.view s c.steps.invariant.runs told.0 empty)

pub returns-in-None-clause-bodies : goal.returns-in-None-clause-bodies
returns-in-None-clause-bodies g c =
    let invariant = c.self.invariant in
    let view = c.self.view_is in
    let runs = g.K.Fills.runs c.args.self.now.key in
    let p = c.steps.walk.holding in
    let s = spot c.steps.walk in
    let after = c.fill-holding.result.0 in
    let counted : g.K.Fills.runs c.self.inside.key s.at ≡ runs s.at = cc in
    let told = filled-all (g.K.BatchData.batch c.self.inside.key) s.at (g.K.Fills.runs c.self.inside.key s.at) p.bodies after.bodies s.view after.view c.fill-holding.result.1
    (sym c.is_err.ensures.value ∙ c.if-is_err.false) c.fill-holding.ensures.tells c.fill-holding.ensures.bodies in
    counts-to runs c.args.pass after c.end-in-None.result c.end-in-None.ensures
    (counts-then runs c.args.pass p after c.steps.invariant.bodies (counts-filled runs p after s.at told.0 (told.1 ∙ ap (counted_more p.bodies) counted)))
