use Rattle.std.proofs.Common.{◌≡◌, ◌<◌, List, length, subst, sym}
use Rattle.model_base.specs.declared.limits.TheConstants.{MOST_PLACES}
use Rattle.model_base.specs.declared.outcome.Outcome.{Outcome}
use Rattle.sequencer.specs.Foretelling.{IsForetold}
use Rattle.engine.specs.Engine.{IsRunKept, Run, RunsNext}
use Rattle.engine.proofs.Advanced.{run_in}
use Rattle.engine.proofs.RunNext.{kept_then, next_place, runs_then}
use Rattle.engine.proofs.run.Engine.run_foretold.Goals as goal

pub run_next-requires : goal.run_next-requires
run_next-requires c =
    let e = c.self.inside in
    let sentence = c.requires.foretold.0 in
    next_place e.log e.state e.past.items e.outcomes.items c.self.invariant c.dropped-dropped.ensures.whole c.dropped-dropped.ensures.own_tables
    (subst (λ (run : Run). run.dropped ≡ length run.log.statements) (sym c.self.view_is) c.requires.none) sentence c.args.statement.now
    (subst (λ (run : Run). IsForetold run.log.names sentence c.args.statement.now) (sym c.self.view_is) c.requires.foretold.1.1) c.requires.foretold.1.0
    (subst (λ (run : Run). length run.log.statements < MOST_PLACES) (sym c.self.view_is) c.requires.place)

pub invariant_of-self-2 : goal.invariant_of-self-2
invariant_of-self-2 c =
    let e = c.self.inside in
    let new = c.run_next.new.state in
    let then = c.pass_foretold.new.self in
    let ran = c.in_ok-found.ensures in
    let sentence = c.requires.foretold.0 in
    let is = subst (λ (run : Run). IsForetold run.log.names sentence c.args.statement.now) (sym c.self.view_is) c.requires.foretold.1.1 in
    subst (λ (past : List Outcome). IsRunKept (run_in then new past e.outcomes.items) past) (sym c.with-self-inside.ensures)
    (kept_then e.log e.state e.past.items e.outcomes.items c.self.invariant c.dropped-dropped.ensures.whole c.dropped-dropped.ensures.own_tables
    (subst (λ (run : Run). run.dropped ≡ length run.log.statements) (sym c.self.view_is) c.requires.none) sentence c.args.statement.now is
    new c.in_ok-found.found ran.came ran.stands ran.versions ran.mark then (c.pass_foretold.ensures sentence is))

pub returns-clause-runs : goal.returns-clause-runs
returns-clause-runs c = λ sentence foretold.
    let e = c.self.inside in
    let new = c.run_next.new.state in
    let then = c.pass_foretold.new.self in
    let ran = c.in_ok-found.ensures in
    let is = subst (λ (run : Run). IsForetold run.log.names sentence c.args.statement.now) (sym c.self.view_is) foretold in
    subst (λ (past : List Outcome). RunsNext sentence c.in_ok-found.found c.args.self.now (run_in then new past e.outcomes.items)) (sym c.with-self-inside.ensures)
    (runs_then e.log e.state e.past.items e.outcomes.items c.self.invariant c.dropped-dropped.ensures.whole c.dropped-dropped.ensures.own_tables
    (subst (λ (run : Run). run.dropped ≡ length run.log.statements) (sym c.self.view_is) c.requires.none) sentence c.args.statement.now is
    new c.in_ok-found.found ran.came ran.stands ran.versions ran.mark then (c.pass_foretold.ensures sentence is) c.args.self.now c.self.view_is)
