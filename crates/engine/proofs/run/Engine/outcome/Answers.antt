use Rattle.std.proofs.Common.{◌≡◌, ◌<◌, ◌≤◌, ◌+◌, ◌-◌, ◌++◌, Some, ap, arith, get_or, length, length-append, subst, sym, ◌∙◌}
use Rattle.std.proofs.lemmas.List.{get_or-append_right}
use Rattle.model_base.specs.Outcomes.{outcome}
use Rattle.engine.specs.Engine.{Run, finished}
use Rattle.engine.proofs.Advanced.{finished_at}
use Rattle.engine.proofs.run.Engine.outcome.Goals as goal

pub returns-then-index-len : goal.returns-then-index-len
returns-then-index-len c =
    let e = c.self.inside in
    let place = c.args.place in
    let run : Run = record { log = e.log.log; store = e.state.chains; book = e.state.book; outcomes = e.past.items ++ e.outcomes.items; dropped = e.log.dropped } in
    let count : finished run ≡ e.log.dropped + length e.outcomes.items = length-append e.past.items e.outcomes.items ∙ ap (λ n. n + length e.outcomes.items) c.self.invariant.same in
    let above : e.log.dropped ≤ place = omega (arith, c.if-place-dropped.false, c.dropped-dropped.ensures.count) in
    let within : place - e.log.dropped < length e.outcomes.items = omega (arith, c.if-index-len.true, c.len.ensures, e.outcomes.len, c.dropped-dropped.ensures.count) in
    let less : place < finished run = omega (arith, count, above, within) in
    let here : c.index.result.now ≡ get_or (e.past.items ++ e.outcomes.items) place c.index.result.now =
    c.index.ensures
    ∙ ap (λ n. get_or e.outcomes.items n c.index.result.now) (ap (λ dropped. place - dropped) c.dropped-dropped.ensures.count)
    ∙ sym (get_or-append_right e.past.items e.outcomes.items e.log.dropped place c.index.result.now c.self.invariant.same above) in (
      subst (λ (r : Run). r.dropped ≤ place) c.self.view_is above,
      subst (λ (r : Run). place < finished r) c.self.view_is less,
      subst (λ (r : Run). outcome r.log.statements place ≡ Some c.index.result.now) c.self.view_is
          (finished_at run c.self.invariant.is place c.index.result.now less here),
    )
