use Rattle.std.proofs.Common.{sym, ap, ◌∙◌, subst}
use Rattle.std.specs.Prelude.{max}
use Rattle.grants_base.specs.Index.{IsFirst}
use Rattle.evaluation.specs.Sought.{is_sought}
use Rattle.evaluation.specs.ReadSource.{Reader}
use Rattle.evaluation.proofs.Steps.{first-after, first-there, force_in}
use Rattle.evaluation.proofs.in_force.next_shown.Goals as goal

pub returns-then-is_some-clause-next : goal.returns-then-is_some-clause-next
returns-then-is_some-clause-next g c =
    let ranged = c.args.batch.now in
    let index = (g.T.ReadSource.as_reader c.args.source.now).index in
    first-there ranged c.log-log.ensures.of_log index (is_sought c.args.sought.now) c.args.from c.in-Some.next.slot c.in-Some.ensures.next
    (sym c.is_some.ensures ∙ c.if-is_some.true)

pub returns-clause-next : goal.returns-clause-next
returns-clause-next g c =
    let ranged = c.args.batch.now in
    let index = (g.T.ReadSource.as_reader c.args.source.now).index in
    let passes = is_sought c.args.sought.now in
    first-after ranged c.log-log.ensures.of_log index passes c.args.from c.max-own.result c.in-Some.next.slot c.next_own-slot.result
    (c.max-own.ensures ∙ ap (max c.args.from) c.earlier_count.ensures.value) c.in-Some.ensures.next (sym c.is_some.ensures ∙ c.if-is_some.false)
    (subst (λ (reader : Reader). IsFirst (force_in ranged reader.index passes) c.max-own.result c.next_own-slot.result) c.in-Some.ensures.same.0 c.next_own-slot.ensures.next)
