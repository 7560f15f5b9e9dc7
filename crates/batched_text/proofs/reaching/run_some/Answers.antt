use Rattle.std.proofs.Common.{ap, arith, length, subst, sym, ◌∙◌}
use Rattle.std.specs.Prelude.{nat_le}
use Rattle.chains.specs.Store.{Store}
use Rattle.engine.specs.Engine.{Run, finished}
use Rattle.batched_text.specs.Batching.{RunsBatch}
use Rattle.batched_text.specs.Settings.{mark_behind}
use Rattle.batched_text.specs.declared.history.Plan.{Plan}
use Rattle.batched_text.proofs.Cutting.{mark_alone}
use Rattle.batched_text.proofs.Fronts.{some_ended}
use Rattle.batched_text.proofs.reaching.run_some.Goals as goal

pub run_batch-requires-clause-mark : goal.run_batch-requires-clause-mark
run_batch-requires-clause-mark g c =
    let run : Run = c.take_until.new.engine in
    let behind = ap (λ (plan : Plan). mark_behind plan.settings (finished run) (length run.log.statements)) c.quiet.ensures.plan in
    omega (arith, behind, ap (λ (store : Store). store.mark) c.in_ok-more.ensures.store, c.requires.mark, c.in_ok-more.ensures.none, c.log.ensures.within)

pub returns-clause-mark : goal.returns-clause-mark
returns-clause-mark g c =
    let run : Run = c.take_until.new.engine in
    let ran = subst (λ (plan : Plan). RunsBatch plan.settings run c.run_batch.new.engine) c.quiet.ensures.plan c.in_ok-run_batch.ensures.ran in
    mark_alone _ run c.run_batch.new.engine ran
    (ap (λ (store : Store). store.mark) c.in_ok-more.ensures.store ∙ c.requires.mark ∙ omega (arith, c.in_ok-more.ensures.none)) c.log.ensures.within

pub returns-clause-taken : goal.returns-clause-taken
returns-clause-taken g c = λ input so.
    some_ended c.in_ok-more.more (nat_le c.finished-2.result c.args.place) input _ c.args.place c.min-last.result c.take_until.new.engine.log c.run_batch.new.engine.log
    c.in_ok-run_batch.ensures.ran.log (ap (λ n. nat_le n c.args.place) (c.finished-2.ensures.count ∙ c.in_ok-run_batch.ensures.ran.all
    ∙ ap (λ log. length log.statements) (sym c.in_ok-run_batch.ensures.ran.log)))
    (c.in_ok-more.ensures.taken input c.args.place (omega (arith, c.min-last.ensures)) so)
