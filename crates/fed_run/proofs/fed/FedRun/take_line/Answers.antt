use Rattle.std.proofs.Common.{◌≡◌, ◌∙◌, [], ap, arith, length, List, ℕ, subst, take}
use Rattle.std.specs.Prelude.{◌==◌}
use Rattle.bohm_base.specs.Collecting.{ReadsAs}
use Rattle.batched_text.specs.Batching.{next_line}
use Rattle.batched_text.specs.Foretold.{log_names}
use Rattle.batched_text.specs.History.{last_places, plan_in_order}
use Rattle.batched_text.specs.declared.history.Plan.{Plan}
use Rattle.report.specs.Report.{ParsedLine}
use Rattle.fed_run.proofs.FedTexts.{pending_after, steady_after}
use Rattle.fed_run.specs.declared.fed.FedRun.{FedRun}
use Rattle.fed_run.proofs.Lines.{alone, nothing_in}
use Rattle.fed_run.proofs.fed.FedRun.take_line.Goals as goal

-- by what lines are run
abbrev plan_of : FedRun → Plan
plan_of run = plan_in_order (last_places run.keep)

pub returns-then-is_empty-clause-ok : goal.returns-then-is_empty-clause-ok
returns-then-is_empty-clause-ok c = λ line is.
    let run : FedRun = c.args.self.now in
    let begun = run.begun in
    let none : begun.items ≡ [] = nothing_in begun.items begun.len c.is_empty.result begun.ok.0 c.is_empty.ensures c.if-is_empty.true in
    let took = c.in_ok-take.ensures.ok in (
      took.0,
      (
        subst (λ (known : List ℕ). ReadsAs (next_line run.run == 1) (log_names run.run).version known took.0)
            (alone line c.args.end.now begun.items none is c.requires.short) took.1.0,
        took.1.1,
      ),
    )

pub returns-in-Ok-clause-ok : goal.returns-in-Ok-clause-ok
returns-in-Ok-clause-ok c = λ line is.
    let run : FedRun = c.args.self.now in
    let took = c.in-Ok.ensures.ok in (
      took.0,
      (
        subst (λ (known : List ℕ). ReadsAs (next_line run.run == 1) (log_names run.run).version known took.0)
            (c.deref.ensures.value ∙ c.in_ok-keep_more.ensures.ok line is) took.1.0,
        took.1.1,
      ),
    )

pub returns-in-Err-clause-kept : goal.returns-in-Err-clause-kept
returns-in-Err-clause-kept c =
    let begun = c.args.self.now.begun in
    let long : c.len-before.result ≡ length begun.items = omega (arith, c.len-before.ensures, begun.ok.0) in
    c.truncate.ensures.items ∙ ap (λ n. take n c.keep_more.new.kept.items) long ∙ c.in_ok-keep_more.ensures.front

pub invariant_of-self-then-is_empty : goal.invariant_of-self-then-is_empty
invariant_of-self-then-is_empty c =
    let run : FedRun = c.args.self.now in
    let Reads : ParsedLine → Type 0 = λ reading. ReadsAs (next_line run.run == 1) (log_names run.run).version c.args.end.now reading in
    let took = c.take.ensures in
    record {
      within = omega (arith, run.within, ap length (pending_after (plan_of run) run.run c.take.new.self Reads c.take.result took.ok took.still));
      steady = steady_after (plan_of run) run.run c.take.new.self Reads c.take.result run.steady c.requires.room
          (c.may_count.ensures.0 c.if-not-may_count.false) took.ok took.still;
    }

pub invariant_of-self-in-Ok : goal.invariant_of-self-in-Ok
invariant_of-self-in-Ok c =
    let run : FedRun = c.args.self.now in
    let Reads : ParsedLine → Type 0 = λ reading. ReadsAs (next_line run.run == 1) (log_names run.run).version c.deref.result.now reading in
    let took = c.take_alone.ensures in
    record {
      within = omega (arith, run.within, ap length (pending_after (plan_of run) run.run c.take_alone.new.self Reads c.take_alone.result took.ok took.still));
      steady = steady_after (plan_of run) run.run c.take_alone.new.self Reads c.take_alone.result run.steady c.requires.room
          (c.may_count.ensures.0 c.if-not-may_count.false) took.ok took.still;
    }
