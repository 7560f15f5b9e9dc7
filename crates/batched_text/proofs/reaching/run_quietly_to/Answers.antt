use Rattle.std.proofs.Common.{◌≡◌, ◌≤◌, ◌∙◌, false, refl, subst, sym}
use Rattle.std.specs.Prelude.{IfSome, Ok, unwrap_or}
use Rattle.std.specs.Io.KnownBytes.{prepend_known}
use Rattle.line_io.specs.Ahead.{ahead}
use Rattle.model_base.specs.declared.limits.TheConstants.{MOST_PLACES}
use Rattle.engine.specs.Engine.{Run}
use Rattle.batched_text.proofs.Faults.{read_on, told_on}
use Rattle.batched_text.proofs.Fronts.{ended_taking, front_ended, kept_to, up_to}
use Rattle.batched_text.specs.Reaching.{IsLogUpTo}
use Rattle.batched_text.proofs.reaching.run_quietly_to.Goals as goal

pub returns-clause-log : goal.returns-clause-log
returns-clause-log g c =
    let run = c.next.new.self in
    let none : c.next.result ≡ Ok false = cc in
    let so = c.in_ok-next.ensures.of (g.R.Read.remaining c.args.reader.now.inner) (c.batches.invariant.of (g.R.Read.remaining c.args.reader.now.inner) c.in_ok-run.ensures.of) in
    let input = g.R.Read.remaining c.args.reader.now.inner in
    let rest = prepend_known (ahead run.lines) (g.R.Read.remaining c.next.new.reader.inner) in
    let ends = ended_taking run.goes_on input rest run.last run.engine.log (c.next.ensures.ended none).1 so in
    let last : run.last ≡ unwrap_or c.args.limit MOST_PLACES = c.next.ensures.last ∙ c.batches.invariant.last ∙ c.in_ok-run.ensures.last in
    subst (λ (engine : Run). IsLogUpTo input c.args.limit engine.log) (sym c.into_engine-engine.ensures)
    (up_to input c.args.limit run.last run.engine.log c.in_ok-next.ensures.between.most last (front_ended input run.last run.engine.log ends))

pub returns-clause-kept : goal.returns-clause-kept
returns-clause-kept g c =
    let run = c.next.new.self in
    let last : run.last ≡ unwrap_or c.args.limit MOST_PLACES = c.next.ensures.last ∙ c.batches.invariant.last ∙ c.in_ok-run.ensures.last in
    subst (λ (engine : Run). IfSome c.args.limit (λ place. engine.dropped ≤ place)) (sym c.into_engine-engine.ensures)
    (kept_to c.args.limit run.last run.engine.dropped last c.in_ok-next.ensures.between.kept)

pub returns-in_err-next-clause-fault : goal.returns-in_err-next-clause-fault
returns-in_err-next-clause-fault g c =
    rw (told_on c.in_err-next.field-0.0 c.from_residual-in_err-next.result c.from_residual-in_err-next.ensures.1) c.in_err-next.ensures.fault

pub returns-in_err-next-clause-other : goal.returns-in_err-next-clause-other
returns-in_err-next-clause-other g c =
    λ other. c.in_err-next.ensures.other (λ is. other (read_on c.in_err-next.field-0.0 c.from_residual-in_err-next.result c.from_residual-in_err-next.ensures.1 _ refl is))
    ∙ c.batches.invariant.read_errors ∙ c.in_ok-run.ensures.other (λ is. cc)
