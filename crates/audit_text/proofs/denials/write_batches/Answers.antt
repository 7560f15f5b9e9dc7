use Rattle.std.proofs.Common.{◌≡◌, ◌≤◌, ◌∙◌, Option, Some, ap, arith, false, refl, subst, sym, true}
use Rattle.std.specs.Prelude.{Ok}
use Rattle.engine.specs.Engine.{finished}
use Rattle.batched_text.specs.declared.quiet.QuietRun.{QuietRun}
use Rattle.audit_text.proofs.RunSofar.{TellsTo, tells_all, tells_batch, tells_begun, tells_front, tells_none}
use Rattle.audit_text.proofs.denials.write_batches.Goals as goal

pub returns-in_err-write_denials-clause-begun : goal.returns-in_err-write_denials-clause-begun
returns-in_err-write_denials-clause-begun g c = λ input so.
    let inv = c.batches.invariant in
    tells_front input c.args.is_checked _ _ _ _ _ c.batches.run inv.between inv.order (inv.of (Some input) so) (inv.told input so)
    (rw c.engine.ensures at c.write_denials.ensures.begun)

pub returns-in_err-next-clause-begun : goal.returns-in_err-next-clause-begun
returns-in_err-next-clause-begun g c = λ input so.
    let inv = c.batches.invariant in
    let last : finished c.batches.run.engine ≤ finished c.batches.run.engine = omega arith in
    tells_begun input c.args.is_checked _ _ _ _ _ c.batches.run inv.between last (inv.of (Some input) so)
    (tells_batch input c.args.is_checked _ _ _ _ _ c.batches.run inv.between inv.order (inv.of (Some input) so) (inv.told input so)
    (rw c.engine.ensures at c.in_ok-write_denials.ensures.done))

pub returns-then-not-branch-clause-done : goal.returns-then-not-branch-clause-done
returns-then-not-branch-clause-done g c = λ input so.
    let inv = c.batches.invariant in
    let none : c.next.result ≡ Ok false = cc in
    let ended = c.next.ensures.ended none in
    let stopped : c.batches.run.goes_on ≡ false = sym (ap (λ (run : QuietRun). run.goes_on) ended.0) ∙ ended.1 in
    tells_all input c.args.is_checked _ _ _ _ c.batches.run inv.between (inv.of (Some input) so) stopped (inv.last ∙ c.requires.last)
    (tells_batch input c.args.is_checked _ _ _ _ _ c.batches.run inv.between inv.order (inv.of (Some input) so) (inv.told input so)
    (rw c.engine.ensures at c.in_ok-write_denials.ensures.done))

pub returns-then-not-branch-clause-begun : goal.returns-then-not-branch-clause-begun
returns-then-not-branch-clause-begun g c = λ input so.
    let inv = c.batches.invariant in
    let last : finished c.batches.run.engine ≤ finished c.batches.run.engine = omega arith in
    tells_begun input c.args.is_checked _ _ _ _ _ c.batches.run inv.between last (inv.of (Some input) so)
    (tells_batch input c.args.is_checked _ _ _ _ _ c.batches.run inv.between inv.order (inv.of (Some input) so) (inv.told input so)
    (rw c.engine.ensures at c.in_ok-write_denials.ensures.done))

pub batches-preserved : goal.batches-preserved
batches-preserved g c =
    let inv = c.batches.invariant in
    let more : c.next.result ≡ Ok true = cc in
    let dropped = c.next.ensures.batch more in
    record {
      between = c.in_ok-next.ensures.between;
      order = omega (arith, dropped, c.in_ok-next.ensures.order);
      of = λ input so. c.in_ok-next.ensures.of input (inv.of input so);
      told = λ input so.
          subst (TellsTo input c.args.is_checked _ _) (sym dropped)
          (tells_batch input c.args.is_checked _ _ _ _ _ c.batches.run inv.between inv.order (inv.of (Some input) so) (inv.told input so)
          (rw c.engine.ensures at c.in_ok-write_denials.ensures.done));
      last = c.next.ensures.last ∙ inv.last;
      read_errors = c.next.ensures.other (λ is. cc) ∙ inv.read_errors;
      write_errors = c.in_ok-write_denials.ensures.whole ∙ inv.write_errors;
      flushes = c.write_denials.ensures.flushes ∙ inv.flushes;
    }
