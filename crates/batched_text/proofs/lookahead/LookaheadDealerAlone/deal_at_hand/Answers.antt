use Rattle.std.proofs.Common.{◌≡◌, ap, sym, subst, ◌∙◌}
use Rattle.sequencer.proofs.Beginnings.{begins_further}
use Rattle.sequencer.specs.Catalog.{Names}
use Rattle.sequencer.specs.Foretelling.{Begins}
use Rattle.sequencer.specs.Log.{Accepted}
use Rattle.batched_text.specs.Foretold.{log_names}
use Rattle.batched_text.proofs.LaterNames.{begins_in}
use Rattle.batched_text.proofs.RunLines.{runs_told}
use Rattle.batched_text.proofs.lookahead.LookaheadDealerAlone.deal_at_hand.Goals as goal

pub returns-in_err-taken-clause-runs : goal.returns-in_err-taken-clause-runs
returns-in_err-taken-clause-runs g c =
    runs_told c.args.runner.now.plan c.args.buffered.now 0 c.args.run.now c.run_ahead-ran.result.0.run c.in_err-taken.field-0.0 c.from_residual.result
    (rw (c.replace-before.ensures.value, c.in_err-taken.was) at c.run_ahead-ran.ensures) c.from_residual.ensures.1

pub learn-requires : goal.learn-requires
learn-requires g c =
    let ran = rw (c.replace-before.ensures.value, c.in_ok-taken.was) at c.run_ahead-ran.ensures in
    let names : c.catalog-2.result.now ≡ log_names c.run_ahead-ran.result.0.run = c.catalog-2.ensures ∙ ap (λ (l : Accepted). l.names) c.log-2.ensures.value in
    subst (λ (n : Names). Begins n c.catalog-2.result.now) (sym (c.next_stretch-to.ensures.names ∙ c.set_version.ensures))
    (subst (Begins (record c.args.self.now.names { version = c.version-version.result })) (sym names)
    (begins_in c.args.self.now.names (log_names c.run_ahead-ran.result.0.run) c.version-version.result
    (begins_further c.args.self.now.names (log_names c.args.run.now) (log_names c.run_ahead-ran.result.0.run) c.requires.begins ran.begins)))

pub returns-clause-runs : goal.returns-clause-runs
returns-clause-runs g c = rw (c.replace-before.ensures.value, c.in_ok-taken.was) at c.run_ahead-ran.ensures

pub run_ahead-ran-requires-clause-begins : goal.run_ahead-ran-requires-clause-begins
run_ahead-ran-requires-clause-begins g c κs within =
    rw c.replace-before.ensures.value
    (subst (λ (n : Names). Begins n (log_names c.args.run.now)) (sym (c.next_stretch-to.ensures.names ∙ c.set_version.ensures))
    (begins_in c.args.self.now.names (log_names c.args.run.now) c.version-version.result c.requires.begins))

pub run_ahead-ran-requires-clause-ready : goal.run_ahead-ran-requires-clause-ready
run_ahead-ran-requires-clause-ready g c κs within = rw c.replace-before.ensures.value c.requires.ready
