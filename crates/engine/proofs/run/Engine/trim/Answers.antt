use Rattle.std.proofs.Common.{◌≡◌, ℕ, ap, ◌∙◌, subst}
use Rattle.std.specs.Prelude.{◌||◌, is_err, nat_lt}
use Rattle.engine.specs.Engine.{Run, finished}
use Rattle.engine.proofs.run.Engine.trim.Goals as goal

pub returns-clause-bad : goal.returns-clause-bad
returns-clause-bad c =
    let e = c.self.inside in
    subst (λ (run : Run). is_err c.trim.result ≡ (nat_lt c.args.mark run.store.mark || nat_lt (finished run) c.args.mark)) c.self.view_is
    (c.trim.ensures.bad ∙ ap (λ (n : ℕ). nat_lt c.args.mark e.state.chains.mark || nat_lt n c.args.mark) c.self.invariant.is.stands.ends)
