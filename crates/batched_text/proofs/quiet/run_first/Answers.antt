use Rattle.std.proofs.Common.{ap, arith, ◌∙◌, sym}
use Rattle.std.proofs.lemmas.Result.{IfOk-weaker}
use Rattle.chains.specs.Store.{Store}
use Rattle.batched_text.proofs.Sweeping.{swept_first}
use Rattle.batched_text.proofs.quiet.run_first.Goals as goal

pub returns-then-not-branch-clause-taken : goal.returns-then-not-branch-clause-taken
returns-then-not-branch-clause-taken g c = (rw c.if-not-branch.true at c.in_ok-take_first.ensures.taken) c.args.place

pub returns-then-not-branch-clause-swept : goal.returns-then-not-branch-clause-swept
returns-then-not-branch-clause-swept g c =
    swept_first c.take_first.new.engine.store (ap (λ (store : Store). store.mark) c.in_ok-take_first.ensures.store ∙ c.requires.mark)

pub run_some-requires-clause-mark : goal.run_some-requires-clause-mark
run_some-requires-clause-mark g c =
    ap (λ (store : Store). store.mark) c.in_ok-take_first.ensures.store ∙ c.requires.mark ∙ sym (c.in_ok-take_first.ensures.unrun ∙ c.requires.unrun)

pub run_some-requires-clause-swept : goal.run_some-requires-clause-swept
run_some-requires-clause-swept g c =
    swept_first c.take_first.new.engine.store (ap (λ (store : Store). store.mark) c.in_ok-take_first.ensures.store ∙ c.requires.mark)

pub returns-clause-taken : goal.returns-clause-taken
returns-clause-taken g c =
    IfOk-weaker c.run_some.result _ _ (λ more taken. taken _ ((rw c.if-not-branch.false at c.in_ok-take_first.ensures.taken) c.args.place)) c.run_some.ensures.taken
