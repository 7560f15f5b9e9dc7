use Rattle.std.proofs.Common.{List, ℕ, sym, ◌∙◌, subst}
use Rattle.model_base.specs.Privileges.{option_holder}
use Rattle.log_batch.specs.Supplied.{batch_of}
use Rattle.log_batch.specs.Reach.{IsDue, IsReach}
use Rattle.log_batch.proofs.Reaching.{due-more, due-same, holder-found, reach-more}
use Rattle.log_batch.proofs.reach.Reach.take_earlier.Goals as goal

pub returns-in_ok-add_grants-clause-due : goal.returns-in_ok-add_grants-clause-due
returns-in_ok-add_grants-clause-due c =
    let b = batch_of c.args.batch.now in
    let grant = c.grant-grant.result in
    let found = sym c.in_ok-user.ensures.was ∙ c.in-Some.is in
    subst (λ (listed : List ℕ). IsDue b c.args.next listed c.add_grants.new.due.keys) (sym c.in_ok-user.ensures.slots)
    (due-more b c.args.slot grant c.grant-grant.ensures c.in-Some.user c.args.next c.args.self.now.slots.items c.args.due.now.keys c.add_grants.new.due.keys
    c.in_ok-add_grants.ensures (holder-found c.args.self.now.lent grant (option_holder grant) c.in-Some.user found) c.requires.due)

pub returns-in_default-clause-due : goal.returns-in_default-clause-due
returns-in_default-clause-due c =
    let b = batch_of c.args.batch.now in
    subst (λ (listed : List ℕ). IsDue b c.args.next listed c.args.due.now.keys) (sym c.in_ok-user.ensures.slots)
    (due-same b c.args.slot c.grant-grant.result c.grant-grant.ensures c.args.self.now c.args.next c.args.due.now.keys c.requires.reach.lent
    (sym c.in_ok-user.ensures.was ∙ c.in_default.is) c.requires.due)

pub returns-in_ok-add_grants-clause-reach : goal.returns-in_ok-add_grants-clause-reach
returns-in_ok-add_grants-clause-reach c =
    let b = batch_of c.args.batch.now in
    subst (λ (n : ℕ). IsReach b n c.take.new.self) (sym c.requires.next)
    (reach-more b c.args.slot c.grant-grant.result c.grant-grant.ensures c.args.self.now c.take.new.self c.requires.reached c.requires.reach
    c.in_ok-user.ensures.slots c.in_ok-user.ensures.lent c.in_ok-user.ensures.revoked)

pub returns-in_default-clause-reach : goal.returns-in_default-clause-reach
returns-in_default-clause-reach c =
    let b = batch_of c.args.batch.now in
    subst (λ (n : ℕ). IsReach b n c.take.new.self) (sym c.requires.next)
    (reach-more b c.args.slot c.grant-grant.result c.grant-grant.ensures c.args.self.now c.take.new.self c.requires.reached c.requires.reach
    c.in_ok-user.ensures.slots c.in_ok-user.ensures.lent c.in_ok-user.ensures.revoked)
