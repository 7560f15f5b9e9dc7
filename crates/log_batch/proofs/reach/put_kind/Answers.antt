use Rattle.std.proofs.Common.{sym, ◌∙◌}
use Rattle.log_batch.specs.Supplied.{batch_of}
use Rattle.log_batch.proofs.Reaching.{kind-again, kind-apart, kind-more, not_new}
use Rattle.log_batch.proofs.reach.put_kind.Goals as goal

pub returns-then-not-contains : goal.returns-then-not-contains
returns-then-not-contains c =
    kind-apart (batch_of c.args.batch.now) c.args.revocation.now c.args.grantee.now c.args.kind c.args.revoked.now c.args.due.now.keys (sym c.contains.ensures ∙ c.if-not-contains.true)

pub returns-in_ok-add_grants : goal.returns-in_ok-add_grants
returns-in_ok-add_grants c =
    kind-more (batch_of c.args.batch.now) c.args.revocation.now c.args.grantee.now c.args.kind (sym c.contains.ensures ∙ c.if-not-contains.false)
    c.args.revoked.now c.put.new.self c.args.due.now.keys c.in_ok-put.ensures.put c.add_grants.new.due.keys c.in_ok-add_grants.ensures

pub returns-else-branch : goal.returns-else-branch
returns-else-branch c =
    kind-again (batch_of c.args.batch.now) c.args.revocation.now c.args.grantee.now c.args.kind (sym c.contains.ensures ∙ c.if-not-contains.false)
    c.args.revoked.now c.put.new.self c.args.due.now.keys c.in_ok-put.ensures.put (not_new _ _ c.in_ok-put.ensures.was c.if-branch.false)
