use Rattle.std.proofs.Common.{ap, true, cond, ◌∙◌}
use Rattle.std.specs.BTreeMap.{is_at}
use Rattle.std.specs.BTreeSet.{contains}
use Rattle.log_batch.specs.declared.revoked.Named.{Named}
use Rattle.log_batch.specs.Revoked.{named_cmp, named_with}
use Rattle.log_batch.proofs.RevokedSets.{named_added}
use Rattle.log_batch.proofs.revoked.Revoked.put.Goals as goal

pub returns-clause-put : goal.returns-clause-put
returns-clause-put c = λ grant.
    let old = c.args.self.now.named in
    named_added old c.insert.new.self c.args.revocation.now c.args.grantee.now c.args.kind grant
    (c.in_ok-is_new.ensures.updates.0 (named_with grant)
    ∙ ap (λ (named : Named). cond (is_at (named_cmp named) (named_with grant)) true (contains named_cmp old (named_with grant))) c.named_by-named.ensures)
