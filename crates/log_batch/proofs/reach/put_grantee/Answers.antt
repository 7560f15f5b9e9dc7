use Rattle.std.proofs.Common.{Bool, ◌||◌}
use Rattle.model_base.specs.declared.deed.Grant.{Grant}
use Rattle.model_base.specs.declared.deed.Kind.TheVariants.{Read, Insert, Update}
use Rattle.log_batch.specs.Supplied.{batch_of}
use Rattle.log_batch.specs.Revoked.{names_of_kind}
use Rattle.log_batch.proofs.Reaching.{kinds-whole}
use Rattle.log_batch.proofs.reach.put_grantee.Goals as goal

pub returns : goal.returns
returns c = λ passes seeds.
    let revocation = c.args.revocation.now in
    let grantee = c.args.grantee.now in
    let read : Grant → Bool = λ grant. names_of_kind revocation grantee Read grant || passes grant in
    let insert : Grant → Bool = λ grant. names_of_kind revocation grantee Insert grant || read grant in
    let update : Grant → Bool = λ grant. names_of_kind revocation grantee Update grant || insert grant in
    kinds-whole (batch_of c.args.batch.now) revocation grantee passes c.put_kind-4.new.revoked c.put_kind-4.new.due.keys
    (c.in_ok-put_kind-4.ensures update (c.in_ok-put_kind-3.ensures insert (c.in_ok-put_kind-2.ensures read (c.in_ok-put_kind.ensures passes seeds))))
