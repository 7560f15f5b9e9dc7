use Rattle.std.proofs.Common.{◌≡◌, ◌∙◌, length, map, take, ap}
use Rattle.grants_base.specs.Book.{unended}
use Rattle.grants_base.proofs.Indexing.{on_err, take_front}
use Rattle.grants_base.proofs.indexed.IndexedRecords.put.Goals as goal

pub returns-in_err-push-clause-err : goal.returns-in_err-push-clause-err
returns-in_err-push-clause-err c =
    let more = map unended (take c.loop-grant.grant-index c.args.grants.now) in
    on_err c.from_residual.result (take (length c.args.self.now) c.push.new.self ≡ c.args.self.now)
    (ap (take (length c.args.self.now)) (c.in_err-push.ensures.err ∙ c.loop-grant.invariant) ∙ take_front c.args.self.now more)
