use Rattle.grants.proofs.Asking.{passed_put}
use Rattle.grants.proofs.lost_options.LostOptions.put.Goals as goal

pub returns-in_ok-insert-in-None : goal.returns-in_ok-insert-in-None
returns-in_ok-insert-in-None c = λ revocation view ended here passed.
    let lost = c.args.self.now in
    let holder = c.args.holder.now in
    record {
      few = passed.few;
      others = passed_put revocation view ended lost.others c.insert.new.self holder.user c.args.slot holder.kind c.key-key.result c.key-key.ensures
          c.in_ok-insert-in-None.ensures.updates.0 here passed.others;
    }
