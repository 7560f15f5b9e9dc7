use Rattle.std.proofs.lemmas.Result.{on_ok_weaker}
use Rattle.summary.proofs.TextLemmas.{in-two}
use Rattle.summary.proofs.putting.put_counts.Goals as goal

pub returns : goal.returns
returns c = on_ok_weaker c.put_refused.result (λ last. in-two c.args.text.now.items _ _ _ _ c.in_ok-put_places.ensures last) c.put_refused.ensures
