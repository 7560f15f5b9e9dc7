use Rattle.std.proofs.lemmas.Result.{on_ok_weaker}
use Rattle.summary.proofs.TextLemmas.{in-two}
use Rattle.summary.proofs.putting.put_refused.Goals as goal

pub returns : goal.returns
returns c = on_ok_weaker c.put_words.result (λ last. in-two c.args.text.now.items _ _ _ _ c.in_ok-put_count.ensures last) c.put_words.ensures
