use Rattle.std.proofs.Common.{Bor, List, [], ℕ}
use Rattle.summary.proofs.TextLemmas.{words-more}
use Rattle.summary.proofs.putting.put_words.Goals as goal

pub loop-index-preserved : goal.loop-index-preserved
loop-index-preserved c =
    let none : Bor (List ℕ) = record { ref_ptr = (0, 0); now = [] } in
    words-more c.args.are_refusals c.args.words.now c.args.counts.now c.loop-index.index none c.args.text.now.items c.loop-index.text.items
    c.put_word.new.text.items c.loop-index-test.true c.loop-index.invariant c.in_ok-put_word.ensures
