use Rattle.std.proofs.Common.{refl}
use Rattle.thread_trials.proofs.by_hand.stored.Goals as goal

pub fill_words-requires-clause-ready : goal.fill_words-requires-clause-ready
fill_words-requires-clause-ready g c other has =
    let none = rw (c.if-not-refers_to_none.false, c.key-key.ensures) at c.refers_to_none.ensures in
    none refl other (rw c.words-words.ensures at has)

pub end_and_finish-requires-clause-ready : goal.end_and_finish-requires-clause-ready
end_and_finish-requires-clause-ready g c other has =
    let none = rw (c.if-not-refers_to_none.false, c.key-key.ensures) at c.refers_to_none.ensures in
    none refl other (rw c.words-words.ensures at has)
