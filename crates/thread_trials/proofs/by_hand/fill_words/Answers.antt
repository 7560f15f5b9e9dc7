use Rattle.thread_trials.proofs.by_hand.fill_words.Goals as goal

pub fill-requires-clause-ready : goal.fill-requires-clause-ready
fill-requires-clause-ready g c other has = absurd (c.requires.ready other has)
