use Rattle.std.proofs.Common.{[]}
use Rattle.words.specs.Passes.{IsPassOf}
use Rattle.words.specs.Views.{Holds, In}
use Rattle.thread_trials.proofs.by_hand.fill_words.Given as goal

abbrev pub invariant-loop-number : goal.invariant-loop-number
invariant-loop-number g l = IsPassOf l.words l.holding × Holds l.holding.view l.index l.number [] × IsPassOf l.other l.known × In l.index l.known.view.known
