use Rattle.std.proofs.Common.{length, ◌-◌, ◌≡◌}
use Rattle.fed_run.specs.Stands.{Feeds, IsGivenOut}
use Rattle.fed_run.proofs.fed.FedRun.feed.Given as goal

-- what was taken and given so far, and that no line waits where all was given
abbrev pub invariant-lines : goal.invariant-lines
invariant-lines l = record {
  len : length l.out ≡ length l.initial.out;
  feeds : Feeds l.input l.out l.fn.self l.self l.step.used l.step.made;
  settled : IsGivenOut l.self l.out l.step.made;
  keep : l.self.keep ≡ l.fn.self.keep;
}

abbrev pub decreases-lines : goal.decreases-lines
decreases-lines l = length l.input - l.step.used
