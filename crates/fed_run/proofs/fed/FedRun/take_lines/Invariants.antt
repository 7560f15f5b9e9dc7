use Rattle.std.proofs.Common.{length, ◌-◌, ◌≡◌}
use Rattle.fed_run.specs.Stands.{TakesBytes, unsent}
use Rattle.fed_run.proofs.fed.FedRun.take_lines.Given as goal

-- lines were taken, and before the first one no further line waits
abbrev pub invariant-lines : goal.invariant-lines
invariant-lines l = record {
  takes : TakesBytes l.input l.initial.self l.self l.initial.step.used l.step.used;
  still : l.step.used ≡ l.initial.step.used → l.self.run.waiting.items ≡ l.initial.self.run.waiting.items;
  made : l.step.made ≡ l.initial.step.made;
  unsent : unsent l.self ≡ unsent l.initial.self;
  ended : l.self.is_ended ≡ l.initial.self.is_ended;
  keep : l.self.keep ≡ l.initial.self.keep;
}

abbrev pub decreases-lines : goal.decreases-lines
decreases-lines l = length l.input - l.step.used
