use Rattle.std.proofs.Common.{◌-◌, ◌∙◌, arith, drop, length, refl, take}
use Rattle.std.proofs.lemmas.List.{take_rest}
use Rattle.fed_run.proofs.Feeding.{takes_more, takes_none}
use Rattle.fed_run.proofs.fed.FedRun.take_lines.Goals as goal

pub lines-init : goal.lines-init
lines-init c = record {
  takes = takes_none c.args.input.now c.args.self.now c.args.step.now.used c.requires.within;
  still = λ _. refl;
  made = refl;
  unsent = refl;
  ended = refl;
  keep = refl;
}

pub lines-preserved : goal.lines-preserved
lines-preserved c =
    let input = c.args.input.now in
    let used = c.lines.step.used in
    let took = c.in_ok-step.ensures in
    record {
      takes = takes_more input (take (length input - used) (drop used input)) c.args.self.now c.lines.self c.take.new.self c.args.step.now.used used
          c.in_ok-step.field-0 c.lines.invariant.takes (take_rest input used) took.count.1 took.stands;
      still = λ same. absurd (omega (arith, same, c.lines.invariant.takes.forward, took.count.0));
      made = c.lines.invariant.made;
      unsent = c.take.ensures.unsent ∙ c.lines.invariant.unsent;
      ended = c.take.ensures.ended ∙ c.lines.invariant.ended;
      keep = c.take.ensures.keep ∙ c.lines.invariant.keep;
    }
