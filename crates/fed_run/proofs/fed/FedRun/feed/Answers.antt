use Rattle.std.proofs.Common.{◌∙◌, refl}
use Rattle.fed_run.proofs.Feeding.{feeds_lines, feeds_started, feeds_takes}
use Rattle.fed_run.proofs.fed.FedRun.feed.Goals as goal

pub returns-in_err-start-clause-feeds : goal.returns-in_err-start-clause-feeds
returns-in_err-start-clause-feeds c =
    feeds_started c.args.input.now c.args.out.now c.start.new.out c.args.self.now c.start.new.self c.start.new.step.used c.start.new.step.made
    (c.start.ensures.used ∙ c.requires.used) c.start.ensures.gives

pub lines-init : goal.lines-init
lines-init c = record {
  len = refl;
  feeds = feeds_started c.args.input.now c.args.out.now c.start.new.out c.args.self.now c.start.new.self c.start.new.step.used c.start.new.step.made
      (c.start.ensures.used ∙ c.requires.used) c.start.ensures.gives;
  settled = c.in_ok-start.ensures.settled;
  keep = c.start.ensures.keep;
}

pub returns-in_err-take_lines-clause-feeds : goal.returns-in_err-take_lines-clause-feeds
returns-in_err-take_lines-clause-feeds c =
    feeds_takes c.args.input.now c.lines.out c.args.self.now c.lines.self c.take_lines.new.self c.lines.step.used c.take_lines.new.step.used c.lines.step.made c.take_lines.new.step.made
    c.lines.invariant.feeds c.take_lines.ensures.takes c.take_lines.ensures.ended c.take_lines.ensures.made

pub returns-in_err-step-clause-feeds : goal.returns-in_err-step-clause-feeds
returns-in_err-step-clause-feeds c =
    feeds_lines c.args.input.now c.lines.out c.make.new.out c.args.self.now c.lines.self c.take_lines.new.self c.make.new.self
    c.lines.step.used c.take_lines.new.step.used c.lines.step.made c.take_lines.new.step.made c.take_lines.new.step.made c.lines.invariant.feeds
    c.take_lines.ensures.takes c.take_lines.ensures.ended c.take_lines.ensures.made c.in_err-step.ensures.stands

pub lines-preserved : goal.lines-preserved
lines-preserved c =
    let made = c.in_ok-step.ensures in
    record {
      len = made.gives.len ∙ c.lines.invariant.len;
      feeds = feeds_lines c.args.input.now c.lines.out c.make.new.out c.args.self.now c.lines.self c.take_lines.new.self c.make.new.self
          c.lines.step.used c.take_lines.new.step.used c.lines.step.made c.take_lines.new.step.made c.in_ok-step.field-0 c.lines.invariant.feeds
          c.take_lines.ensures.takes c.take_lines.ensures.ended c.take_lines.ensures.made made.gives;
      settled = made.settled;
      keep = c.make.ensures.keep ∙ c.take_lines.ensures.keep ∙ c.lines.invariant.keep;
    }
