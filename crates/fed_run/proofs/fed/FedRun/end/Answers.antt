use Rattle.std.proofs.Common.{◌∙◌, [], ℕ, List}
use Rattle.fed_run.proofs.Feeding.{feeds_last, feeds_same}
use Rattle.fed_run.proofs.FedTexts.{keeps_stays, stands_last, stands_same}
use Rattle.fed_run.proofs.Lines.{something_in}
use Rattle.fed_run.proofs.fed.FedRun.end.Goals as goal

pub returns-in_err-take_line-clause-feeds : goal.returns-in_err-take_line-clause-feeds
returns-in_err-take_line-clause-feeds c =
    let nothing : List ℕ = [] in
    let mid = c.feed.new.self in
    let next = c.take_line.new.self in
    let all = c.take_line.ensures in
    feeds_same nothing c.feed.new.out c.args.self.now mid next c.feed.new.step.used c.feed.new.step.made c.feed.ensures.feeds
    (stands_same mid next c.in_err-take_line.ensures.kept all.ended (keeps_stays _ _ c.in_err-take_line.ensures.still) all.unsent) all.ended

pub returns-in_err-step-clause-feeds : goal.returns-in_err-step-clause-feeds
returns-in_err-step-clause-feeds c =
    let nothing : List ℕ = [] in
    let mid = c.feed.new.self in
    let next = c.take_line.new.self in
    let all = c.take_line.ensures in
    let took = c.in_ok-take_line.ensures in
    feeds_last nothing c.feed.new.out c.make.new.out c.args.self.now mid next c.make.new.self c.feed.new.step.used c.feed.new.step.made c.feed.new.step.made c.feed.ensures.feeds
    (stands_last mid next took.begun all.ended all.unsent (c.feed.ensures.feeds.ended ∙ c.requires.ended)
    (something_in mid.begun.items mid.begun.len c.is_empty.result mid.begun.ok.0 c.is_empty.ensures c.if-is_empty.false) took.ok) all.ended
    c.in_err-step.ensures.stands

pub returns-clause-feeds : goal.returns-clause-feeds
returns-clause-feeds c =
    let nothing : List ℕ = [] in
    let mid = c.feed.new.self in
    let next = c.take_line.new.self in
    let all = c.take_line.ensures in
    let took = c.in_ok-take_line.ensures in
    feeds_last nothing c.feed.new.out c.make.new.out c.args.self.now mid next c.make.new.self c.feed.new.step.used c.feed.new.step.made c.in_ok-step.field-0 c.feed.ensures.feeds
    (stands_last mid next took.begun all.ended all.unsent (c.feed.ensures.feeds.ended ∙ c.requires.ended)
    (something_in mid.begun.items mid.begun.len c.is_empty.result mid.begun.ok.0 c.is_empty.ensures c.if-is_empty.false) took.ok) all.ended
    c.in_ok-step.ensures.gives
