use Rattle.std.proofs.Common.{sym, ◌∙◌}
use Rattle.grants_base.proofs.SlotSetLaws.{none_left, taken_above, taken_first}
use Rattle.grants_base.proofs.slot_set.SlotSet.pop_first.Goals as goal

pub returns-in-Some-clause-removal : goal.returns-in-Some-clause-removal
returns-in-Some-clause-removal c =
    let popped = c.pop_first-self-inside in
    sym c.self.view_is
    ∙ taken_first c.in-Some.slot c.self.inside.least popped.result c.self.inside.others.keys popped.new.self.keys c.in-Some.is popped.ensures.removal popped.ensures.unchanged

pub returns-in-Some-clause-above : goal.returns-in-Some-clause-above
returns-in-Some-clause-above c =
    let popped = c.pop_first-self-inside in
    taken_above c.in-Some.slot c.self.inside.least popped.result c.self.inside.others.keys popped.new.self.keys c.in-Some.is c.self.invariant popped.ensures.removal popped.ensures.unchanged

pub returns-in-None-clause-none : goal.returns-in-None-clause-none
returns-in-None-clause-none c = sym c.self.view_is ∙ none_left c.self.inside.least c.self.inside.others.keys c.in-None.is c.self.invariant

pub returns-in-None-clause-same : goal.returns-in-None-clause-same
returns-in-None-clause-same c = sym c.self.view_is ∙ none_left c.self.inside.least c.self.inside.others.keys c.in-None.is c.self.invariant
