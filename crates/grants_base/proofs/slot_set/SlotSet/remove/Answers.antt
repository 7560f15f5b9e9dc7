use Rattle.std.proofs.Common.{◌++◌, ℕ, List, subst}
use Rattle.std.specs.Option.{option_to_list}
use Rattle.grants_base.specs.SlotSet.{HasLost}
use Rattle.grants_base.proofs.SlotSetLaws.{above_lost, least_apart, least_same, popped_lost, set_lost, whole_lost}
use Rattle.grants_base.proofs.slot_set.SlotSet.remove.Goals as goal

pub invariant_of-self-else-eq : goal.invariant_of-self-else-eq
invariant_of-self-else-eq c =
    above_lost c.self.inside.least c.args.slot c.self.inside.others.keys c.remove.new.self.keys
    (set_lost c.self.inside.others c.remove.new.self c.args.slot c.remove.ensures.updates) c.self.invariant

pub returns-then-eq : goal.returns-then-eq
returns-then-eq c =
    let least = c.self.inside.least in
    let old = c.self.inside.others.keys in
    let popped = c.pop_first-self-inside in
    subst (λ (all : List ℕ). HasLost c.args.slot all (option_to_list popped.result ++ popped.new.self.keys)) c.self.view_is
    (popped_lost c.args.slot least popped.result old popped.new.self.keys (least_same least c.args.slot c.if-eq.ensures) c.self.invariant popped.ensures.removal popped.ensures.unchanged)

pub returns-else-eq : goal.returns-else-eq
returns-else-eq c =
    let least = c.self.inside.least in
    let others = c.self.inside.others in
    subst (λ (old : List ℕ). HasLost c.args.slot old (option_to_list least ++ c.remove.new.self.keys)) c.self.view_is
    (whole_lost least c.args.slot others.keys c.remove.new.self.keys (set_lost others c.remove.new.self c.args.slot c.remove.ensures.updates)
    (least_apart least c.args.slot c.if-eq.ensures))
