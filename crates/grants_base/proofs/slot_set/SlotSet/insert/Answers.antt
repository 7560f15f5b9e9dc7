use Rattle.std.proofs.Common.{◌++◌, ℕ, List, Option, sym, subst}
use Rattle.std.specs.Option.{option_to_list}
use Rattle.grants_base.specs.SlotSet.{AreAbove, HasGained}
use Rattle.grants_base.proofs.SlotSetLaws.{above_gained, above_least, set_gained, whole_gained}
use Rattle.grants_base.proofs.slot_set.SlotSet.insert.Goals as goal

pub invariant_of-self-then-slot-least : goal.invariant_of-self-then-slot-least
invariant_of-self-then-slot-least c =
    let others = c.self.inside.others in
    let above = subst (λ (least : Option ℕ). AreAbove least others.keys) c.in-Some.is c.self.invariant in
    above_gained c.args.slot c.in-Some.least others.keys c.insert.new.self.keys
    (set_gained others c.insert.new.self c.in-Some.least c.in_ok-insert-in-Some.ensures.updates)
    c.if-slot-least.true (above_least c.args.slot c.in-Some.least others.keys c.if-slot-least.true above)

pub invariant_of-self-then-least-slot : goal.invariant_of-self-then-least-slot
invariant_of-self-then-least-slot c =
    let others = c.self.inside.others in
    let above = subst (λ (least : Option ℕ). AreAbove least others.keys) c.in-Some-2.is c.self.invariant in
    subst (λ (least : Option ℕ). AreAbove least c.insert-in-Some-2.new.self.keys) (sym c.in-Some-2.is)
    (above_gained c.in-Some-2.least c.args.slot others.keys c.insert-in-Some-2.new.self.keys
    (set_gained others c.insert-in-Some-2.new.self c.args.slot c.in_ok-insert-in-Some-2.ensures.updates) c.if-least-slot.true above)

pub returns-in_ok-insert-in-Some-2-clause-ok : goal.returns-in_ok-insert-in-Some-2-clause-ok
returns-in_ok-insert-in-Some-2-clause-ok c =
    let least = c.self.inside.least in
    let others = c.self.inside.others in
    subst (λ (old : List ℕ). HasGained c.args.slot old (option_to_list least ++ c.insert-in-Some-2.new.self.keys)) c.self.view_is
    (whole_gained least c.args.slot others.keys c.insert-in-Some-2.new.self.keys
    (set_gained others c.insert-in-Some-2.new.self c.args.slot c.in_ok-insert-in-Some-2.ensures.updates))
