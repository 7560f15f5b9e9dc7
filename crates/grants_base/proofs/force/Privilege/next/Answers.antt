use Rattle.std.proofs.Common.{subst}
use Rattle.grants_base.specs.Force.{Privilege, force_of, held_by_one, held_by_others, slots_given}
use Rattle.grants_base.specs.Index.{IsFirst, is_one_of}
use Rattle.grants_base.proofs.PrivilegeLaws.{next_of_both}
use Rattle.grants_base.proofs.force.Privilege.next.Goals as goal

pub returns-then-option-clause-slot : goal.returns-then-option-clause-slot
returns-then-option-clause-slot c =
    let inside = c.self.inside in
    let option = c.args.option in
    let one = held_by_one inside.one in
    let others = held_by_others inside.others in
    subst (λ (it : Privilege). IsFirst (is_one_of (force_of option it).slots) c.args.from c.lesser-slot.result) c.self.view_is
    (next_of_both option one others inside.lost inside.lost_with_option c.args.from c.lesser-slot.result
    (c.lesser-slot.ensures (is_one_of (slots_given option one)) (is_one_of (slots_given option others)) c.args.from c.slot_of.ensures c.next_other.ensures))

pub returns-else-option-clause-slot : goal.returns-else-option-clause-slot
returns-else-option-clause-slot c =
    let inside = c.self.inside in
    let option = c.args.option in
    let one = held_by_one inside.one in
    let others = held_by_others inside.others in
    subst (λ (it : Privilege). IsFirst (is_one_of (force_of option it).slots) c.args.from c.lesser-slot.result) c.self.view_is
    (next_of_both option one others inside.lost inside.lost_with_option c.args.from c.lesser-slot.result
    (c.lesser-slot.ensures (is_one_of (slots_given option one)) (is_one_of (slots_given option others)) c.args.from c.slot_of.ensures c.next_other.ensures))
