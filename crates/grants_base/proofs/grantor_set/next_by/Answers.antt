use Rattle.std.proofs.Common.{Option, ◌∙◌, subst}
use Rattle.std.specs.Option.{option_to_list}
use Rattle.grants_base.specs.GrantorSet.{has_by}
use Rattle.grants_base.specs.Index.{IsFirst}
use Rattle.grants_base.specs.declared.grantor_set.Granted.{Granted}
use Rattle.grants_base.proofs.GrantorLaws.{item_of, next_in}
use Rattle.grants_base.proofs.grantor_set.next_by.Goals as goal

pub returns : goal.returns
returns c =
    next_in c.args.granted.now c.range.result c.args.grantor c.args.from c.slot_by.result (c.range.ensures.in_range tt)
    (subst (λ (first : Option Granted). IsFirst (has_by (option_to_list first) c.args.grantor) c.args.from c.slot_by.result)
    (c.copied.ensures ∙ item_of c.range.result c.next.new.self c.next.result c.next.ensures.steps) c.slot_by.ensures)
