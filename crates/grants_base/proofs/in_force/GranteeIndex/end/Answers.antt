use Rattle.std.proofs.Common.{sym, ◌∙◌, subst}
use Rattle.grants_base.specs.Book.{end_slot}
use Rattle.grants_base.specs.Force.{IsWithdrawn}
use Rattle.grants_base.specs.InForce.{IsChanged}
use Rattle.grants_base.specs.Sides.{to_side}
use Rattle.grants_base.specs.declared.grantor_set.Granted.{Granted}
use Rattle.grants_base.specs.declared.index.HolderKey.{HolderKey}
use Rattle.grants_base.proofs.Keeping.{keeps_ended, none_of}
use Rattle.grants_base.proofs.in_force.GranteeIndex.end.Goals as goal

pub returns-then-is_some-clause-kept : goal.returns-then-is_some-clause-kept
returns-then-is_some-clause-kept c = λ entries at keeps. c.forget.ensures.kept (end_slot entries c.args.slot c.args.place)

pub returns-else-not-take-clause-kept : goal.returns-else-not-take-clause-kept
returns-else-not-take-clause-kept c = λ entries at keeps.
    let grant = c.args.entry.now.grant in
    keeps_ended c.args.self.now c.take.new.self c.take.ensures.whole entries keeps c.args.slot c.args.place c.args.entry.now at
    (none_of c.args.entry.now.end (sym c.is_some.ensures ∙ c.if-is_some.false))
    (subst (λ (granted : Granted). IsChanged (to_side grant) (IsWithdrawn granted c.args.place grant.option) c.args.self.now c.take.new.self) c.granted_at.ensures
    (subst (λ (side : HolderKey). IsChanged side (IsWithdrawn c.granted_at.result c.args.place grant.option) c.args.self.now c.take.new.self) c.to_side.ensures (c.take.ensures.taken c.if-not-take.false)))
