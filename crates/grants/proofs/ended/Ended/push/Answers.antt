use Rattle.std.proofs.Common.{List, sym, ◌∙◌, ap, subst}
use Rattle.grants_base.specs.Index.{is_one_of}
use Rattle.grants_base.specs.Sides.{AreAscending}
use Rattle.grants.specs.Work.{Ends, slots_of}
use Rattle.grants_base.specs.declared.entries.End.{End}
use Rattle.grants.proofs.EndedLaws.{ascending_more}
use Rattle.grants.proofs.ended.Ended.push.Goals as goal

pub invariant_of-self-2 : goal.invariant_of-self-2
invariant_of-self-2 c =
    let old = c.self.inside.ends.items in
    let is = ap (λ (ended : Ends). ended.ends) c.self.view_is in
    subst (λ (ends : List End). AreAscending (slots_of ends)) (sym c.in_ok-push-2.ensures.items)
    (ascending_more old (record { slot = c.args.slot; place = c.args.place }) c.self.invariant
    (λ other one. c.requires other (ap (λ (ends : List End). is_one_of (slots_of ends) other) (sym is) ∙ one)))
