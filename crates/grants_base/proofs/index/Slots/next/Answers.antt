use Rattle.std.proofs.Common.{◌++◌, List, Option, ℕ, Some, sym, subst}
use Rattle.std.specs.Option.{option_to_list}
use Rattle.grants_base.specs.Index.{IsFirst, is_one_of}
use Rattle.grants_base.specs.Sides.{AreAscending}
use Rattle.grants_base.proofs.SlotsLaws.{first_at}
use Rattle.grants_base.proofs.index.Slots.next.Goals as goal

pub returns-in-Some : goal.returns-in-Some
returns-in-Some c =
    let later = c.self.inside.later.items in
    let rise = subst (λ (first : Option ℕ). AreAscending (option_to_list first ++ later)) c.in-Some.is (subst AreAscending (sym c.self.view_is) c.requires) in
    subst (λ (slots : List ℕ). IsFirst (is_one_of slots) c.args.from (Some c.in-Some.first)) c.self.view_is
    (subst (λ (first : Option ℕ). IsFirst (is_one_of (option_to_list first ++ later)) c.args.from (Some c.in-Some.first)) (sym c.in-Some.is)
    (first_at c.in-Some.first later c.args.from rise.0 c.if-from-first.true))
