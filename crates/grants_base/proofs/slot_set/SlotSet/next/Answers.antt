use Rattle.std.proofs.Common.{◌≡◌, ◌++◌, ℕ, List, Option, Some, None, sym, ◌∙◌, subst, arith}
use Rattle.std.specs.Option.{option_to_list}
use Rattle.grants_base.specs.Index.{IsFirst, is_one_of}
use Rattle.grants_base.proofs.SlotSetLaws.{first_in, first_least, item_of}
use Rattle.grants_base.proofs.SlotsLaws.{first_later}
use Rattle.grants_base.proofs.slot_set.SlotSet.next.Goals as goal

pub returns-in-Some : goal.returns-in-Some
returns-in-Some c =
    let others = c.self.inside.others in
    let found =
    subst (λ (first : Option ℕ). IsFirst (is_one_of others.keys) c.args.from first)
    (sym (item_of c.range.result c.next.new.self c.next.result c.next.ensures.steps) ∙ sym c.copied.ensures)
    (first_in c.args.from others c.range.result (c.range.ensures.in_range tt)) in
    subst (λ (slots : List ℕ). IsFirst (is_one_of slots) c.args.from c.copied.result) c.self.view_is
    (subst (λ (first : Option ℕ). IsFirst (is_one_of (option_to_list first ++ others.keys)) c.args.from c.copied.result) (sym c.in-Some.is)
    (first_later c.in-Some.least others.keys c.args.from c.copied.result c.if-least-from.true found))

pub returns-in-Some-2 : goal.returns-in-Some-2
returns-in-Some-2 c =
    let others = c.self.inside.others.keys in
    subst (λ (slots : List ℕ). IsFirst (is_one_of slots) c.args.from (Some c.in-Some-2.least)) c.self.view_is
    (subst (λ (least : Option ℕ). IsFirst (is_one_of (option_to_list c.self.inside.least ++ others)) c.args.from least) c.in-Some-2.is
    (first_least c.self.inside.least others c.args.from c.self.invariant
    (λ low is. let same : c.in-Some.least ≡ low = some_same (sym c.in-Some.is ∙ is) in omega (arith, same, c.if-least-from.false))))
  where
    some_same : {a b : ℕ} → Some a ≡ Some b → a ≡ b
    some_same is = cc

pub returns-in-None : goal.returns-in-None
returns-in-None c =
    let others = c.self.inside.others.keys in
    subst (λ (slots : List ℕ). IsFirst (is_one_of slots) c.args.from None) c.self.view_is
    (subst (λ (least : Option ℕ). IsFirst (is_one_of (option_to_list c.self.inside.least ++ others)) c.args.from least) c.in-None.is
    (first_least c.self.inside.least others c.args.from c.self.invariant (λ low is. absurd (none (sym c.in-None.is ∙ is)))))
  where
    none : {a : ℕ} → None ≡ Some a → ⊥
    none is = cc
