use Rattle.std.proofs.Common.{◌++◌, ◌∷◌, [], List, Option, ℕ, sym, ◌∙◌, ap}
use Rattle.privileges.specs.declared.spanning.Span.{Span}
use Rattle.privileges.proofs.Joined.{joined_after, joined_later, joined_longer}
use Rattle.privileges.proofs.spanning.join.Goals as goal

pub returns-in_ok-push-in-Some-clause-apart : goal.returns-in_ok-push-in-Some-clause-apart
returns-in_ok-push-in-Some-clause-apart c =
    joined_longer c.args.spans.now.items c.pop.new.self.items c.in-Some.last c.args.span c.push.new.self.items c.in-Some.ensures.items
    (c.in_ok-push-in-Some.ensures.items
    ∙ ap (λ (to : Option ℕ). c.pop.new.self.items ++ record { from = c.in-Some.last.from; to = to } ∷ []) c.later_end.ensures)
    c.requires.apart

pub returns-in_ok-push-in-Some-clause-later : goal.returns-in_ok-push-in-Some-clause-later
returns-in_ok-push-in-Some-clause-later c =
    joined_later c.args.spans.now.items c.pop.new.self.items c.in-Some.last c.args.span c.push.new.self.items c.in-Some.ensures.items
    (c.in_ok-push-in-Some.ensures.items
    ∙ ap (λ (to : Option ℕ). c.pop.new.self.items ++ record { from = c.in-Some.last.from; to = to } ∷ []) c.later_end.ensures)
    c.requires.later

pub returns-in_ok-push-in-Some-2-2-clause-apart : goal.returns-in_ok-push-in-Some-2-2-clause-apart
returns-in_ok-push-in-Some-2-2-clause-apart c =
    joined_after c.args.spans.now.items c.pop.new.self.items c.in-Some.last c.args.span c.push-in-Some-2-2.new.self.items c.in-Some.ensures.items
    (c.in_ok-push-in-Some-2-2.ensures.items ∙ ap (λ (spans : List Span). spans ++ c.args.span ∷ []) c.in_ok-push-in-Some-2.ensures.items)
    (sym c.lasts_until.ensures ∙ c.if-lasts_until.false) c.requires.later c.requires.lasts c.requires.apart
