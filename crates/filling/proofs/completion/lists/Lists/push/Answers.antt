use Rattle.std.proofs.Common.{◌≡◌, ◌++◌, ◌∷◌, [], List, ℕ, length, refl, ap, ◌∙◌, arith}
use Rattle.filling.proofs.Parts.{lists-more}
use Rattle.filling.proofs.completion.lists.Lists.push.Goals as goal

pub returns : goal.returns
returns c =
    let s = c.self.inside in
    let begin : c.len-begin.result ≡ length s.numbers.items = omega arith in
    lists-more s.numbers.items c.args.list.now c.extend_from_slice.new.self.items s.parts.items c.push.new.self.items c.len-begin.result (length c.args.list.now)
    c.self.invariant c.in_ok-extend_from_slice.ensures.items c.in_ok-push.ensures.items begin refl
    ∙ ap (λ (lists : List (List ℕ)). lists ++ c.args.list.now ∷ []) c.self.view_is
