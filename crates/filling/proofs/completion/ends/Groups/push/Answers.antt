use Rattle.std.proofs.Common.{List, ℕ, get_or, set, [], ◌∷◌, ◌++◌, ap, ◌∙◌, arith, ◌<◌, length}
use Rattle.filling.proofs.Grouped.{list-pushed}
use Rattle.filling.proofs.completion.ends.Groups.push.Goals as goal

pub returns-in_ok-push : goal.returns-in_ok-push
returns-in_ok-push c =
    let s = c.self.inside in
    let within : c.args.index < length s.lists.items = omega arith in
    list-pushed s.lists.items c.args.index c.push.new.self c.index_mut-list.result.now c.args.name within c.index_mut-list.ensures.value c.in_ok-push.ensures.items
    ∙ ap (λ (lists : List (List ℕ)). set lists c.args.index (get_or lists c.args.index [] ++ c.args.name ∷ [])) c.self.view_is
