use Rattle.std.proofs.Common.{sym, ◌∙◌, subst, inl, inr}
use Rattle.std.proofs.lemmas.Bool.{or_cases}
use Rattle.std.proofs.lemmas.List.Elements.{All-set}
use Rattle.model_base.specs.Privileges.{has_kind}
use Rattle.engine.specs.Held.{AreHeld, IsHeld}
use Rattle.engine.proofs.Holding.{has_kinds}
use Rattle.engine.proofs.held.HeldNeeds.remember_access.Goals as goal

pub returns-then-index-len : goal.returns-then-index-len
returns-then-index-len c = λ book are all.
    let inside = c.self.inside in
    let before = subst (AreHeld book) (sym c.self.view_is) are in
    All-set (IsHeld book inside.revocations) inside.pairs.items c.index_of-index.result
    (record { user = c.args.user; table = c.args.access.now.key.table; kinds = c.joined-kinds.result; revocations = inside.revocations })
    (λ same kind has.
    elim (or_cases (has_kind c.kinds.result kind) (has_kind c.args.access.now.kinds kind) (sym (c.joined-kinds.ensures kind) ∙ has)) [
      | inl known ↦ c.kinds.ensures book are kind known
      | inr found ↦ has_kinds book c.args.user c.args.access.now all kind found
    ])
    before
