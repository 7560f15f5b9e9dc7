use Rattle.std.proofs.Common.{◌≡◌, true, refl, sym, ◌∙◌}
use Rattle.model_base.specs.Privileges.{owns}
use Rattle.explain.proofs.shown.explain_need.Goals as goal

pub returns-then-owns : goal.returns-then-owns
returns-then-owns c = λ owners deeds shows.
    let own : owns owners c.args.user c.args.need.now.table ≡ true = sym (c.owns.ensures owners deeds shows) ∙ c.if-owns.true in
    rw own refl
