use Rattle.std.proofs.Common.{sym, ◌∙◌}
use Rattle.explain.proofs.shown.is_sound.Goals as goal

pub returns-in-Owner : goal.returns-in-Owner
returns-in-Owner c = λ owners deeds shows.
    let told = c.owns.ensures owners deeds shows in
    (λ is. rw c.in-Owner.is (sym told ∙ is), λ sound. told ∙ (rw c.in-Owner.is at sound))
