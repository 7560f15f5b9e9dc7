use Rattle.std.proofs.Common.{◌≡◌, rules}
use Rattle.explain.proofs.checked.explains.Goals as goal

pub returns-then-eq : goal.returns-then-eq
returns-then-eq c = λ owners deeds shows.
    let same : c.args.line.now.need ≡ c.args.need.now = search rules in
    let told = c.is_sound.ensures owners deeds shows in
    (λ is. (same, told.0 is), λ explains. told.1 explains.1)
