use Rattle.std.proofs.Common.{◌≡◌, ◌-◌, ℕ, ap, ◌∙◌, subst}
use Rattle.log_batch.specs.Supplied.{LogRange}
use Rattle.filling.specs.Keys.{Key}
use Rattle.filling.specs.Runs.{RanMeans}
use Rattle.filling.proofs.running.run_place.Goals as goal

pub returns-clause-tells : goal.returns-clause-tells
returns-clause-tells c =
    let ranged = c.args.batch.now.key.batch in
    let first : c.first_place-first.result ≡ ranged.first = c.first_place-first.ensures.value ∙ ap (λ (r : LogRange). r.first) c.batch.ensures ∙ ap (λ (k : Key). k.batch.first) c.key.ensures in
    subst (λ (n : ℕ). RanMeans ranged (c.args.place - n) c.args.pass.view c.run_index.result.1 c.run_index.result.0.view) first c.run_index.ensures.tells
