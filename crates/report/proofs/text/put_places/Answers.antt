use Rattle.std.proofs.Common.{◌≡◌, ap, arith}
use Rattle.std.specs.Fmt.{decimal}
use Rattle.std.proofs.lemmas.Grind.{common_steps}
use Rattle.model_base.specs.Ranks.{place_of_rank}
use Rattle.model_base.proofs.Ranked.{place-at}
use Rattle.report.proofs.text.put_places.Goals as goal

pub loop-name-preserved : goal.loop-name-preserved
loop-name-preserved c =
    let here : decimal (place_of_rank c.name-item.result) ≡ decimal c.name.inside.place = ap decimal (place-at c.name.inside c.name-item.result c.name.view_is) in
    grind (arith, common_steps)
