use Rattle.std.proofs.Common.{◌≡◌, arith}
use Rattle.std.proofs.lemmas.Grind.{common_steps}
use Rattle.model_base.specs.Ranks.{place_of_rank}
use Rattle.model_base.specs.RecordNames.{kind_of_rank}
use Rattle.model_base.proofs.Ranked.{kind-at, place-at}
use Rattle.report.proofs.text.put_place_and_kind.Goals as goal

pub returns : goal.returns
returns c =
    let place : place_of_rank c.args.name ≡ c.name.inside.place = place-at c.name.inside c.args.name c.name.view_is in
    let kind : kind_of_rank c.args.name ≡ c.name.inside.kind = kind-at c.name.inside c.args.name c.name.view_is in
    rw (place, kind) (grind (arith, common_steps))
