use Rattle.std.proofs.Common.{Option, List, [], ap, codes, ◌∙◌}
use Rattle.std.proofs.lemmas.Result.{IfOk-weaker}
use Rattle.std.specs.Prelude.{unwrap_or}
use Rattle.clap.specs.Words.{Text, found_of}
use Rattle.clap.proofs.WalkLemmas.{raw_values-rows}
use Rattle.command_line.specs.Places.{places_told}
use Rattle.command_line.proofs.places.places_of.Goals as goal

pub returns-in-Some : goal.returns-in-Some
returns-in-Some c =
    let words = c.in-Some.ensures ∙ raw_values-rows (found_of c.args.found.now) (codes "PLACE") in
    IfOk-weaker c.places_told.result _ _ (λ told is. is ∙ ap (λ (found : Option (List Text)). places_told (unwrap_or found [])) words) c.places_told.ensures

pub returns-in-None : goal.returns-in-None
returns-in-None c =
    let words = c.in-None.ensures ∙ raw_values-rows (found_of c.args.found.now) (codes "PLACE") in
    IfOk-weaker c.places_told-in-None.result _ _ (λ told is. is ∙ ap (λ (found : Option (List Text)). places_told (unwrap_or found [])) words) c.places_told-in-None.ensures
