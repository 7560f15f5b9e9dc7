use Rattle.std.proofs.Common.{◌≡◌, Some, true, false, refl, sym, ◌∙◌, ap}
use Rattle.std.specs.Option.{option_map_or}
use Rattle.model_base.specs.Outcomes.{cause}
use Rattle.model_base.specs.Privileges.{holds}
use Rattle.model_base.specs.declared.deed.Cause.TheVariants.{Never, Taken}
use Rattle.grants.proofs.LossLaws.{cause_told}
use Rattle.grants.proofs.Standings.{when_held, when_lost}
use Rattle.grants.proofs.ViewLaws.{held_after}
use Rattle.grants.proofs.loss.denial.Goals as goal

pub returns-in-Held-clause-value : goal.returns-in-Held-clause-value
returns-in-Held-clause-value g c = λ owners deeds shows.
    let view = g.V.Records.shown c.args.view.now in
    let held : holds owners deeds c.args.user c.args.need.now ≡ true =
    sym (held_after view owners deeds c.args.user c.args.need.now shows c.requires.covered) ∙ when_held _ _ c.in-Held.ensures.value in
    rw held refl

pub returns-in-Lost-Some-clause-value : goal.returns-in-Lost-Some-clause-value
returns-in-Lost-Some-clause-value g c = λ owners deeds shows.
    let view = g.V.Records.shown c.args.view.now in
    let lost = when_lost _ _ _ c.in-Lost-Some.ensures.value in
    let unheld : holds owners deeds c.args.user c.args.need.now ≡ false = sym (held_after view owners deeds c.args.user c.args.need.now shows c.requires.covered) ∙ lost.0 in
    let why : cause owners deeds c.args.user c.args.need.now ≡ Taken c.in-Lost-Some.place =
    cause_told view owners deeds c.args.user c.args.need.now shows c.requires.covered lost.0
    ∙ ap (λ found. option_map_or Taken found Never) (sym lost.1 ∙ c.in-Lost-Some.field-0-is) in
    rw unheld (ap Some (sym why))

pub returns-in-Lost-None-clause-value : goal.returns-in-Lost-None-clause-value
returns-in-Lost-None-clause-value g c = λ owners deeds shows.
    let view = g.V.Records.shown c.args.view.now in
    let lost = when_lost _ _ _ c.in-Lost-None.ensures.value in
    let unheld : holds owners deeds c.args.user c.args.need.now ≡ false = sym (held_after view owners deeds c.args.user c.args.need.now shows c.requires.covered) ∙ lost.0 in
    let why : cause owners deeds c.args.user c.args.need.now ≡ Never =
    cause_told view owners deeds c.args.user c.args.need.now shows c.requires.covered lost.0
    ∙ ap (λ found. option_map_or Taken found Never) (sym lost.1 ∙ c.in-Lost-None.field-0-is) in
    rw unheld (ap Some (sym why))
