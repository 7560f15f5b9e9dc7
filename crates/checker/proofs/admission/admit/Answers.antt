use Rattle.std.proofs.Common.{sym, ◌∙◌, ap}
use Rattle.model_base.specs.Outcomes.{needs}
use Rattle.checker.specs.Admission.{told_if}
use Rattle.checker.specs.Missing.{first_lacking}
use Rattle.checker.proofs.AdmissionLaws.{admitted_told, denied_by, lacks_none}
use Rattle.checker.proofs.MissingLaws.{none_missing}
use Rattle.checker.proofs.admission.admit.Goals as goal

pub returns-in-Some-clause-told : goal.returns-in-Some-clause-told
returns-in-Some-clause-told g c =
    let view = g.V.Records.shown c.args.view.now in
    let user = c.args.statement.now.user in
    denied_by view user (first_lacking view user (needs c.args.statement.now.form)) c.in-Some.lack c.in-Some.ensures.lack

pub returns-in-Some-clause-value : goal.returns-in-Some-clause-value
returns-in-Some-clause-value g c = λ owners deeds shows.
    let view = g.V.Records.shown c.args.view.now in
    let user = c.args.statement.now.user in
    returns-in-Some-clause-told g c
    ∙ admitted_told view user owners deeds shows (needs c.args.statement.now.form) c.requires.covered
    (λ need owned missing. c.shown_views_tell_causes.ensures view owners deeds user need shows owned missing)

pub returns-in-None-clause-told : goal.returns-in-None-clause-told
returns-in-None-clause-told g c =
    let view = g.V.Records.shown c.args.view.now in
    let user = c.args.statement.now.user in
    sym (ap (told_if view user) (lacks_none view user (first_lacking view user (needs c.args.statement.now.form)) c.in-None.ensures.lack))

pub returns-in-None-clause-value : goal.returns-in-None-clause-value
returns-in-None-clause-value g c = λ owners deeds shows.
    let view = g.V.Records.shown c.args.view.now in
    let user = c.args.statement.now.user in
    returns-in-None-clause-told g c
    ∙ admitted_told view user owners deeds shows (needs c.args.statement.now.form) c.requires.covered
    (λ need owned missing. c.shown_views_tell_causes.ensures view owners deeds user need shows owned missing)

pub returns-in-None-clause-held : goal.returns-in-None-clause-held
returns-in-None-clause-held g c = λ admitted.
    let view = g.V.Records.shown c.args.view.now in
    let user = c.args.statement.now.user in
    let needed = needs c.args.statement.now.form in
    none_missing view user needed (lacks_none view user (first_lacking view user needed) c.in-None.ensures.lack)
