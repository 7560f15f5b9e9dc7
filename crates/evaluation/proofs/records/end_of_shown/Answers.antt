use Rattle.std.proofs.Common.{◌≡◌, ◌+◌, true, refl, sym, ap, ◌∙◌, subst}
use Rattle.model_base.specs.Records.{end_below}
use Rattle.bohm_core_base.specs.Batch.{is_listed, table_at}
use Rattle.bohm_core_base.specs.Serial.{whole_end}
use Rattle.log_batch.specs.Supplied.{batch_of}
use Rattle.evaluation.specs.ReadSource.{Reader}
use Rattle.evaluation.proofs.Shown.{reader-is}
use Rattle.evaluation.proofs.Slots.{end-some}
use Rattle.evaluation.proofs.records.end_of_shown.Goals as goal

pub end-requires-clause-listed : goal.end-requires-clause-listed
end-requires-clause-listed g c =
    let ranged = c.args.batch.now in
    let index = (g.T.ReadSource.as_reader c.args.source.now).index in
    let same = reader-is (g.T.ReadSource.as_reader c.args.source.now) (batch_of ranged) index c.requires.batch refl in
    let shown = end-some ranged c.log-log.ensures.of_log index c.args.slot c.grant-grant.result c.grant-grant.ensures c.in-Some.field-0 (sym c.in-Some.is ∙ c.requires.shown) in
    subst (λ (reader : Reader). is_listed (reader.batch.tables reader.index) (table_at reader.batch c.args.slot) ≡ true) (sym same) shown.0

pub returns-in-Some-clause-value : goal.returns-in-Some-clause-value
returns-in-Some-clause-value g c =
    let ranged = c.args.batch.now in
    let index = (g.T.ReadSource.as_reader c.args.source.now).index in
    let same = reader-is (g.T.ReadSource.as_reader c.args.source.now) (batch_of ranged) index c.requires.batch refl in
    let shown = end-some ranged c.log-log.ensures.of_log index c.args.slot c.grant-grant.result c.grant-grant.ensures c.in-Some.field-0 (sym c.in-Some.is ∙ c.requires.shown) in
    let place = ap (λ first. first + c.reader.result) c.first_place.ensures.value ∙ ap (λ at. ranged.first + at) (c.reader.ensures.value ∙ ap (λ (reader : Reader). reader.index) same) in
    c.end_below.ensures
    ∙ ap (λ at. end_below at c.end.result) place
    ∙ subst (λ (reader : Reader). end_below (reader.batch.first + reader.index) c.end.result ≡ end_below (reader.batch.first + reader.index) (whole_end reader.batch c.args.slot)) same c.end.ensures.value
    ∙ shown.1
