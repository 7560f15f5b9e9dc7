use Rattle.std.proofs.Common.{ap, ◌∙◌}
use Rattle.grants_base.specs.View.{end_in, slot_at}
use Rattle.evaluation.specs.Seen.{seen_at, seen_view}
use Rattle.evaluation.specs.ReadSource.{Reader}
use Rattle.evaluation.proofs.records.record_shown.Goals as goal

pub returns-clause-end : goal.returns-clause-end
returns-clause-end g c =
    c.end_of_shown-end.ensures.value
    ∙ ap (λ (reader : Reader). end_in (slot_at (seen_view (seen_at c.args.batch.now reader.index)) c.args.slot)) c.grant_shown-grant.ensures.same.0
