use Rattle.std.proofs.Common.{◌≡◌, ◌++◌, ◌∙◌, ℕ, List, ap, append_assoc, subst, sym}
use Rattle.std.specs.Prelude.{codes}
use Rattle.std.proofs.lemmas.Result.{on_ok_weaker}
use Rattle.engine.specs.Engine.{finished}
use Rattle.report.specs.Text.{HaveGrantees, records_text}
use Rattle.sequencer.specs.Catalog.{Names}
use Rattle.sequencer.specs.Log.{Accepted}
use Rattle.audit_text.proofs.SpelledRecords.{have_grantees}
use Rattle.audit_text.proofs.explanation.put_grants.Goals as goal

pub returns : goal.returns
returns c =
    let run = c.args.engine.now in
    let log : Accepted = run.log in
    let ranks : List ℕ = c.args.names.now in
    let names : c.catalog.result.now ≡ log.names = c.catalog.ensures ∙ ap (λ (l : Accepted). l.names) c.log.ensures.value in
    on_ok_weaker c.put_records.result
    (λ told may.
    let have : HaveGrantees log.names.version log.statements ranks c.in_ok-grantees.grantees.items =
    have_grantees log (finished run) ranks c.in_ok-grantees.grantees.items c.in_ok-grantees.ensures may in
    let known : HaveGrantees c.catalog.result.now.version log.statements ranks c.deref.result.now =
    subst (λ (n : Names). HaveGrantees n.version log.statements ranks c.deref.result.now) (sym names)
    (subst (HaveGrantees log.names.version log.statements ranks) (sym c.deref.ensures.value) have) in
    told log.statements known
    ∙ ap (λ (n : Names). c.extend_from_slice.new.self.items ++ records_text log.statements n ranks) names
    ∙ ap (λ (w : List ℕ). w ++ records_text log.statements log.names ranks) c.in_ok-extend_from_slice.ensures.items
    ∙ append_assoc c.args.text.now.items (codes " grants") (records_text log.statements log.names ranks))
    c.put_records.ensures
