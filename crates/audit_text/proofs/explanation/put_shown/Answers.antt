use Rattle.std.proofs.Common.{◌++◌, ◌∙◌, ℕ, List, ap, append_assoc, sym}
use Rattle.std.proofs.lemmas.Result.{on_ok_weaker}
use Rattle.model_base.specs.declared.deed.Cause.TheVariants.{Taken}
use Rattle.report.specs.Text.{cause_text}
use Rattle.audit_text.specs.Explanation.{grants_text}
use Rattle.audit_text.proofs.explanation.put_shown.Goals as goal

pub returns-in-Grants : goal.returns-in-Grants
returns-in-Grants c = rw (c.in-Grants.is, sym c.as_slice.ensures) c.put_grants.ensures

pub returns-in_ok-put_cause-in-Taken : goal.returns-in_ok-put_cause-in-Taken
returns-in_ok-put_cause-in-Taken c =
    let run = c.args.engine.now in
    let chain : List ℕ = grants_text run.log.statements run.log.names c.as_slice-in-Taken.result.now in
    rw (c.in-Taken.is, sym c.as_slice-in-Taken.ensures)
    (on_ok_weaker c.put_grants-in-Taken.result
    (λ told may.
    told may ∙ ap (λ (text : List ℕ). text ++ chain) c.in_ok-put_cause-in-Taken.ensures
    ∙ append_assoc c.args.text.now.items (cause_text (Taken c.in-Taken.lost)) chain)
    c.put_grants-in-Taken.ensures)
