use Rattle.std.proofs.Common.{◌≡◌, None, subst, sym, ◌∙◌}
use Rattle.std.specs.Prelude.{OnOk}
use Rattle.log_text.specs.Statement.{Sentence}
use Rattle.sequencer.specs.Catalog.{with_statement}
use Rattle.sequencer.specs.Refusal.{refusal}
use Rattle.sequencer.proofs.WholeLogs.{taken_parts}
use Rattle.sequencer.proofs.catalog.Catalog.admit.Goals as goal

pub returns-in-Create-clause-taken : goal.returns-in-Create-clause-taken
returns-in-Create-clause-taken c =
    (taken_parts _ _ c.args.statement.now _ _ _ c.form-2.ensures.grammar c.name-user.ensures (sym c.in-Create.is ∙ c.form-2.ensures.value)
    c.admit_create.ensures.passes c.admit_create.ensures.names).0

pub returns-in-Run-clause-taken : goal.returns-in-Run-clause-taken
returns-in-Run-clause-taken c =
    let passes = subst (λ (s : Sentence). OnOk c.admit_run.result (refusal c.args.self.now s ≡ None)) c.of-run.ensures c.admit_run.ensures.passes in
    let names = subst (λ (s : Sentence). OnOk c.admit_run.result (c.admit_run.new.self ≡ with_statement c.args.self.now s)) c.of-run.ensures c.admit_run.ensures.names in
    (taken_parts _ _ c.args.statement.now _ _ _ c.form-2.ensures.grammar c.name-user.ensures (sym c.in-Run.is ∙ c.form-2.ensures.value) passes names).0

pub returns-in-Run-clause-filled : goal.returns-in-Run-clause-filled
returns-in-Run-clause-filled c =
    let passes = subst (λ (s : Sentence). OnOk c.admit_run.result (refusal c.args.self.now s ≡ None)) c.of-run.ensures c.admit_run.ensures.passes in
    let names = subst (λ (s : Sentence). OnOk c.admit_run.result (c.admit_run.new.self ≡ with_statement c.args.self.now s)) c.of-run.ensures c.admit_run.ensures.names in
    (taken_parts _ _ c.args.statement.now _ _ _ c.form-2.ensures.grammar c.name-user.ensures (sym c.in-Run.is ∙ c.form-2.ensures.value) passes names).1

pub returns-in-Deed-clause-taken : goal.returns-in-Deed-clause-taken
returns-in-Deed-clause-taken c =
    (taken_parts _ _ c.args.statement.now _ _ _ c.form-2.ensures.grammar c.name-user.ensures (sym c.in-Deed.is ∙ c.form-2.ensures.value)
    c.admit_deed.ensures.passes c.admit_deed.ensures.names).0
