use Rattle.std.proofs.Common.{◌≡◌, subst, sym, ◌∙◌}
use Rattle.std.specs.Prelude.{IfSome, OnSome}
use Rattle.log_text.specs.Statement.{Sentence}
use Rattle.sequencer.specs.Foretelling.{Knows, foretold_as}
use Rattle.sequencer.proofs.Foretold.{foretells_parts}
use Rattle.sequencer.proofs.catalog.Catalog.foretell_whole.Goals as goal

pub returns-in-Run : goal.returns-in-Run
returns-in-Run c =
    let knows = subst (λ (s : Sentence). OnSome c.foretell_run.result (Knows c.args.self.now s)) c.of-run.ensures c.foretell_run.ensures.knows in
    let number = subst (λ (s : Sentence). IfSome c.foretell_run.result (λ f. f ≡ foretold_as c.args.self.now s)) c.of-run.ensures c.foretell_run.ensures.number in
    foretells_parts c.args.self.now c.args.statement.now _ _ _ c.tables-tables.ensures.columns c.name-user.ensures
    (sym c.in-Run.is ∙ c.form-2.ensures.value) knows number

pub returns-in-Deed : goal.returns-in-Deed
returns-in-Deed c =
    foretells_parts c.args.self.now c.args.statement.now _ _ _ c.tables-tables.ensures.columns c.name-user.ensures
    (sym c.in-Deed.is ∙ c.form-2.ensures.value) c.foretell_deed.ensures.knows c.foretell_deed.ensures.number
