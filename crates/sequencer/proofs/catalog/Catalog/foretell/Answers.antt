use Rattle.std.proofs.Common.{sym, ◌≡◌, ap}
use Rattle.log_text.specs.LineBuffers.{other_or_run, sentence_of}
use Rattle.log_text.specs.Statement.{Sentence}
use Rattle.log_text.specs.declared.statement.RawForm.{RawForm}
use Rattle.log_text.specs.declared.statement.RawForm.TheVariants.{Run}
use Rattle.sequencer.proofs.Foretold.{foretells_parts}
use Rattle.sequencer.proofs.catalog.Catalog.foretell.Goals as goal

pub returns : goal.returns
returns c =
    let read = c.args.read.now in
    let form : RawForm = Run read.accesses.items read.steps.items read.deed in
    let one : Sentence = record { user = read.user; form = form } in
    let is : sentence_of read ≡ one = ap (λ other. other_or_run other read.user read.accesses.items read.steps.items read.deed) c.in_default.is in
    foretells_parts c.args.self.now (sentence_of read) read.user form c.foretell_run.result c.tables-tables.ensures.columns
    (ap (λ (s : Sentence). s.user) (sym is)) (ap (λ (s : Sentence). s.form) (sym is))
    (rw (c.deref.ensures.value, c.deref-2.ensures.value) at c.foretell_run.ensures.knows)
    (rw (c.deref.ensures.value, c.deref-2.ensures.value) at c.foretell_run.ensures.number)
