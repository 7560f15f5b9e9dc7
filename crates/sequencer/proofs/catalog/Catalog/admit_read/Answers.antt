use Rattle.std.proofs.Common.{sym, ◌≡◌, ap}
use Rattle.log_text.specs.LineBuffers.{other_or_run, sentence_of}
use Rattle.log_text.specs.Statement.{Sentence}
use Rattle.log_text.specs.declared.statement.RawForm.TheVariants.{Run}
use Rattle.sequencer.proofs.WholeLogs.{taken_parts}
use Rattle.sequencer.proofs.catalog.Catalog.admit_read.Goals as goal

pub returns-clause-ok : goal.returns-clause-ok
returns-clause-ok c = rw c.requires.run (rw (c.deref.ensures.value, c.deref-2.ensures.value) at c.admit_run.ensures.ok)

pub returns-clause-taken : goal.returns-clause-taken
returns-clause-taken c =
    let read = c.args.read.now in
    let one : Sentence = record { user = read.user; form = Run read.accesses.items read.steps.items read.deed } in
    let is : sentence_of read ≡ one = ap (λ other. other_or_run other read.user read.accesses.items read.steps.items read.deed) c.requires.run in
    let passes = rw (c.deref.ensures.value, c.deref-2.ensures.value) at c.admit_run.ensures.passes in
    (taken_parts c.args.self.now _ (sentence_of read) _ _ _ c.requires.grammar (ap (λ (s : Sentence). s.user) (sym is))
    (ap (λ (s : Sentence). s.form) (sym is)) passes c.admit_run.ensures.names).0

pub returns-clause-filled : goal.returns-clause-filled
returns-clause-filled c =
    let read = c.args.read.now in
    let one : Sentence = record { user = read.user; form = Run read.accesses.items read.steps.items read.deed } in
    let is : sentence_of read ≡ one = ap (λ other. other_or_run other read.user read.accesses.items read.steps.items read.deed) c.requires.run in
    let passes = rw (c.deref.ensures.value, c.deref-2.ensures.value) at c.admit_run.ensures.passes in
    (taken_parts c.args.self.now _ (sentence_of read) _ _ _ c.requires.grammar (ap (λ (s : Sentence). s.user) (sym is))
    (ap (λ (s : Sentence). s.form) (sym is)) passes c.admit_run.ensures.names).1
