use Rattle.std.proofs.Common.{◌<◌, sym, ap, ◌∙◌, subst}
use Rattle.bohm_core_base.specs.Batch.{was_done}
use Rattle.bohm_core_base.specs.Serial.{serial_words}
use Rattle.log_batch.specs.Supplied.{batch_of}
use Rattle.filling.specs.Keys.{Key}
use Rattle.evaluation.specs.ReadSource.{IsDeedBefore}
use Rattle.words.specs.Passes.{PassState}
use Rattle.words.specs.Views.{KnowsReferences}
use Rattle.filling.specs.Readings.{PlaceReading, reader_in, work_of}
use Rattle.filling.proofs.Telling.{reading-found}
use Rattle.filling.proofs.reader.PassReaderReadSource.was_done.Goals as goal

pub deed_was_done-requires-clause-pass : goal.deed_was_done-requires-clause-pass
deed_was_done-requires-clause-pass g c = record { same_table = c.self.invariant.reads.same_table; key = c.self.invariant.reads.key }

pub deed_was_done-requires-clause-within : goal.deed_was_done-requires-clause-within
deed_was_done-requires-clause-within g c =
    subst (λ (k : Key). c.self.inside.index < k.batch.size) (sym c.self.invariant.reads.key) c.self.invariant.reads.within

pub deed_was_done-requires-clause-ready : goal.deed_was_done-requires-clause-ready
deed_was_done-requires-clause-ready g c =
    subst (λ (k : Key). KnowsReferences (batch_of k.batch) c.self.inside.holding.view c.self.inside.index) (sym c.self.invariant.reads.key) c.self.invariant.reads.ready

pub deed_was_done-requires-clause-deed : goal.deed_was_done-requires-clause-deed
deed_was_done-requires-clause-deed g c =
    let s = c.self.inside in
    let is = subst (λ (reading : PlaceReading). IsDeedBefore (reader_in reading) c.args.index) (sym c.self.view_is) c.requires.deed in
    subst (λ (k : Key). IsDeedBefore (record { batch = batch_of k.batch; index = s.index }) c.args.index) (sym c.self.invariant.reads.key) is

pub invariant_of-self : goal.invariant_of-self
invariant_of-self g c =
    let s = c.self.inside in
    reading-found s.words.now s.key.now s.holding c.deed_was_done.new.holding s.index c.args.index g.N.Named.words g.N.Named.known c.deed_was_done.ensures.same c.self.invariant

pub returns-clause-value : goal.returns-clause-value
returns-clause-value g c =
    c.deed_was_done.ensures.value
    ∙ ap (λ (k : Key). was_done (serial_words (batch_of k.batch) c.args.index)) c.self.invariant.reads.key
    ∙ ap (λ (reading : PlaceReading). was_done (serial_words (batch_of reading.ranged) c.args.index)) c.self.view_is

pub returns-clause-same : goal.returns-clause-same
returns-clause-same g c =
    let s = c.self.inside in
    let reading : PassState → PlaceReading = λ pass. record { ranged = s.key.now.batch; index = s.index; work = work_of pass } in
    let same = ap reading c.deed_was_done.ensures.same ∙ c.self.view_is in
    (ap reader_in same, ap (λ (r : PlaceReading). r.work) same)
