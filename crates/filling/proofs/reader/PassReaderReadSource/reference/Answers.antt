use Rattle.std.proofs.Common.{◌<◌, length, sym, ap, ◌∙◌, subst, arith, get_or}
use Rattle.bohm_core_base.specs.Batch.{IsSoundBatch, reference_words}
use Rattle.log_batch.specs.Supplied.{batch_of}
use Rattle.filling.specs.Keys.{Key}
use Rattle.words.specs.Layout.{partition_at, reference_at}
use Rattle.words.specs.Passes.{PassState}
use Rattle.words.specs.Views.{KnowsFront}
use Rattle.filling.specs.Readings.{IsReadingPass, PlaceReading, reader_in, work_of}
use Rattle.filling.proofs.reader.PassReaderReadSource.reference.Goals as goal

pub reference-requires-clause-within : goal.reference-requires-clause-within
reference-requires-clause-within g c =
    subst (λ (k : Key). c.self.inside.index < k.batch.size) (sym c.self.invariant.reads.key) c.self.invariant.reads.within

pub reference-requires-clause-number : goal.reference-requires-clause-number
reference-requires-clause-number g c =
    let s = c.self.inside in
    let number = subst (λ (reading : PlaceReading). c.args.number < length (reference_words (batch_of reading.ranged) reading.index)) (sym c.self.view_is) c.requires in
    subst (λ (k : Key). c.args.number < length (reference_words (batch_of k.batch) s.index)) (sym c.self.invariant.reads.key) number

pub reference-requires-clause-known : goal.reference-requires-clause-known
reference-requires-clause-known g c =
    let s = c.self.inside in
    let b = batch_of s.key.now.batch in
    let number = subst (λ (reading : PlaceReading). c.args.number < length (reference_words (batch_of reading.ranged) reading.index)) (sym c.self.view_is) c.requires in
    let sound : IsSoundBatch b = c.places-places.ensures.sound in
    let low : partition_at b s.index c.args.number < b.partitions = sound.within s.index c.args.number (let long = sound.same_length s.index in omega arith) in
    subst (λ (k : Key). KnowsFront s.holding.view (partition_at (batch_of k.batch) s.index c.args.number) s.index) (sym c.self.invariant.reads.key)
    (c.self.invariant.reads.past (partition_at b s.index c.args.number) low)

pub invariant_of-self : goal.invariant_of-self
invariant_of-self g c =
    let s = c.self.inside in
    subst (λ (pass : PassState). IsReadingPass s.words.now s.key.now pass s.index g.N.Named.words g.N.Named.known) (sym c.reference.ensures.same) c.self.invariant

pub returns-clause-value : goal.returns-clause-value
returns-clause-value g c =
    let s = c.self.inside in
    c.reference.ensures.value
    ∙ ap (λ (k : Key). reference_at (batch_of k.batch) s.index c.args.number) c.self.invariant.reads.key
    ∙ ap (λ (reading : PlaceReading). get_or (reference_words (batch_of reading.ranged) reading.index) c.args.number 0) c.self.view_is

pub returns-clause-same : goal.returns-clause-same
returns-clause-same g c =
    let s = c.self.inside in
    let reading : PassState → PlaceReading = λ pass. record { ranged = s.key.now.batch; index = s.index; work = work_of pass } in
    let same = ap reading c.reference.ensures.same ∙ c.self.view_is in
    (ap reader_in same, ap (λ (r : PlaceReading). r.work) same)
