use Rattle.std.proofs.Common.{◌<◌, get_or, sym, ap, ◌∙◌, subst, arith}
use Rattle.bohm_core_base.specs.Batch.{words_length}
use Rattle.bohm_core_base.specs.Serial.{serial_words}
use Rattle.log_batch.specs.Supplied.{batch_of}
use Rattle.filling.specs.Keys.{Key}
use Rattle.evaluation.specs.ReadSource.{IsReferred}
use Rattle.evaluation.proofs.Referred.{referred-low}
use Rattle.words.specs.Passes.{PassState}
use Rattle.filling.specs.Readings.{IsReadingPass, PlaceReading, reader_in, work_of}
use Rattle.filling.proofs.Telling.{referred-known}
use Rattle.filling.proofs.reader.PassReaderReadSource.own.Goals as goal

pub own-requires-clause-within : goal.own-requires-clause-within
own-requires-clause-within g c =
    let s = c.self.inside in
    let inside : PlaceReading = record { ranged = s.key.now.batch; index = s.index; work = work_of s.holding } in
    let is = subst (λ (reading : PlaceReading). IsReferred (reader_in reading) c.args.index) (sym c.self.view_is) c.requires.referred in
    let number = subst (λ (reading : PlaceReading). c.args.number < words_length (batch_of reading.ranged) c.args.index) (sym c.self.view_is) c.requires.number in
    let low = referred-low (reader_in inside) c.args.index is in
    let within = c.self.invariant.reads.within in
    let below : c.args.index < s.key.now.batch.size = omega arith in
    subst (λ (k : Key). (c.args.index < (batch_of k.batch).size) × (c.args.number < words_length (batch_of k.batch) c.args.index)) (sym c.self.invariant.reads.key) (below, number)

pub own-requires-clause-known : goal.own-requires-clause-known
own-requires-clause-known g c =
    let s = c.self.inside in
    let is = subst (λ (reading : PlaceReading). IsReferred (reader_in reading) c.args.index) (sym c.self.view_is) c.requires.referred in
    referred-known (batch_of s.key.now.batch) s.holding.view s.index c.args.index c.self.invariant.reads.ready is

pub invariant_of-self : goal.invariant_of-self
invariant_of-self g c =
    let s = c.self.inside in
    subst (λ (pass : PassState). IsReadingPass s.words.now s.key.now pass s.index g.N.Named.words g.N.Named.known) (sym c.own.ensures.same) c.self.invariant

pub returns-clause-value : goal.returns-clause-value
returns-clause-value g c =
    let s = c.self.inside in
    c.own.ensures.value
    ∙ ap (λ (k : Key). get_or (serial_words (batch_of k.batch) c.args.index) c.args.number 0) c.self.invariant.reads.key
    ∙ ap (λ (reading : PlaceReading). get_or (serial_words (batch_of reading.ranged) c.args.index) c.args.number 0) c.self.view_is

pub returns-clause-same : goal.returns-clause-same
returns-clause-same g c =
    let s = c.self.inside in
    let reading : PassState → PlaceReading = λ pass. record { ranged = s.key.now.batch; index = s.index; work = work_of pass } in
    let same = ap reading c.own.ensures.same ∙ c.self.view_is in
    (ap reader_in same, ap (λ (r : PlaceReading). r.work) same)
