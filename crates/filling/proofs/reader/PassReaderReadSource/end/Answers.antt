use Rattle.std.proofs.Common.{◌≡◌, ◌<◌, length, sym, ap, ◌∙◌, subst}
use Rattle.bohm_core_base.specs.Batch.{batch_slots}
use Rattle.log_batch.specs.Supplied.{batch_of}
use Rattle.model_base.specs.Records.{end_below}
use Rattle.bohm_core_base.specs.Batch.{is_listed, table_at}
use Rattle.bohm_core_base.specs.Serial.{whole_end}
use Rattle.std.proofs.Common.{◌+◌, true}
use Rattle.words.specs.Passes.{PassState}
use Rattle.filling.specs.Readings.{IsReadingPass, PlaceReading, reader_in, work_of}
use Rattle.filling.proofs.reader.PassReaderReadSource.end.Goals as goal

pub end_at-requires-clause-pass : goal.end_at-requires-clause-pass
end_at-requires-clause-pass g c = record { same_table = c.self.invariant.reads.same_table; key = c.self.invariant.reads.key }

pub end_at-requires-clause-slot : goal.end_at-requires-clause-slot
end_at-requires-clause-slot g c =
    subst (λ (reading : PlaceReading). c.args.slot < length (batch_slots (batch_of reading.ranged))) (sym c.self.view_is) c.requires.slot

pub invariant_of-self : goal.invariant_of-self
invariant_of-self g c =
    let s = c.self.inside in
    subst (λ (pass : PassState). IsReadingPass s.words.now s.key.now pass s.index g.N.Named.words g.N.Named.known) (sym c.end_at.ensures.same) c.self.invariant

pub returns-clause-value : goal.returns-clause-value
returns-clause-value g c =
    let s = c.self.inside in
    let listed = subst (λ (reading : PlaceReading). is_listed ((batch_of reading.ranged).tables reading.index) (table_at (batch_of reading.ranged) c.args.slot) ≡ true) (sym c.self.view_is) c.requires.listed in
    subst (λ (reading : PlaceReading). end_below (reading.ranged.first + reading.index) c.end_at.result ≡ end_below (reading.ranged.first + reading.index) (whole_end (batch_of reading.ranged) c.args.slot)) c.self.view_is
    (c.end_at.ensures.told s.index c.self.invariant.reads.within c.self.invariant.reads.ready listed)

pub returns-clause-same : goal.returns-clause-same
returns-clause-same g c =
    let s = c.self.inside in
    let reading : PassState → PlaceReading = λ pass. record { ranged = s.key.now.batch; index = s.index; work = work_of pass } in
    let same = ap reading c.end_at.ensures.same ∙ c.self.view_is in
    (ap reader_in same, ap (λ (r : PlaceReading). r.work) same)
