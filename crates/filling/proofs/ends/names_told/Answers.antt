use Rattle.std.proofs.Common.{◌≡◌, ℕ, List, Vec, Global, true, sym, ap, ◌∙◌, subst}
use Rattle.std.specs.Prelude.{IfOk}
use Rattle.bohm_core_base.specs.Batch.{was_done}
use Rattle.bohm_core_base.specs.Serial.{serial_words}
use Rattle.log_batch.specs.Supplied.{LogRange, batch_of}
use Rattle.evaluation.specs.ReadSource.{PassWork}
use Rattle.words.specs.Views.{In}
use Rattle.filling.specs.Ends.{AreEndedBy}
use Rattle.filling.specs.Readings.{PlaceReading}
use Rattle.filling.proofs.Telling.{named-words, only-learns, same-pass}
use Rattle.filling.proofs.ends.names_told.Goals as goal

pub invariant_of-reader : goal.invariant_of-reader
invariant_of-reader g c = record {
  reads = c.requires.reads;
  named = c.requires.named.0;
  knows = λ index has. subst (λ (l : List ℕ). In index l) c.requires.named.1 has;
}

pub ends_by_source-reader-requires-clause-batch : goal.ends_by_source-reader-requires-clause-batch
ends_by_source-reader-requires-clause-batch g c = sym (ap batch_of c.batch-2.ensures)

pub ends_by_source-reader-requires-clause-done : goal.ends_by_source-reader-requires-clause-done
ends_by_source-reader-requires-clause-done g c =
    subst (λ (r : LogRange). was_done (serial_words (batch_of r) c.args.index) ≡ true) (sym c.batch-2.ensures) c.requires.done

pub returns-clause-ends : goal.returns-clause-ends
returns-clause-ends g c =
    subst (λ (r : LogRange). IfOk c.ends_by_source-reader.result.1 (λ (names : Vec ℕ Global). AreEndedBy (batch_of r) c.args.index names.items)) c.batch-2.ensures
    c.ends_by_source-reader.ensures.ends

pub returns-clause-order : goal.returns-clause-order
returns-clause-order g c = c.ends_by_source-reader.ensures.order

pub returns-clause-same : goal.returns-clause-same
returns-clause-same g c =
    let after = c.reader.inside.holding in
    let work = ap (λ (r : PlaceReading). r.work) c.reader.view_is ∙ c.ends_by_source-reader.ensures.same.1 in
    same-pass c.args.words.now c.args.holding after c.requires.reads.same_table
    (named-words c.args.words.now c.reader.inside.words.now g.N.Named.words after c.requires.named.0 c.reader.invariant.named c.reader.invariant.reads.same_table) work

pub returns-clause-bodies : goal.returns-clause-bodies
returns-clause-bodies g c =
    let work = ap (λ (r : PlaceReading). r.work) c.reader.view_is ∙ c.ends_by_source-reader.ensures.same.1 in
    ap (λ (w : PassWork). w.bodies) work

pub returns-clause-learns : goal.returns-clause-learns
returns-clause-learns g c =
    let work = ap (λ (r : PlaceReading). r.work) c.reader.view_is ∙ c.ends_by_source-reader.ensures.same.1 in
    only-learns c.args.holding c.reader.inside.holding
    (λ index has. c.reader.invariant.knows index (subst (λ (l : List ℕ). In index l) (sym c.requires.named.1) has)) work
