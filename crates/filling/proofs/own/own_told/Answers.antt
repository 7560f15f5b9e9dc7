use Rattle.std.proofs.Common.{ℕ, List, sym, ap, ◌∙◌, subst}
use Rattle.bohm_core_base.specs.Serial.{serial_words}
use Rattle.log_batch.specs.Supplied.{LogRange, batch_of}
use Rattle.evaluation.specs.ReadSource.{PassWork}
use Rattle.words.specs.Views.{In}
use Rattle.filling.specs.Readings.{PlaceReading}
use Rattle.filling.proofs.Telling.{named-words, only-learns, same-pass}
use Rattle.filling.proofs.own.own_told.Goals as goal

pub invariant_of-reader : goal.invariant_of-reader
invariant_of-reader g c = record {
  reads = c.requires.reads;
  named = c.requires.named.0;
  knows = λ index has. subst (λ (l : List ℕ). In index l) c.requires.named.1 has;
}

pub words_by_source-reader-requires : goal.words_by_source-reader-requires
words_by_source-reader-requires g c = record { batch = sym (ap batch_of c.batch.ensures) }

pub returns-clause-value : goal.returns-clause-value
returns-clause-value g c =
    c.words_by_source-reader.ensures.serial ∙ ap (λ (r : LogRange). serial_words (batch_of r) c.args.index) c.batch.ensures

pub returns-clause-same : goal.returns-clause-same
returns-clause-same g c =
    let after = c.reader.inside.holding in
    let work = ap (λ (r : PlaceReading). r.work) c.reader.view_is ∙ c.words_by_source-reader.ensures.same.1 in
    same-pass c.args.words.now c.args.holding after c.requires.reads.same_table
    (named-words c.args.words.now c.reader.inside.words.now g.N.Named.words after c.requires.named.0 c.reader.invariant.named c.reader.invariant.reads.same_table) work

pub returns-clause-bodies : goal.returns-clause-bodies
returns-clause-bodies g c =
    let work = ap (λ (r : PlaceReading). r.work) c.reader.view_is ∙ c.words_by_source-reader.ensures.same.1 in
    ap (λ (w : PassWork). w.bodies) work

pub returns-clause-learns : goal.returns-clause-learns
returns-clause-learns g c =
    let work = ap (λ (r : PlaceReading). r.work) c.reader.view_is ∙ c.words_by_source-reader.ensures.same.1 in
    only-learns c.args.holding c.reader.inside.holding
    (λ index has. c.reader.invariant.knows index (subst (λ (l : List ℕ). In index l) (sym c.requires.named.1) has)) work
