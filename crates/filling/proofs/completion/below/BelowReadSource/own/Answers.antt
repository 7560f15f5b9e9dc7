use Rattle.std.proofs.Common.{List, ℕ, get_or, sym, ap, ◌∙◌, subst}
use Rattle.bohm_core_base.specs.Serial.{serial_words}
use Rattle.log_batch.specs.Supplied.{batch_of}
use Rattle.evaluation.specs.ReadSource.{RangePlace, reader_of}
use Rattle.evaluation.specs.ReadSource.{IsReferred}
use Rattle.evaluation.proofs.Referred.{referred-low}
use Rattle.filling.proofs.completion.below.BelowReadSource.own.Goals as goal

pub returns-clause-value : goal.returns-clause-value
returns-clause-value c =
    let s = c.self.inside in
    let inside : RangePlace = record { ranged = s.batch.now; index = s.index } in
    let is = subst (λ (place : RangePlace). IsReferred (reader_of place) c.args.index) (sym c.self.view_is) c.requires.referred in
    let low = referred-low (reader_of inside) c.args.index is in
    c.word_at.ensures
    ∙ ap (λ (words : List ℕ). get_or words c.args.number 0) (c.at.ensures ∙ c.self.invariant.0.own c.args.index low)
    ∙ ap (λ (place : RangePlace). get_or (serial_words (batch_of place.ranged) c.args.index) c.args.number 0) c.self.view_is
