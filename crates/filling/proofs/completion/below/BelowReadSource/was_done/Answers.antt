use Rattle.std.proofs.Common.{◌<◌, sym, ap, ◌∙◌, subst}
use Rattle.bohm_core_base.specs.Batch.{was_done}
use Rattle.bohm_core_base.specs.Serial.{serial_words}
use Rattle.log_batch.specs.Supplied.{batch_of}
use Rattle.evaluation.specs.ReadSource.{RangePlace}
use Rattle.filling.proofs.completion.below.BelowReadSource.was_done.Goals as goal

pub returns-clause-value : goal.returns-clause-value
returns-clause-value c =
    let s = c.self.inside in
    let other = c.args.index in
    let before : other < s.index = subst (λ (place : RangePlace). other < place.index) (sym c.self.view_is) c.requires.deed.before in
    c.was_done.ensures
    ∙ ap was_done (c.at.ensures ∙ c.self.invariant.0.own other before)
    ∙ ap (λ (place : RangePlace). was_done (serial_words (batch_of place.ranged) other)) c.self.view_is
