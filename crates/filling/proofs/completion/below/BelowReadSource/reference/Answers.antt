use Rattle.std.proofs.Common.{◌<◌, length, get_or, sym, ap, ◌∙◌, subst}
use Rattle.bohm_core_base.specs.Batch.{reference_words}
use Rattle.log_batch.specs.Supplied.{batch_of}
use Rattle.evaluation.specs.ReadSource.{RangePlace}
use Rattle.filling.proofs.completion.below.BelowReadSource.reference.Goals as goal

pub reference-requires-clause-begins : goal.reference-requires-clause-begins
reference-requires-clause-begins c = c.self.invariant.3.begins c.self.inside.index c.self.invariant.1

pub reference-requires-clause-within : goal.reference-requires-clause-within
reference-requires-clause-within c =
    let number = subst (λ (place : RangePlace). c.args.number < length (reference_words (batch_of place.ranged) place.index)) (sym c.self.view_is) c.requires in
    c.self.invariant.3.within c.self.inside.index c.args.number c.self.invariant.1 number

pub returns-clause-value : goal.returns-clause-value
returns-clause-value c =
    let s = c.self.inside in
    let number = subst (λ (place : RangePlace). c.args.number < length (reference_words (batch_of place.ranged) place.index)) (sym c.self.view_is) c.requires in
    c.reference.ensures
    ∙ c.self.invariant.3.right s.index c.args.number c.self.invariant.1 number
    ∙ ap (λ (place : RangePlace). get_or (reference_words (batch_of place.ranged) place.index) c.args.number 0) c.self.view_is
