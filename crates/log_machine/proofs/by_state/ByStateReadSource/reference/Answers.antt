use Rattle.std.proofs.Common.{◌<◌, length, get_or, sym, ap, ◌∙◌, subst}
use Rattle.model_base.specs.declared.reference.Reference.{Reference}
use Rattle.model_base.specs.declared.reference.Reference.TheVariants.{Base}
use Rattle.bohm_core_base.specs.Batch.{reference_words}
use Rattle.log_batch.specs.Laws.{word_of}
use Rattle.log_batch.specs.Supplied.{batch_of}
use Rattle.log_batch.proofs.Referring.{reference-is, reference-within}
use Rattle.evaluation.specs.ReadSource.{RangePlace}
use Rattle.log_machine.proofs.by_state.ByStateReadSource.reference.Goals as goal

pub reference_at-requires : goal.reference_at-requires
reference_at-requires c =
    reference-within c.self.inside.batch.now c.self.inside.index c.args.number c.references_at-references.result.now c.references_at-references.ensures
    (subst (λ (place : RangePlace). c.args.number < length (reference_words (batch_of place.ranged) place.index)) (sym c.self.view_is) c.requires)

pub returns-clause-value : goal.returns-clause-value
returns-clause-value c =
    let ranged = c.self.inside.batch.now in
    let found = c.references_at-references.result.now in
    let number = subst (λ (place : RangePlace). c.args.number < length (reference_words (batch_of place.ranged) place.index)) (sym c.self.view_is) c.requires in
    c.index_of.ensures
    ∙ ap (λ (reference : Reference). word_of c.first_place-first.result reference) c.reference_at.ensures
    ∙ ap (λ first. word_of first (get_or found c.args.number Base)) c.first_place-first.ensures.value
    ∙ reference-is ranged c.first_place-first.ensures.of_log c.self.inside.index c.args.number found c.references_at-references.ensures number
    ∙ ap (λ (place : RangePlace). get_or (reference_words (batch_of place.ranged) place.index) c.args.number 0) c.self.view_is
