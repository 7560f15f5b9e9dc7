use Rattle.std.proofs.Common.{◌≡◌, ◌<◌, ◌^◌, length, get_or, sym, ap, ◌∙◌, subst, arith}
use Rattle.bohm_core_base.specs.Batch.{reference_words}
use Rattle.model_base.specs.declared.reference.Reference.TheVariants.{Base}
use Rattle.log_batch.specs.Laws.{word_of}
use Rattle.log_batch.specs.Supplied.{batch_of}
use Rattle.words.specs.Layout.{reference_at}
use Rattle.words.proofs.Lower.{reference-most}
use Rattle.filling.specs.Keys.{Key}
use Rattle.log_batch.proofs.Referring.{reference-is, reference-within}
use Rattle.filling.proofs.key.RangeKeyBatchData.reference_word.Goals as goal

pub reference_at-requires : goal.reference_at-requires
reference_at-requires c =
    reference-within c.self.inside.batch c.args.index c.args.number c.references_at-references.result.now c.references_at-references.ensures
    (subst (λ (k : Key). c.args.number < length (reference_words (batch_of k.batch) c.args.index)) (sym c.self.view_is) c.requires.number)

pub word_of-requires : goal.word_of-requires
word_of-requires c =
    let ranged = c.self.inside.batch in
    let found = c.references_at-references.result.now in
    let number = subst (λ (k : Key). c.args.number < length (reference_words (batch_of k.batch) c.args.index)) (sym c.self.view_is) c.requires.number in
    let is : word_of ranged.first (get_or found c.args.number Base) ≡ reference_at (batch_of ranged) c.args.index c.args.number =
    reference-is ranged c.first_place-first.ensures.of_log c.args.index c.args.number found c.references_at-references.ensures number in
    let most = reference-most (batch_of ranged) c.args.index c.args.number in
    let fits = c.ranges.index.fits in
    let small : word_of ranged.first (get_or found c.args.number Base) < 2 ^ 64 = omega arith in
    rw (c.reference_at.ensures, c.first_place-first.ensures.value) small

pub returns : goal.returns
returns c =
    let ranged = c.self.inside.batch in
    let found = c.references_at-references.result.now in
    let number = subst (λ (k : Key). c.args.number < length (reference_words (batch_of k.batch) c.args.index)) (sym c.self.view_is) c.requires.number in
    c.word_of.ensures
    ∙ ap (λ reference. word_of c.first_place-first.result reference) c.reference_at.ensures
    ∙ ap (λ n. word_of n (get_or found c.args.number Base)) c.first_place-first.ensures.value
    ∙ reference-is ranged c.first_place-first.ensures.of_log c.args.index c.args.number found c.references_at-references.ensures number
    ∙ ap (λ (k : Key). reference_at (batch_of k.batch) c.args.index c.args.number) c.self.view_is
