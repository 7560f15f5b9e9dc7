use Rattle.std.proofs.Common.{◌≡◌, ◌+◌, ◌<◌, length, sym, ◌∙◌, subst, arith}
use Rattle.std.proofs.lemmas.Grind.{get_or_default_zero}
use Rattle.bohm_core_base.specs.Batch.{reference_words}
use Rattle.words.specs.Layout.{reference_begin, reference_word}
use Rattle.words.proofs.Showing.{position-below}
use Rattle.words.proofs.table.BatchWords.reference_spot.Goals as goal

pub overflow_add-result : goal.overflow_add-result
overflow_add-result g c =
    let words = c.self.inside in
    let b = g.K.BatchData.batch words.table.shared.key in
    let listed = g.K.BatchData.listed words.table.shared.key in
    let laid = c.self.invariant in
    let has = subst (λ w. (c.args.index < (g.K.BatchData.batch w.key).size) × (c.args.number < length (reference_words (g.K.BatchData.batch w.key) c.args.index))) (sym c.self.view_is) c.requires.within in
    let room = position-below b listed (reference_word c.args.index c.args.number) has in
    let every = laid.every_reference in
    let size = laid.size in
    let below = has.0 in
    let at : c.index.result.now ≡ reference_begin b c.args.index = c.index.ensures ∙ get_or_default_zero words.references.items c.args.index c.index.result.now (omega arith) ∙ laid.reference c.args.index below in
    let all = laid.all in
    let few = laid.few in
    omega arith

pub returns-clause-value : goal.returns-clause-value
returns-clause-value g c =
    let words = c.self.inside in
    let b = g.K.BatchData.batch words.table.shared.key in
    let listed = g.K.BatchData.listed words.table.shared.key in
    let laid = c.self.invariant in
    let has = subst (λ w. (c.args.index < (g.K.BatchData.batch w.key).size) × (c.args.number < length (reference_words (g.K.BatchData.batch w.key) c.args.index))) (sym c.self.view_is) c.requires.within in
    let every = laid.every_reference in
    let size = laid.size in
    let below = has.0 in
    let at : c.index.result.now ≡ reference_begin b c.args.index = c.index.ensures ∙ get_or_default_zero words.references.items c.args.index c.index.result.now (omega arith) ∙ laid.reference c.args.index below in
    let same : c.index.result.now + c.args.number ≡ reference_begin b c.args.index + c.args.number = omega arith in
    subst (λ w. c.index.result.now + c.args.number ≡ reference_begin (g.K.BatchData.batch w.key) c.args.index + c.args.number) c.self.view_is same

pub returns-clause-within : goal.returns-clause-within
returns-clause-within g c =
    let words = c.self.inside in
    let b = g.K.BatchData.batch words.table.shared.key in
    let listed = g.K.BatchData.listed words.table.shared.key in
    let laid = c.self.invariant in
    let has = subst (λ w. (c.args.index < (g.K.BatchData.batch w.key).size) × (c.args.number < length (reference_words (g.K.BatchData.batch w.key) c.args.index))) (sym c.self.view_is) c.requires.within in
    let room = position-below b listed (reference_word c.args.index c.args.number) has in
    let every = laid.every_reference in
    let size = laid.size in
    let below = has.0 in
    let at : c.index.result.now ≡ reference_begin b c.args.index = c.index.ensures ∙ get_or_default_zero words.references.items c.args.index c.index.result.now (omega arith) ∙ laid.reference c.args.index below in
    let all = laid.all in
    let count = laid.words in
    subst (λ w. c.index.result.now + c.args.number < w.table.words) c.self.view_is (omega arith)
