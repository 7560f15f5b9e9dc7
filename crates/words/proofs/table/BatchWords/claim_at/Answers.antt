use Rattle.std.proofs.Common.{◌≡◌, ◌<◌, sym, ◌∙◌, subst, arith}
use Rattle.std.proofs.lemmas.Grind.{get_or_default_zero}
use Rattle.words.specs.Layout.{block_begin, claim_word}
use Rattle.words.proofs.Showing.{position-below}
use Rattle.words.proofs.table.BatchWords.claim_at.Goals as goal

pub returns-clause-value : goal.returns-clause-value
returns-clause-value g c =
    let words = c.self.inside in
    let b = g.K.BatchData.batch words.table.shared.key in
    let listed = g.K.BatchData.listed words.table.shared.key in
    let laid = c.self.invariant in
    let below : c.args.index < b.size = subst (λ w. c.args.index < (g.K.BatchData.batch w.key).size) (sym c.self.view_is) c.requires in
    let every = laid.every in
    let size = laid.size in
    let at : c.index.result.now ≡ block_begin b c.args.index = c.index.ensures ∙ get_or_default_zero words.begins.items c.args.index c.index.result.now (omega arith) ∙ laid.begin c.args.index below in
    subst (λ w. c.index.result.now ≡ block_begin (g.K.BatchData.batch w.key) c.args.index) c.self.view_is at

pub returns-clause-within : goal.returns-clause-within
returns-clause-within g c =
    let words = c.self.inside in
    let b = g.K.BatchData.batch words.table.shared.key in
    let listed = g.K.BatchData.listed words.table.shared.key in
    let laid = c.self.invariant in
    let below : c.args.index < b.size = subst (λ w. c.args.index < (g.K.BatchData.batch w.key).size) (sym c.self.view_is) c.requires in
    let every = laid.every in
    let size = laid.size in
    let at : c.index.result.now ≡ block_begin b c.args.index = c.index.ensures ∙ get_or_default_zero words.begins.items c.args.index c.index.result.now (omega arith) ∙ laid.begin c.args.index below in
    let room = position-below b listed (claim_word c.args.index) below in
    let all = laid.all in
    let count = laid.words in
    subst (λ w. c.index.result.now < w.table.words) c.self.view_is (omega arith)
