use Rattle.std.proofs.Common.{◌<◌, sym, arith}
use Rattle.words.specs.Layout.{claim_word, total}
use Rattle.words.proofs.Showing.{position-below}
use Rattle.words.proofs.table.BatchWords.shared.Goals as goal

pub returns-clause-same : goal.returns-clause-same
returns-clause-same g c = sym c.self.view_is

pub returns-clause-some : goal.returns-clause-some
returns-clause-some g c =
    let words = c.self.inside in
    let b = g.K.BatchData.batch words.table.shared.key in
    let listed = g.K.BatchData.listed words.table.shared.key in
    let laid = c.self.invariant in
    let size = laid.size in
    let some = laid.some in
    let room : 0 < total b listed = position-below b listed (claim_word 0) (omega arith) in
    let count = laid.words in
    let all = laid.all in
    omega arith
