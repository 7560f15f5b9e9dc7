use Rattle.std.proofs.Common.{◌≡◌, ℕ, ◌+◌, ◌*◌, ◌<◌, sym, ap, subst, arith}
use Rattle.words.specs.Layout.{front_begin, front_word}
use Rattle.words.proofs.Showing.{position-below}
use Rattle.words.proofs.table.BatchWords.front_spot.Goals as goal

pub overflow_mul-result : goal.overflow_mul-result
overflow_mul-result g c =
    let words = c.self.inside in
    let b = g.K.BatchData.batch words.table.shared.key in
    let listed = g.K.BatchData.listed words.table.shared.key in
    let laid = c.self.invariant in
    let has : c.args.partition < b.partitions = subst (λ w. c.args.partition < (g.K.BatchData.batch w.key).partitions) (sym c.self.view_is) c.requires in
    let room = position-below b listed (front_word c.args.partition) has in
    let all = laid.all in
    let few = laid.few in
    omega arith

pub overflow_add-result : goal.overflow_add-result
overflow_add-result g c =
    let words = c.self.inside in
    let b = g.K.BatchData.batch words.table.shared.key in
    let listed = g.K.BatchData.listed words.table.shared.key in
    let laid = c.self.invariant in
    let has : c.args.partition < b.partitions = subst (λ w. c.args.partition < (g.K.BatchData.batch w.key).partitions) (sym c.self.view_is) c.requires in
    let room = position-below b listed (front_word c.args.partition) has in
    let front = laid.front in
    let all = laid.all in
    let few = laid.few in
    omega arith

pub returns-clause-value : goal.returns-clause-value
returns-clause-value g c =
    let words = c.self.inside in
    let laid = c.self.invariant in
    subst (λ w. words.fronts + c.args.partition * 8 ≡ front_begin (g.K.BatchData.batch w.key) + c.args.partition * 8) c.self.view_is (ap (λ (n : ℕ). n + c.args.partition * 8) laid.front)

pub returns-clause-within : goal.returns-clause-within
returns-clause-within g c =
    let words = c.self.inside in
    let b = g.K.BatchData.batch words.table.shared.key in
    let listed = g.K.BatchData.listed words.table.shared.key in
    let laid = c.self.invariant in
    let has : c.args.partition < b.partitions = subst (λ w. c.args.partition < (g.K.BatchData.batch w.key).partitions) (sym c.self.view_is) c.requires in
    let room = position-below b listed (front_word c.args.partition) has in
    let front = laid.front in
    let all = laid.all in
    let count = laid.words in
    subst (λ w. words.fronts + c.args.partition * 8 < w.table.words) c.self.view_is (omega arith)
