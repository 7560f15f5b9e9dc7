use Rattle.std.proofs.Common.{ℕ, sym, ap, ◌∙◌, subst, arith}
use Rattle.log_batch.specs.Supplied.{batch_of}
use Rattle.words.specs.declared.knowledge.Knowledge.{Knowledge}
use Rattle.filling_base.specs.Counting.{counted_more}
use Rattle.filling_base.specs.Extending.{Finishes}
use Rattle.filling.specs.Bodies.{runs_at}
use Rattle.filling.proofs.Telling.{reads-later}
use Rattle.filling.proofs.fill.RangeKeyFills.fill.Goals as goal

pub own_told-holding-requires-clause-reads : goal.own_told-holding-requires-clause-reads
own_told-holding-requires-clause-reads c = record {
  same_table = c.requires.same_table;
  key = c.requires.key;
  within = c.requires.within;
  past = c.requires.past;
  ready = c.requires.ready;
}

pub ends_of-holding-requires-clause-reads : goal.ends_of-holding-requires-clause-reads
ends_of-holding-requires-clause-reads c =
    let first = c.args.holding in
    let told = c.own_told-holding.result in
    let learns = c.own_told-holding.ensures.learns in
    reads-later c.args.words.now c.args.self.now first told c.args.index (λ other has. learns.goes.knows other has) c.own_told-holding.ensures.same.table
    (c.passes_keep_the_fronts_that_they_know.ensures.past (batch_of c.args.self.now.batch) first.view told.view c.args.index c.args.index learns.goes.fronts (omega arith) c.requires.past)
    (record { same_table = c.requires.same_table; key = c.requires.key; within = c.requires.within; past = c.requires.past; ready = c.requires.ready })

pub store_place-holding-requires-clause-reads : goal.store_place-holding-requires-clause-reads
store_place-holding-requires-clause-reads c =
    let first = c.args.holding in
    let ended = c.ends_of-holding.result.0 in
    let learns = c.learning_comes_before_storing.ensures.again first.view c.own_told-holding.result.view ended.view c.own_told-holding.ensures.learns c.ends_of-holding.ensures.learns in
    reads-later c.args.words.now c.args.self.now first ended c.args.index (λ other has. learns.goes.knows other has)
    (c.ends_of-holding.ensures.same.table ∙ c.own_told-holding.ensures.same.table)
    (c.passes_keep_the_fronts_that_they_know.ensures.past (batch_of c.args.self.now.batch) first.view ended.view c.args.index c.args.index learns.goes.fronts (omega arith) c.requires.past)
    (record { same_table = c.requires.same_table; key = c.requires.key; within = c.requires.within; past = c.requires.past; ready = c.requires.ready })

pub returns-in-Ok-clause-tells : goal.returns-in-Ok-clause-tells
returns-in-Ok-clause-tells c =
    let law = c.learning_comes_before_storing.ensures in
    let first = c.args.holding.view in
    let told = c.own_told-holding.result.view in
    let ended = c.ends_of-holding.result.0.view in
    let finishes = law.finishes first ended c.store_place-holding.result.view c.args.index
    (law.again first told ended c.own_told-holding.ensures.learns c.ends_of-holding.ensures.learns) c.store_place-holding.ensures.finishes in
    subst (λ (v : Knowledge). Finishes c.args.index first v) (sym c.count_run.ensures.view) finishes

pub returns-in-Err-clause-tells : goal.returns-in-Err-clause-tells
returns-in-Err-clause-tells c =
    let revokes = rw c.in-Err.is at c.ends_of-holding.ensures.revokes in (
      c.learning_comes_before_storing.ensures.again c.args.holding.view c.own_told-holding.result.view c.ends_of-holding.result.0.view c.own_told-holding.ensures.learns c.ends_of-holding.ensures.learns,
      revokes,
    )

pub returns-in-Ok-clause-bodies : goal.returns-in-Ok-clause-bodies
returns-in-Ok-clause-bodies c =
    let before = c.store_place-holding.ensures.bodies ∙ c.ends_of-holding.ensures.bodies ∙ c.own_told-holding.ensures.bodies in
    c.count_run.ensures.bodies ∙ ap (λ (n : ℕ). counted_more n (runs_at c.args.self.now.batch c.args.index)) before

pub returns-in-Err-clause-bodies : goal.returns-in-Err-clause-bodies
returns-in-Err-clause-bodies c = c.ends_of-holding.ensures.bodies ∙ c.own_told-holding.ensures.bodies
