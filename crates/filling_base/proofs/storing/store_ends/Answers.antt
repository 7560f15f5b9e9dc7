use Rattle.std.proofs.Common.{◌+◌, [], refl, sym, ap, ◌∙◌, arith}
use Rattle.bohm_core_base.specs.Batch.{words_length}
use Rattle.words.specs.Passes.{PassState}
use Rattle.filling_base.specs.Storing.{ended_below}
use Rattle.filling_base.proofs.Going.{same-on, same-self, same-then}
use Rattle.filling_base.proofs.Loops.{begun-storing, ended-more, in-ended}
use Rattle.filling_base.proofs.storing.store_ends.Goals as goal

pub loop-number-init : goal.loop-number-init
loop-number-init g c = record {
  same_table = c.requires.same_table;
  same = same-self c.args.holding.now;
  bodies = refl;
  stores = begun-storing c.args.index c.args.holding.now.view (words_length (g.K.BatchData.batch c.args.words.now.key) c.args.index) [] c.requires.held;
}

pub loop-number-preserved : goal.loop-number-preserved
loop-number-preserved g c =
    let i = c.loop-number.invariant in
    let old = c.loop-number.holding in
    let listed = g.K.BatchData.listed c.args.words.now.key in
    let same = same-on old c.set_end.new.pass _ c.set_end.ensures in record {
      same_table = same.table ∙ i.same_table;
      same = same-then c.args.holding.now old c.set_end.new.pass i.same same;
      bodies = ap (λ (p : PassState). p.bodies) c.set_end.ensures ∙ i.bodies;
      stores = ended-more c.args.index old.number (words_length (g.K.BatchData.batch c.args.words.now.key) c.args.index) c.loop-number.number (c.loop-number.number + 1)
          c.args.holding.now.view old.view c.set_end.new.pass.view listed c.args.ends.now i.stores (ap (λ (p : PassState). p.view) c.set_end.ensures) (omega arith);
    }

pub set_end-requires-clause-held : goal.set_end-requires-clause-held
set_end-requires-clause-held g c =
    let listed = g.K.BatchData.listed c.args.words.now.key in
    let n = c.loop-number.number in (
      ended_below listed c.args.ends.now n,
      c.loop-number.invariant.stores.holds,
      λ has. (let found = in-ended listed c.args.ends.now n _ has in c.requires.ends.once found.0 n found.1 c.loop-number-test.true (sym found.2)),
    )

pub set_end-requires-clause-ready : goal.set_end-requires-clause-ready
set_end-requires-clause-ready g c other has = c.loop-number.invariant.stores.goes.knows other (c.requires.ready other has)
