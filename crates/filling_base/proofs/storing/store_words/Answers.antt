use Rattle.std.proofs.Common.{◌+◌, [], refl, ap, ◌∙◌, arith}
use Rattle.words.specs.Passes.{PassState}
use Rattle.filling_base.proofs.Going.{same-on, same-self, same-then}
use Rattle.filling_base.proofs.Loops.{begun-storing, filled-more}
use Rattle.filling_base.proofs.storing.store_words.Goals as goal

pub loop-number-init : goal.loop-number-init
loop-number-init g c = record {
  same_table = c.requires.same_table;
  same = same-self c.args.holding.now;
  bodies = refl;
  stores = begun-storing c.args.index c.args.holding.now.view 0 [] c.requires.held;
}

pub fill-requires-clause-held : goal.fill-requires-clause-held
fill-requires-clause-held g c = ([], c.loop-number.invariant.stores.holds)

pub fill-requires-clause-ready : goal.fill-requires-clause-ready
fill-requires-clause-ready g c other has = c.loop-number.invariant.stores.goes.knows other (c.requires.ready other has)

pub loop-number-preserved : goal.loop-number-preserved
loop-number-preserved g c =
    let i = c.loop-number.invariant in
    let old = c.loop-number.holding in
    let same = same-on old c.fill.new.pass _ c.fill.ensures in record {
      same_table = same.table ∙ i.same_table;
      same = same-then c.args.holding.now old c.fill.new.pass i.same same;
      bodies = ap (λ (p : PassState). p.bodies) c.fill.ensures ∙ i.bodies;
      stores = filled-more c.args.index old.number c.loop-number.number (c.loop-number.number + 1) c.args.holding.now.view old.view c.fill.new.pass.view [] i.stores
          (ap (λ (p : PassState). p.view) c.fill.ensures) (omega arith);
    }
