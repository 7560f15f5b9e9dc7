use Rattle.std.proofs.Common.{◌<◌, sym, subst}
use Rattle.words.specs.Passes.{PlacerState}
use Rattle.filling.specs.Placers.{IsAt}
use Rattle.filling.proofs.Placing.{at-stays, stored-all, stores-advance, stores-then}
use Rattle.filling.proofs.placer.place_statement.Goals as goal

pub store_tables-requires-clause-at : goal.store_tables-requires-clause-at
store_tables-requires-clause-at c =
    at-stays c.args.words.now c.args.key.now c.args.token.now c.store_rows.new.token c.args.finder.now.latest c.args.statement.now c.store_rows.ensures.only c.requires.at

pub advance-requires : goal.advance-requires
advance-requires c =
    let words = c.args.words.now in
    let key = c.args.key.now in
    let latest = c.args.finder.now.latest in
    let statement = c.args.statement.now in
    let token = c.store_tables.new.token in
    let only = stores-then c.args.token.now c.store_rows.new.token token c.store_rows.ensures.only c.store_tables.ensures.only in
    let at : IsAt words key token latest statement = at-stays words key c.args.token.now token latest statement only c.requires.at in
    record {
      same_table = at.same_table;
      partition = subst (λ (t : PlacerState). t.view.partition < words.key.batch.partitions) (sym only) c.requires.partition;
      within = at.within;
      stored = stored-all words key token latest statement at c.store_tables.ensures.stored;
    }

pub returns : goal.returns
returns c =
    let token = c.store_tables.new.token in
    stores-advance c.args.token.now token c.advance.new.placer
    (stores-then c.args.token.now c.store_rows.new.token token c.store_rows.ensures.only c.store_tables.ensures.only) c.advance.ensures
