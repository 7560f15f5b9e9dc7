use Rattle.std.proofs.Common.{subst}
use Rattle.std.specs.Prelude.{IsPermutation, List}
use Rattle.chains.specs.declared.listing.RowThere.{RowThere}
use Rattle.chains.proofs.Listed.{all-rows-there, told-at-end}
use Rattle.chains.proofs.rows.Rows.there.Goals as goal

pub returns : goal.returns
returns c absent mark end kept =
    let entries = c.self.inside.newest.entries in
    all-rows-there _ entries _ c.self.invariant.distinct
    (λ key. told-at-end c.self.inside.older.items entries c.args.self.now absent mark end key c.self.view_is c.self.invariant kept)
    (subst (λ (rows : List RowThere). IsPermutation rows c.sort_rows.new.rows.items) c.in_ok-found.ensures c.sort_rows.ensures.permutation)
    c.sort_rows.ensures.sorted
