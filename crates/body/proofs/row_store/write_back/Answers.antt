use Rattle.std.proofs.Common.{◌∙◌, ap}
use Rattle.body.specs.Shown.{with_rows}
use Rattle.body.proofs.Lean.{stays_lean}
use Rattle.body.proofs.row_store.write_back.Goals as goal

pub returns-then-is_ok-clause-lean : goal.returns-then-is_ok-clause-lean
returns-then-is_ok-clause-lean g c = λ was_lean.
    let accesses = c.accesses-accesses.result.now in
    let contents = c.args.window.now.rows in
    stays_lean accesses contents (g.S.RowStore.has_room c.args.store.now)
    (g.S.RowStore.has_room c.reserve_rows-reserved.new.store) (g.S.RowStore.has_room c.release_absent.new.store)
    (g.S.RowSource.rows c.args.store.now) (g.S.RowSource.rows c.release_absent.new.store) was_lean
    c.reserve_rows-reserved.ensures.elsewhere
    (λ t r room. c.put_rows.ensures.no_more t r (c.release_absent.ensures.no_more t r room))
    (c.release_absent.ensures.rows ∙ c.put_rows.ensures.rows ∙ ap (with_rows accesses contents) c.reserve_rows-reserved.ensures.rows)
    c.release_absent.ensures.lean
