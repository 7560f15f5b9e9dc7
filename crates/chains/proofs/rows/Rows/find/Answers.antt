use Rattle.std.proofs.Common.{◌≡◌, Some, None, true, false, ltb, ◌∙◌, ap, arith}
use Rattle.std.specs.Prelude.{slice_set}
use Rattle.std.proofs.lemmas.Bool.Decides.{nat_tests}
use Rattle.chains.proofs.Entries.{newest-told}
use Rattle.chains.proofs.rows.Rows.find.Goals as goal

pub returns-in-None-clause-rows : goal.returns-in-None-clause-rows
returns-in-None-clause-rows c =
    c.set_found.ensures.rows
    ∙ ap (slice_set c.args.window.now.rows c.args.access)
    (newest-told c.self.inside.older.items c.self.inside.newest.entries c.args.self.now c.args.key c.args.place None c.self.view_is c.self.invariant
    c.in-None.ensures.value)

pub returns-in-Some-clause-rows : goal.returns-in-Some-clause-rows
returns-in-Some-clause-rows c =
    let newest = c.in-Some.newest.now in
    let hit : ltb newest.place c.args.place ≡ true = grind (arith, nat_tests, c.if-newest-place.true) in
    c.set_found-in-Some.ensures.rows
    ∙ ap (slice_set c.args.window.now.rows c.args.access)
    (rw hit at (newest-told c.self.inside.older.items c.self.inside.newest.entries c.args.self.now c.args.key c.args.place (Some newest) c.self.view_is
    c.self.invariant c.in-Some.ensures.value))

pub returns-in-Some-2-clause-rows : goal.returns-in-Some-2-clause-rows
returns-in-Some-2-clause-rows c =
    let newest = c.in-Some.newest.now in
    let miss : ltb newest.place c.args.place ≡ false = grind (arith, nat_tests, c.if-newest-place.false) in
    c.set_replaced.ensures.rows
    ∙ ap (slice_set c.args.window.now.rows c.args.access)
    (rw miss at (newest-told c.self.inside.older.items c.self.inside.newest.entries c.args.self.now c.args.key c.args.place (Some newest)
    c.self.view_is c.self.invariant c.in-Some.ensures.value))
