use Rattle.std.proofs.Common.{◌≡◌, Some, None, true, false, ltb, ◌∙◌, arith}
use Rattle.std.proofs.lemmas.Bool.Decides.{nat_tests}
use Rattle.chains.proofs.Entries.{newest-told}
use Rattle.chains.proofs.rows.Rows.newest_before.Goals as goal

pub returns-in-None : goal.returns-in-None
returns-in-None c =
    newest-told c.self.inside.older.items c.self.inside.newest.entries c.args.self.now c.args.key c.args.place None c.self.view_is c.self.invariant
    c.in-None.ensures.value

pub returns-in-Some : goal.returns-in-Some
returns-in-Some c =
    let newest = c.in-Some.newest.now in
    let hit : ltb newest.place c.args.place ≡ true = grind (arith, nat_tests, c.if-newest-place.true) in
    rw hit at (newest-told c.self.inside.older.items c.self.inside.newest.entries c.args.self.now c.args.key c.args.place (Some newest) c.self.view_is
    c.self.invariant c.in-Some.ensures.value)

pub returns-in-Some-2 : goal.returns-in-Some-2
returns-in-Some-2 c =
    let newest = c.in-Some.newest.now in
    let miss : ltb newest.place c.args.place ≡ false = grind (arith, nat_tests, c.if-newest-place.false) in
    c.replaced_before.ensures
    ∙ rw miss at (newest-told c.self.inside.older.items c.self.inside.newest.entries c.args.self.now c.args.key c.args.place (Some newest)
    c.self.view_is c.self.invariant c.in-Some.ensures.value)
