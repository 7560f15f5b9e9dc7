use Rattle.std.proofs.Common.{◌≡◌, true, false, ◌&&◌, ltb, is_none, subst, sym, ◌∙◌, ap, arith}
use Rattle.std.proofs.lemmas.Bool.Decides.{nat_tests}
use Rattle.chains.specs.Keyed.{Held}
use Rattle.chains.specs.Kept.{IsStoreKept}
use Rattle.chains.specs.Store.{is_spent, of_key}
use Rattle.chains.proofs.Entries.{absent-none}
use Rattle.chains.proofs.Placed.{none-asked}
use Rattle.chains.proofs.Sweeping.{spent-found}
use Rattle.chains.proofs.rows.Rows.is_spent.Goals as goal
use Rattle.chains.proofs.rows.Rows.is_spent.Goals.{In-Some}

pub returns-in-None : goal.returns-in-None
returns-in-None c =
    sym (ap (is_spent c.args.mark) (absent-none c.args.key c.self.inside.older.items c.self.inside.newest.entries (sym c.in-None.ensures.value)))
    ∙ ap (λ (held : Held). is_spent c.args.mark (of_key c.args.key held.versions)) c.self.view_is

spent : (c : In-Some) → is_spent c.args.mark (of_key c.args.key c.args.self.now.versions)
    ≡ (ltb c.in-Some.newest.now.place c.args.mark && is_none c.in-Some.newest.now.row)
spent c =
    sym (ap (λ (held : Held). is_spent c.args.mark (of_key c.args.key held.versions)) c.self.view_is)
    ∙ spent-found c.args.mark c.requires.1 c.self.inside.older.items c.self.inside.newest.entries c.requires.0 c.args.key c.in-Some.newest.now
    (subst (λ (held : Held). IsStoreKept held c.requires.0 c.args.mark c.requires.1) (sym c.self.view_is) c.requires.2)
    c.self.invariant (sym c.in-Some.ensures.value)

pub returns-then-newest-mark : goal.returns-then-newest-mark
returns-then-newest-mark c =
    let hit : ltb c.in-Some.newest.now.place c.args.mark ≡ true = grind (arith, nat_tests, c.if-newest-mark.true) in
    none-asked c.in-Some.newest.now.row c.is_none.result c.is_none.ensures
    ∙ sym (ap (λ b. b && is_none c.in-Some.newest.now.row) hit)
    ∙ sym (spent (goal.at.returns-then-newest-mark c).In-Some)

pub returns-else-newest-mark : goal.returns-else-newest-mark
returns-else-newest-mark c =
    let miss : ltb c.in-Some.newest.now.place c.args.mark ≡ false = grind (arith, nat_tests, c.if-newest-mark.false) in
    miss ∙ sym (ap (λ b. b && is_none c.in-Some.newest.now.row) miss) ∙ sym (spent (goal.at.returns-else-newest-mark c).In-Some)
