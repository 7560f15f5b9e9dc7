use Rattle.std.proofs.Common.{ap, refl, sym, subst}
use Rattle.model_base.specs.Outcomes.{needs}
use Rattle.checker.specs.Admission.{admitted_if}
use Rattle.checker.specs.Missing.{Covers}
use Rattle.grants_base.specs.Book.{Entries, IsLater, view_of}
use Rattle.grants_base.specs.View.{ShowsDeeds}
use Rattle.engine.proofs.Holding.{has_found, none_missing}
use Rattle.engine.proofs.remembering.RememberingBook.admit.Goals as goal

pub returns-then-has_all-clause-value : goal.returns-then-has_all-clause-value
returns-then-has_all-clause-value c = λ owners deeds shows.
    let book = c.self.inside.book in
    let place = c.args.place in
    let form = c.args.statement.now.form in
    let user = c.args.statement.now.user in
    let later = subst (λ (b : Entries). IsLater b place) (sym c.self.view_is) c.requires.later in
    let covered = subst (λ (b : Entries). Covers (view_of b place) (needs form)) (sym c.self.view_is) c.requires.covered in
    let here = subst (λ (b : Entries). ShowsDeeds (view_of b place) owners deeds) (sym c.self.view_is) shows in
    ap (admitted_if owners deeds user) (sym (none_missing book place owners deeds user (needs form) later here covered (c.has_all.ensures c.if-has_all.true book c.self.invariant)))

pub invariant_of-self : goal.invariant_of-self
invariant_of-self c =
    let book = c.self.inside.book in
    let later = subst (λ (b : Entries). IsLater b c.args.place) (sym c.self.view_is) c.requires.later in
    c.remember.ensures book c.self.invariant
    (has_found book c.args.place c.args.statement.now.user (needs c.args.statement.now.form) later ((rw (c.at.ensures.book, c.at.ensures.place) at c.in-Admitted.ensures.held) refl))

pub returns-in-Admitted-clause-value : goal.returns-in-Admitted-clause-value
returns-in-Admitted-clause-value c = λ owners deeds shows.
    (rw (c.at.ensures.book, c.at.ensures.place) at c.admit-admission.ensures.value) owners deeds
    (subst (λ (b : Entries). ShowsDeeds (view_of b c.args.place) owners deeds) (sym c.self.view_is) shows)

pub returns-in_default-clause-value : goal.returns-in_default-clause-value
returns-in_default-clause-value c = λ owners deeds shows.
    (rw (c.at.ensures.book, c.at.ensures.place) at c.admit-admission.ensures.value) owners deeds
    (subst (λ (b : Entries). ShowsDeeds (view_of b c.args.place) owners deeds) (sym c.self.view_is) shows)
