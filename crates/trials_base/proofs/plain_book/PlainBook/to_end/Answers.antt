use Rattle.std.proofs.Common.{sym, subst, ℕ, List}
use Rattle.model_base.specs.declared.deed.Deed.{Deed}
use Rattle.model_base.proofs.Cuts.{deeds_below-whole}
use Rattle.grants_base.specs.Book.{Entries, view_of}
use Rattle.grants_base.specs.View.{ShowsDeeds}
use Rattle.trials_base.proofs.plain_book.PlainBook.to_end.Goals as goal

pub returns : goal.returns
returns c = λ owners deeds shows below.
    let place = c.args.revocation.now.place in
    let here = subst (λ (ds : List Deed). ShowsDeeds (view_of c.args.self.now place) owners ds) (deeds_below-whole place deeds below) (c.at.ensures.shows owners deeds shows) in
    let there = subst (λ (book : Entries). ShowsDeeds (view_of book place) owners deeds) (sym c.at.ensures.book) here in
    c.in_ok-ended.ensures.ended owners deeds (subst (λ (p : ℕ). ShowsDeeds (view_of c.at.result.book.now p) owners deeds) (sym c.at.ensures.place) there)
