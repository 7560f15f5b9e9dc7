use Rattle.std.proofs.Common.{sym, subst, ℕ, List}
use Rattle.model_base.specs.declared.deed.Deed.{Deed}
use Rattle.model_base.proofs.Cuts.{deeds_below-whole}
use Rattle.grants_base.specs.Book.{Entries, view_of}
use Rattle.grants_base.specs.View.{ShowsDeeds}
use Rattle.grants.specs.Work.{AreEnds}
use Rattle.grants.proofs.EndedLaws.{ends_all, ends_within}
use Rattle.grants.proofs.book.Book.cascade.Goals as goal

pub returns-clause-ended : goal.returns-clause-ended
returns-clause-ended c = λ owners deeds shows below.
    let place = c.args.revocation.now.place in
    let here = subst (λ (ds : List Deed). ShowsDeeds (view_of c.args.self.now place) owners ds) (deeds_below-whole place deeds below) (c.at-view.ensures.shows owners deeds shows) in
    let there = subst (λ (book : Entries). ShowsDeeds (view_of book place) owners deeds) (sym c.at-view.ensures.book) here in
    c.in_ok-ended.ensures.ended owners deeds (subst (λ (p : ℕ). ShowsDeeds (view_of c.at-view.result.book.now p) owners deeds) (sym c.at-view.ensures.place) there)

pub returns-clause-slots : goal.returns-clause-slots
returns-clause-slots c =
    let revocation = c.args.revocation.now in
    let ended = c.in_ok-ended.ended in
    let seen = subst (λ (p : ℕ). AreEnds revocation (view_of c.at-view.result.book.now p) ended.ends ended.ranks) c.at-view.ensures.place c.in_ok-ended.ensures.ends in
    let are = subst (λ (book : Entries). AreEnds revocation (view_of book revocation.place) ended.ends ended.ranks) c.at-view.ensures.book seen in
    ends_within c.args.self.now revocation c.requires.later ended.ends ended.ranks are

pub returns-clause-value : goal.returns-clause-value
returns-clause-value c =
    let revocation = c.args.revocation.now in
    let ended = c.in_ok-ended.ended in
    let seen = subst (λ (p : ℕ). AreEnds revocation (view_of c.at-view.result.book.now p) ended.ends ended.ranks) c.at-view.ensures.place c.in_ok-ended.ensures.ends in
    let are = subst (λ (book : Entries). AreEnds revocation (view_of book revocation.place) ended.ends ended.ranks) c.at-view.ensures.book seen in
    ends_all c.args.self.now revocation c.requires.later c.tables-tables.ensures.sound.rising ended.ends ended.ranks are
