use Rattle.std.proofs.Common.{◌≡◌, ◌∙◌, ℕ, List, ap, length, subst, sym}
use Rattle.model_base.specs.declared.deed.Deed.{Deed}
use Rattle.model_base.specs.Outcomes.{deeds_before, owners}
use Rattle.model_base.specs.Privileges.{deeds_below, holds}
use Rattle.grants_base.specs.Book.{Entries, ShowsBook, view_of}
use Rattle.grants_base.specs.View.{ShowsDeeds}
use Rattle.sequencer.specs.Log.{Accepted}
use Rattle.privileges_text.specs.HoldersText.{with_option}
use Rattle.privileges_text.proofs.Ended.{all_below}
use Rattle.privileges_text.proofs.holding.is_with_option.Goals as goal

pub returns : goal.returns
returns c =
    let run = c.args.engine.now in
    let log = run.log.statements in
    let deeds : List Deed = deeds_before log (length log) in
    let place : c.len.result ≡ length log = c.len.ensures.count ∙ ap (λ (l : Accepted). length l.statements) c.log.ensures.value in
    let shows : ShowsBook c.book_of.result.now (owners log) deeds =
    subst (λ (book : Entries). ShowsBook book (owners log) deeds) (sym c.book_of.ensures.value) c.book_of.ensures.shows in
    let told : ShowsDeeds (view_of c.at-view.result.book.now c.at-view.result.place) (owners log) (deeds_below c.len.result deeds) =
    rw (c.at-view.ensures.book, c.at-view.ensures.place) (c.at-view.ensures.shows (owners log) deeds shows) in
    let below : deeds_below c.len.result deeds ≡ deeds = ap (λ (n : ℕ). deeds_below n deeds) place ∙ all_below log in
    c.holds_option.ensures.value (owners log) (deeds_below c.len.result deeds) told
    ∙ ap (λ (ds : List Deed). holds (owners log) ds c.args.user (with_option c.args.need.now)) below
