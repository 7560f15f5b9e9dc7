use Rattle.model_base.specs.Privileges.{deeds_below}
use Rattle.grants_base.specs.Book.{view_of}
use Rattle.grants_base.specs.View.{ShowsDeeds}
use Rattle.explain.proofs.shown.denial_at.Goals as goal

pub returns : goal.returns
returns c = λ owners deeds shows.
    let told : ShowsDeeds (view_of c.at-view.result.book.now c.at-view.result.place) owners (deeds_below c.args.place deeds) =
    rw (c.at-view.ensures.book, c.at-view.ensures.place) (c.at-view.ensures.shows owners deeds shows) in
    c.denial.ensures.value owners (deeds_below c.args.place deeds) told
