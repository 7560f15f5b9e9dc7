use Rattle.std.proofs.Common.{◌≡◌, ◌∙◌, ap, sym, refl}
use Rattle.std.specs.Prelude.{slice_get}
use Rattle.grants_base.specs.Book.{Entries, owners_of, view_of}
use Rattle.model_base.specs.Paths.{path}
use Rattle.model_base.specs.Records.{in_force}
use Rattle.grants_base.specs.View.{View, entries}
use Rattle.explain.specs.Lines.{ranks_of}
use Rattle.explain.proofs.Showing.{owner_at, path_shown}
use Rattle.explain.proofs.paths.path_at.Goals as goal

pub returns : goal.returns
returns c = λ owners deeds shows.
    let need = c.args.need.now in
    let view = view_of c.at-view.result.book.now c.at-view.result.place in
    let same : view ≡ view_of c.args.book.now c.args.place = rw (c.at-view.ensures.book, c.at-view.ensures.place) refl in
    let owned : slice_get owners need.table ≡ view.owner need.table =
    owner_at c.args.book.now owners deeds need.table shows c.requires.covered ∙ ap (λ (b : Entries). slice_get (owners_of b.tables) need.table) (sym c.at-view.ensures.book) in
    c.in_ok-names.ensures.value owners owned
    ∙ ap (λ (v : View). ranks_of (path owners (in_force (entries v)) c.args.user need)) same
    ∙ path_shown c.args.book.now owners deeds c.args.place c.args.user need shows
