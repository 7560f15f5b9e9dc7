-- What a place of a log results in, run over what is before it.
use Rattle.std.proofs.Common.{◌≡◌, ◌≤◌, ◌+◌, ◌++◌, ℕ, ℤ, false, List, [], ◌∷◌, Option, Some, None, filter, length, map, take, refl, ap, sym, ◌∙◌, subst, arith}
use Rattle.std.specs.Prelude.{slice_get}
use Rattle.std.specs.Option.{option_map_or}
use mathlib.Core.Path.{fun_ext}
use Rattle.model_base.specs.declared.deed.Cause.{Cause}
use Rattle.model_base.specs.declared.deed.Deed.{Deed}
use Rattle.model_base.specs.declared.deed.Need.{Need}
use Rattle.model_base.specs.declared.outcome.Outcome.{Outcome}
use Rattle.model_base.specs.declared.statement.Access.{Access}
use Rattle.model_base.specs.declared.statement.Form.{Form}
use Rattle.model_base.specs.declared.statement.Statement.{Statement}
use Rattle.model_base.specs.Body.{Ending, completed}
use Rattle.model_base.specs.Growing.{NeedsWithin}
use Rattle.model_base.specs.Outcomes.{World, body, changed, deeds_before, deeds_of, ended, judged, missing, needs, owners, rows_before, step_form, world_before}
use Rattle.model_base.specs.Rows.{Rows}
use Rattle.model_base.specs.Versions.{accesses_of, is_writing, writes_of}
use Rattle.model_base.proofs.Replay.{by_cases}
use Rattle.body.specs.declared.ending.BodyEnd.{BodyEnd}
use Rattle.body.specs.declared.window.Window.{Window}
use Rattle.body.specs.Ending.{ending_of}
use Rattle.body.specs.Premises.{HasFittingBody}
use Rattle.body.specs.Shown.{WindowShows, with_rows}
use Rattle.chains.specs.declared.version.Version.{Version}
use Rattle.chains.specs.Store.{IsRight, Store, rows_at_end, versions_at, versions_by}
use Rattle.checker.specs.Admission.{admission, admitted_if}
use Rattle.checker.specs.Missing.{Covers}
use Rattle.checker.specs.declared.admission.Admission.{Admission}
use Rattle.grants_base.specs.Book.{Entries, view_of}
use Rattle.own_words.specs.Words.{creates}
use Rattle.engine.specs.Known.{AreKnown, AreNamed, AreNamedFrom}
use Rattle.engine.specs.declared.state.RunState.{RunState}
use Rattle.engine.specs.RunState.{IsBookState, IsRunState}
use Rattle.engine.specs.Running.{AddsFrom}
use Rattle.filling.proofs.Making.{made_none, owned}
use Rattle.filling.proofs.Stepping.{Leads, at_tables, counted, leads, make_owners}

-- a right store that ends at a place tells the rows before it
pub rows-are : (log : List Statement) (store : Store) (place : ℕ) → store.mark ≤ store.end → store.end ≡ place → IsRight log store → rows_at_end store ≡ rows_before log place
rows-are log store place within is right =
    fun_ext (λ table. fun_ext (λ row. right store.end (record { table = table; row = row }) within (omega arith) ∙ ap (λ (n : ℕ). rows_before log n table row) is))

module _ (log : List Statement) (place : ℕ) (statement : Statement) (at : slice_get log place ≡ Some statement) where
  abbrev own : List ℕ
  own = owners log

  abbrev world : World
  world = world_before log place

  abbrev deeds : List Deed
  deeds = deeds_of place statement.user statement.form

  judged-form : (form : Form) → creates form ≡ false → step_form own place world statement form ≡ judged own place world statement (missing own world statement.user form)
  judged-form (Form.Create table columns) other = absurd (cc)
  judged-form form other = refl

  -- what the first missing need denies
  denied : (need : Need) (why : Cause) (found : Option Need) → Admission.Denied need why ≡ admitted_if own world.deeds statement.user found
      → judged own place world statement found ≡ (Outcome.Denied need why, world)
  denied need why None is = absurd (cc)
  denied need why (Some other) is = ap (λ (d : Outcome). (d, world)) (cc)

  pub denied-leads : creates statement.form ≡ false → (need : Need) (why : Cause) → Admission.Denied need why ≡ admission own world.deeds statement.user statement.form
      → Leads log place statement at (Outcome.Denied need why, world)
  denied-leads other need why is =
      leads log place statement at (Outcome.Denied need why, world)
      (judged-form statement.form other ∙ denied need why (missing own world statement.user statement.form) is)

  -- what the body in a window ends with
  abbrev Left : Window → BodyEnd → Ending
  Left ran end = ending_of end (with_rows (accesses_of statement.form) ran.rows world.rows) ran.outputs

  -- the place results in it
  abbrev pub Ends : Window → BodyEnd → Type 0
  Ends ran end = Leads log place statement at (ended own world deeds (Left ran end), changed world deeds (Left ran end))

  pub ended-leads : creates statement.form ≡ false → missing own world statement.user statement.form ≡ None → (store : Store) → store.mark ≤ store.end
      → (book : Entries) → IsRunState log place store book → (window ran : Window) → WindowShows (accesses_of statement.form) window (rows_at_end store)
      → (found end : BodyEnd) → found ≡ end → ((rows : Rows) → WindowShows (accesses_of statement.form) window rows
      → body rows statement.form ≡ ending_of found (with_rows (accesses_of statement.form) ran.rows rows) ran.outputs)
      → Ends ran end
  ended-leads other none store within book stands window ran shows found end is ends =
      let same = subst (WindowShows (accesses_of statement.form) window) (rows-are log store place within stands.ends stands.right) shows in
      leads log place statement at (ended own world deeds (Left ran end), changed world deeds (Left ran end))
      (judged-form statement.form other
      ∙ ap (judged own place world statement) none
      ∙ ap (λ (e : Ending). (ended own world deeds e, changed world deeds e)) (ends world.rows same ∙ ap (Left ran) is))

  -- the deeds after a body that completes
  pub completed-deeds : (rows : Rows) (outputs : List ℤ) (made : List Deed) → world_before log (place + 1) ≡ changed world deeds (completed rows outputs) → made ≡ deeds
      → deeds_before log (place + 1) ≡ deeds_before log place ++ made
  completed-deeds rows outputs made is same = ap (λ (w : World). w.deeds) is ∙ ap (λ ds. world.deeds ++ ds) (sym same)

  -- where a place leaves the world as it is, the book is after it too
  pub same-booked : (book : Entries) → IsBookState log place book → AreKnown log → creates statement.form ≡ false → world_before log (place + 1) ≡ world
      → IsBookState log (place + 1) book
  same-booked book stands known other same =
      made_none log place book stands (make_owners log place statement at book stands known other) (ap (λ (w : World). w.deeds) same)

  -- the versions of a place whose accesses have these rows after it
  abbrev version_of : Rows → Access → Version
  version_of rows access = record { place = place; key = access.key; row = rows access.key.table access.key.row }

  by-shown : (rows : Rows) (accesses : List Access) (contents : List (Option (List ℤ))) → take (length accesses) contents ≡ map (λ (access : Access). rows access.key.table access.key.row) accesses
      → versions_by place accesses contents ≡ map (version_of rows) (filter is_writing accesses)
  by-shown rows [] contents shows = refl
  by-shown rows (access ∷ accesses) [] shows = absurd (cc)
  by-shown rows (access ∷ accesses) (content ∷ contents) shows =
      let first : content ≡ rows access.key.table access.key.row = cc in
      let rest = by-shown rows accesses contents (cc) in
      by_cases (is_writing access) (λ writes. rw (writes, first, rest) refl) (λ reads. rw (reads, rest) refl)

  pub placed-versions : (rows : Rows) (contents : List (Option (List ℤ))) → rows_before log (place + 1) ≡ rows
      → take (length (accesses_of statement.form)) contents ≡ map (λ (access : Access). rows access.key.table access.key.row) (accesses_of statement.form)
      → versions_by place (accesses_of statement.form) contents ≡ versions_at log place
  placed-versions rows contents after shows =
      by-shown rows (accesses_of statement.form) contents shows
      ∙ ap (λ (rs : Rows). map (version_of rs) (writes_of statement)) (sym after)
      ∙ ap (λ (found : Option Statement). map (version_of (rows_before log (place + 1))) (option_map_or writes_of found [])) (sym at)

-- a body that fits a window has no more accesses than that has rows
pub few_accesses : (form : Form) → HasFittingBody form → length (accesses_of form) ≤ 16
few_accesses (Form.Run accesses steps deed) fits = fits.places
few_accesses form fits = omega arith

-- the book covers what the place needs
pub covers-needs : (log : List Statement) (place : ℕ) (statement : Statement) → slice_get log place ≡ Some statement → (book : Entries) → IsBookState log place book → AreNamed log
    → Covers (view_of book place) (needs statement.form)
covers-needs log place statement at book stands named =
    let low : NeedsWithin (length book.tables) statement =
    at_tables NeedsWithin AreNamedFrom (λ tables first rest are. are) 0 (length book.tables) log place statement named at (counted log place book stands) in
    λ k need within. owned book.tables _ (low k need within)

-- an admitted statement lacks nothing
pub lacks-none : (owners : List ℕ) (deeds : List Deed) (user : ℕ) (found : Option Need) → Admission.Admitted ≡ admitted_if owners deeds user found → found ≡ None
lacks-none owners deeds user None is = refl
lacks-none owners deeds user (Some other) is = absurd (cc)

-- what was added from a place on, and then from a later one, was added from the first on
pub adds-more : (place next : ℕ) (before middle after : RunState) → place ≤ next → AddsFrom place before middle → AddsFrom next middle after
    → AddsFrom place before after
adds-more place next before middle after low first second = record {
  mark = second.mark ∙ first.mark;
  end = omega (arith, first.end, second.end);
  chains = λ at below. second.chains at (omega (arith, below, low)) ∙ first.chains at below;
  book = λ at below. second.book at (omega (arith, below, low)) ∙ first.book at below;
}
