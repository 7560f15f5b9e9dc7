-- The book moved on over one place.
use Rattle.std.proofs.Common.{◌≡◌, ◌<◌, ◌+◌, ◌++◌, ℕ, zero, suc, Bool, true, false, List, [], ◌∷◌, Option, Some, None, drop, length, map, take, refl, ap, sym, ◌∙◌, subst, arith}
use Rattle.std.specs.Prelude.{All, if◌then◌else◌, slice_get}
use Rattle.std.specs.Option.{option_map}
use Rattle.std.proofs.lemmas.List.{append-nil, length-append, length-map, map-append, take-append-drop}
use Rattle.std.proofs.lemmas.List.Elements.{All-append, All-cons, All-head, All-nil}
use Rattle.model_base.specs.declared.deed.Deed.{Deed}
use Rattle.model_base.specs.declared.deed.Deed.TheVariants.{Granting}
use Rattle.model_base.specs.declared.deed.Grantee.{Grantee}
use Rattle.model_base.specs.declared.deed.Kind.{Kind}
use Rattle.model_base.specs.declared.deed.Need.{Need}
use Rattle.model_base.specs.declared.deed.Position.{Position}
use Rattle.model_base.specs.declared.outcome.Outcome.{Outcome}
use Rattle.model_base.specs.declared.statement.DeedForm.{DeedForm}
use Rattle.model_base.specs.declared.statement.Form.{Form}
use Rattle.model_base.specs.declared.statement.Statement.{Statement}
use Rattle.model_base.specs.Body.{Ending, completed}
use Rattle.model_base.specs.Outcomes.{World, at_place, body, changed, creator, deeds_at, deeds_before, deeds_of, ended, grant_to, grants_at, grants_of_kind, judged, kinds_in, missing, outcome, owners, positions, step_form, world_before}
use Rattle.model_base.specs.References.{deed_tables}
use Rattle.grants_base.specs.Book.{Entries, IsLater, ShowsBook, owners_of, table_of_deed, with_table}
use Rattle.grants_base.specs.declared.entries.Creation.{Creation}
use Rattle.own_words.specs.Words.{creates}
use Rattle.filling.proofs.CellsTold.{took, world-next}
use Rattle.filling.specs.Known.{AreKnown, AreKnownFrom, IsKnown}
use Rattle.filling.specs.BookState.{IsBookState, is_completed}
use Rattle.model_base.proofs.Growing.{owners-append}

-- the deeds, if they were made
abbrev pub made_of : Bool → List Deed → List Deed
made_of done deeds = if done then deeds else []

module _ (own : List ℕ) (place : ℕ) (world : World) (statement : Statement) where
  abbrev deeds_here : List Deed
  deeds_here = deeds_of place statement.user statement.form

  -- the deeds after a step: those before it, and its own if its body completed
  abbrev Makes : Outcome × World → Type 0
  Makes step = step.1.deeds ≡ world.deeds ++ made_of (is_completed step.0) deeds_here

  deeds-changed : (ending : Ending) → Makes (ended own world deeds_here ending, changed world deeds_here ending)
  deeds-changed (completed rows outputs) = refl
  deeds-changed ending = sym (append-nil world.deeds)

  deeds-judged : (lack : Option Need) → Makes (judged own place world statement lack)
  deeds-judged (Some need) = sym (append-nil world.deeds)
  deeds-judged None = deeds-changed (body world.rows statement.form)

  deeds-form : (form : Form) → Makes (step_form own place world statement form)
  deeds-form (Form.Create table columns) = sym (append-nil world.deeds)
  deeds-form form = deeds-judged (missing own world statement.user form)

-- what holds of each statement, by the tables before it
pub at_tables : (P : ℕ → Statement → Type 0) (Are : ℕ → List Statement → Type 0)
    → ((tables : ℕ) (first : Statement) (log : List Statement) → Are tables (first ∷ log) → P tables first × Are (tables + length (creator first.user first.form)) log)
    → (tables count : ℕ) (log : List Statement) (place : ℕ) (statement : Statement) → Are tables log → slice_get log place ≡ Some statement
    → count ≡ tables + length (owners (take place log)) → P count statement
at_tables P Are each tables count [] place statement are at is = absurd (cc)
at_tables P Are each tables count (first ∷ log) zero statement are at is =
    let same : first ≡ statement = cc in
    let none : tables ≡ count = omega arith in
    subst (P count) same (subst (λ (n : ℕ). P n first) none (each tables first log are).0)
at_tables P Are each tables count (first ∷ log) (suc place) statement are at is =
    let made = creator first.user first.form in
    at_tables P Are each (tables + length made) count log place statement (each tables first log are).1 at (omega (arith, is, length-append made (owners (take place log))))

pub counted : (log : List Statement) (place : ℕ) (book : Entries) → IsBookState log place book → length book.tables ≡ 0 + length (owners (take place log))
counted log place book stands = omega (arith, ap length stands.owned, length-map book.tables (λ (c : Creation). c.owner))

-- what a deed form makes is on its table
form-table : (place user : ℕ) (form : DeedForm) (P : ℕ → Type 0) → All P (deed_tables (Form.Deed form)) → All (λ made. P (table_of_deed made)) (deeds_at place user form)
form-table place user (DeedForm.Grant kinds table grantees option) P on =
    each_kind (kinds_in kinds)
  where
    here : P table
    here = All-head P table [] on

    each_grantee : (kind : Kind) (order : List Position) (to : List Grantee)
        → All (λ made. P (table_of_deed made)) (map Granting (grants_of_kind place user kind table option order to))
    each_grantee kind [] to = All-nil (λ made. P (table_of_deed made))
    each_grantee kind (position ∷ order) [] = All-nil (λ made. P (table_of_deed made))
    each_grantee kind (position ∷ order) (grantee ∷ to) =
        All-cons (λ made. P (table_of_deed made)) (Granting (grant_to place user kind table option position grantee))
        (map Granting (grants_of_kind place user kind table option order to)) here (each_grantee kind order to)

    each_kind : (kinds : List Kind) → All (λ made. P (table_of_deed made)) (map Granting (grants_at place user table option grantees kinds))
    each_kind [] = All-nil (λ made. P (table_of_deed made))
    each_kind (kind ∷ kinds) =
        let first = grants_of_kind place user kind table option positions grantees in
        let rest = grants_at place user table option grantees kinds in
        subst (All (λ made. P (table_of_deed made))) (sym (map-append Granting first rest))
        (All-append (λ made. P (table_of_deed made)) (map Granting first) (map Granting rest) (each_grantee kind positions grantees) (each_kind kinds))
form-table place user (DeedForm.Revoke kinds table grantees) P on =
    All-cons (λ made. P (table_of_deed made)) _ [] (All-head P table [] on) (All-nil (λ made. P (table_of_deed made)))

-- so the deeds of a form are on known tables
deeds-known : (tables place user : ℕ) (form : Form) → IsKnown tables form → All (λ made. table_of_deed made < tables) (deeds_of place user form)
deeds-known tables place user (Form.Run accesses steps (Some deed)) known = form-table place user deed (λ table. table < tables) known
deeds-known tables place user (Form.Deed deed) known = form-table place user deed (λ table. table < tables) known
deeds-known tables place user form known = All-nil (λ made. table_of_deed made < tables)

-- a form that creates a table has its user as the creator, and room for the table; another has no creator
pub no-creator : (user : ℕ) (form : Form) → creates form ≡ false → creator user form ≡ []
no-creator user (Form.Create table columns) other = absurd (cc)
no-creator user form other = refl

creating-form : (tables user : ℕ) (form : Form) → creates form ≡ true → IsKnown tables form → (creator user form ≡ user ∷ []) × (tables < 65536)
creating-form tables user (Form.Create table columns) creating known = (refl, known)
creating-form tables user form creating known = absurd (cc)

module _ (log : List Statement) (place : ℕ) (statement : Statement) (at : slice_get log place ≡ Some statement) where
  owners-more : owners (take (place + 1) log) ≡ owners (take place log) ++ creator statement.user statement.form
  owners-more =
      let one : place + 1 ≡ suc place = omega arith in
      ap (λ n. owners (take n log)) one
      ∙ ap owners (took place log statement at)
      ∙ owners-append (take place log) (statement ∷ [])
      ∙ ap (λ os. owners (take place log) ++ os) (append-nil (creator statement.user statement.form))

  -- the place results in this outcome, and this is after it
  abbrev pub Leads : Outcome × World → Type 0
  Leads step = (outcome log place ≡ Some step.0) × (world_before log (place + 1) ≡ step.1)

  pub leads : (step : Outcome × World) → at_place (owners log) place (world_before log place) statement ≡ step → Leads step
  leads step is = (
    ap (option_map (λ s. (at_place (owners log) place (world_before log place) s).0)) at ∙ ap (λ (s : Outcome × World). Some s.0) is,
    world-next log place statement at ∙ ap (λ (s : Outcome × World). s.1) is,
  )

  created-form : (form : Form) → creates form ≡ true → step_form (owners log) place (world_before log place) statement form ≡ (Outcome.Created, world_before log place)
  created-form (Form.Create table columns) creating = refl
  created-form form creating = absurd (cc)

  pub created-leads : creates statement.form ≡ true → Leads (Outcome.Created, world_before log place)
  created-leads creating = leads (Outcome.Created, world_before log place) (created-form statement.form creating)

  -- the deeds after the place
  pub make_next : (came : Outcome) → outcome log place ≡ Some came
      → deeds_before log (place + 1) ≡ deeds_before log place ++ made_of (is_completed came) (deeds_of place statement.user statement.form)
  make_next came is =
      let here = (at_place (owners log) place (world_before log place) statement).0 in
      let both : Some here ≡ Some came = sym (ap (option_map (λ s. (at_place (owners log) place (world_before log place) s).0)) at) ∙ is in
      let same : here ≡ came = cc in
      ap (λ (w : World). w.deeds) (world-next log place statement at)
      ∙ deeds-form (owners log) place (world_before log place) statement statement.form
      ∙ ap (λ (o : Outcome). deeds_before log place ++ made_of (is_completed o) (deeds_of place statement.user statement.form)) same

  module _ (book : Entries) (stands : IsBookState log place book) (known : AreKnown log) where
    known-here : IsKnown (length book.tables) statement.form
    known-here = at_tables (λ tables one. IsKnown tables one.form) AreKnownFrom (λ tables first rest are. are) 0 (length book.tables) log place statement known at (counted log place book stands)

    pub make_owners : creates statement.form ≡ false → owners (take (place + 1) log) ≡ owners (take place log)
    make_owners other =
        owners-more ∙ ap (λ os. owners (take place log) ++ os) (no-creator statement.user statement.form other) ∙ append-nil (owners (take place log))

    pub make_table : All (λ made. table_of_deed made < length book.tables) (deeds_of place statement.user statement.form)
    make_table = deeds-known (length book.tables) place statement.user statement.form known-here

    module _ (creating : creates statement.form ≡ true) where
      pub made_here : (creator statement.user statement.form ≡ statement.user ∷ []) × (length book.tables < 65536)
      made_here = creating-form (length book.tables) statement.user statement.form creating known-here

      pub create_room : length book.tables < 65536
      create_room = made_here.1

      pub created : (after : Entries) → after ≡ with_table book (record { owner = statement.user; place = place })
          → ((owned more : List ℕ) (deeds : List Deed) → ShowsBook book owned deeds → owned ≡ owners_of after.tables ++ more → ShowsBook after owned deeds)
          → ((next : ℕ) → place < next → IsLater after next) → IsBookState log (place + 1) after
      created after is shows later =
          let owned : owners_of after.tables ≡ owners (take (place + 1) log) =
          ap (λ (b : Entries). owners_of b.tables) is
          ∙ map-append (λ (c : Creation). c.owner) book.tables (record { owner = statement.user; place = place } ∷ [])
          ∙ ap (λ os. os ++ statement.user ∷ []) stands.owned
          ∙ sym (owners-more ∙ ap (λ os. owners (take place log) ++ os) made_here.0) in
          let begins : owners log ≡ owners_of after.tables ++ owners (drop (place + 1) log) =
          ap owners (sym (take-append-drop (place + 1) log))
          ∙ owners-append (take (place + 1) log) (drop (place + 1) log)
          ∙ ap (λ os. os ++ owners (drop (place + 1) log)) (sym owned) in
          let stay : deeds_before log (place + 1) ≡ deeds_before log place = ap (λ (w : World). w.deeds) (created-leads creating).1 in
          record {
            shown = subst (ShowsBook after (owners log)) (sym stay) (shows (owners log) (owners (drop (place + 1) log)) (deeds_before log place) stands.shown begins);
            later = later (place + 1) (omega arith);
            owned = owned;
          }
