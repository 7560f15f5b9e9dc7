-- Along a path places rise where the grants of a place have one grantor, as those of a log do: the earliest that gives its option isn't
-- one of them.
use Rattle.std.proofs.Common.{◌≡◌, ◌<◌, ◌≤◌, ◌+◌, ◌++◌, ◌∷◌, ℕ, Bool, true, List, [], Option, Some, None, drop, get_or, length, map, take, refl, sym, ◌∙◌, ap, subst, append_assoc, length-append, arith, inl, inr}
use Rattle.std.specs.Prelude.{All, Contains, reverse, slice_get}
use Rattle.std.proofs.lemmas.Bool.{cases_lt, true≢false}
use Rattle.std.proofs.lemmas.List.{take-append-drop}
use Rattle.std.proofs.lemmas.List.Elements.{All-append, All-cons, All-contains, All-contains_itself, All-head, All-nil, All-push, All-tail, All-weaker}
use Rattle.model_base.specs.declared.deed.Deed.{Deed}
use Rattle.model_base.specs.declared.deed.Deed.TheVariants.{Granting}
use Rattle.model_base.specs.declared.deed.Grant.{Grant}
use Rattle.model_base.specs.declared.deed.Grantee.{Grantee}
use Rattle.model_base.specs.declared.deed.Kind.{Kind}
use Rattle.model_base.specs.declared.deed.Need.{Need}
use Rattle.model_base.specs.declared.deed.Position.{Position}
use Rattle.model_base.specs.declared.statement.DeedForm.{DeedForm}
use Rattle.model_base.specs.declared.statement.Form.{Form}
use Rattle.model_base.specs.declared.statement.Statement.{Statement}
use Rattle.model_base.specs.Body.{Ending, completed, aborted, undeclared}
use Rattle.model_base.specs.Laws.{IsRising}
use Rattle.model_base.specs.Outcomes.{World, at_place, body, changed, deeds_at, deeds_before, deeds_of, empty_world, grants_at, grants_of_kind, judged, kinds_in, missing, owners, positions, step_form, world_after}
use Rattle.model_base.specs.Paths.{path, path_back}
use Rattle.model_base.specs.Privileges.{IsProper, deeds_below, gives, has, kept, option_of}
use Rattle.model_base.specs.Records.{grants_of}
use Rattle.model_base.proofs.Growth.{deeds_before-stands}
use Rattle.model_base.proofs.Parts.{part-all}
use Rattle.model_base.proofs.Paths.{IsBorne, borne-kept, reverse-cons}
use Rattle.model_base.proofs.Places.{IsRising-kept}
use Rattle.model_base.proofs.Ranked.{rank-places}
use Rattle.model_base.proofs.Recorded.{part-grants_below, part-kept_grants}
use Rattle.model_base.proofs.Records.{grants-append}
use Rattle.model_base.proofs.Replay.{by_cases}
use Rattle.grants.proofs.Passing.{given}
use Rattle.explain.specs.Lines.{HaveOneGrantor, PlacesRise}

-- one grant more, at a later place
rise-snoc : (grants : List Grant) (grant : Grant) → PlacesRise grants → All (λ (earlier : Grant). earlier.place < grant.place) grants
    → PlacesRise (grants ++ grant ∷ [])
rise-snoc [] grant rise below = (All-nil (λ (later : Grant). grant.place < later.place), tt)
rise-snoc (first ∷ grants) grant rise below = (
  All-push (λ (later : Grant). first.place < later.place) grants grant rise.0 (All-head (λ (earlier : Grant). earlier.place < grant.place) first grants below),
  rise-snoc grants grant rise.1 (All-tail (λ (earlier : Grant). earlier.place < grant.place) first grants below),
)

-- the grant isn't above the place, and is by the user if it is at it
abbrev IsUnder : ℕ → ℕ → Grant → Type 0
IsUnder place user grant = (grant.place ≤ place) × (grant.place ≡ place → grant.grantor ≡ user)

-- of grants that are listed last first, those after each are under its place, and by its grantor if they are at it
abbrev FallBack : List Grant → Type 0
FallBack [] = Unit {0}
FallBack (grant ∷ earlier) = All (IsUnder grant.place grant.grantor) earlier × FallBack earlier

module _ (own : List ℕ) where
  -- what holds of all grants holds of those on the path
  all-path_back : (P : Grant → Type 0) (grants : List Grant) (user : ℕ) (need : Need) → All P grants → All P (path_back own grants user need)
  all-path_back P [] user need all = All-nil P
  all-path_back P (grant ∷ earlier) user need all =
      let rest = All-tail P grant earlier all in
      by_cases (has own earlier user need)
      (λ held. rw held (all-path_back P earlier user need rest))
      (λ lacks. by_cases (gives grant user need)
      (λ gave. rw (lacks, gave)
      (All-push P (path_back own earlier grant.grantor (option_of grant)) grant (all-path_back P earlier grant.grantor (option_of grant) rest) (All-head P grant earlier all)))
      (λ other. rw (lacks, other) (All-nil P)))

  -- a grant that gives an option needs that of its grantor
  same-option : (grant : Grant) (user : ℕ) (need : Need) → need.option ≡ true → gives grant user need ≡ true → option_of grant ≡ need
  same-option grant user need option gave =
      let is = given grant user need gave in
      ap (λ (kind : Kind). record { table = grant.table; kind = kind; option = true }) is.kind
      ∙ ap (λ (table : ℕ). record { table = table; kind = need.kind; option = true }) is.table
      ∙ ap (λ (with : Bool). record { table = need.table; kind = need.kind; option = with }) (sym option)

  -- the path of a user's option is below a place, if the grants at the place are all by the user
  path_back-below : (grants : List Grant) (place user : ℕ) (need : Need) → need.option ≡ true → IsBorne own grants → FallBack grants
      → All (IsUnder place user) grants → All (λ (grant : Grant). grant.place < place) (path_back own grants user need)
  path_back-below [] place user need option borne falls under = All-nil (λ (grant : Grant). grant.place < place)
  path_back-below (grant ∷ earlier) place user need option borne falls under =
      let Below : Grant → Type 0 = λ (one : Grant). one.place < place in
      let here = All-head (IsUnder place user) grant earlier under in
      by_cases (has own earlier user need)
      (λ held. rw held (path_back-below earlier place user need option borne.1 falls.1 (All-tail (IsUnder place user) grant earlier under)))
      (λ lacks. by_cases (gives grant user need)
      (λ gave.
      let lower : grant.place < place = elim (cases_lt grant.place place) [
        | inl less ↦ less
        | inr more ↦
            let at : grant.place ≡ place = omega (arith, here.0, more) in
            let held : has own earlier user need ≡ true =
            ap (λ (u : ℕ). has own earlier u need) (sym (here.1 at)) ∙ ap (has own earlier grant.grantor) (sym (same-option grant user need option gave)) ∙ borne.0 in
            absurd (true≢false (sym held ∙ lacks))
      ] in
      rw (lacks, gave)
      (All-push Below (path_back own earlier grant.grantor (option_of grant)) grant
      (all-path_back Below earlier grant.grantor (option_of grant)
      (All-weaker (IsUnder grant.place grant.grantor) Below (λ one is. let low = is.0 in omega (arith, low, lower)) earlier falls.0)) lower))
      (λ other. rw (lacks, other) (All-nil Below)))

  -- so places rise along a path
  path_back-rises : (grants : List Grant) (user : ℕ) (need : Need) → IsBorne own grants → FallBack grants → PlacesRise (path_back own grants user need)
  path_back-rises [] user need borne falls = tt
  path_back-rises (grant ∷ earlier) user need borne falls =
      by_cases (has own earlier user need)
      (λ held. rw held (path_back-rises earlier user need borne.1 falls.1))
      (λ lacks. by_cases (gives grant user need)
      (λ gave. rw (lacks, gave)
      (rise-snoc (path_back own earlier grant.grantor (option_of grant)) grant (path_back-rises earlier grant.grantor (option_of grant) borne.1 falls.1)
      (path_back-below earlier grant.place grant.grantor (option_of grant) refl borne.1 falls.1 falls.0)))
      (λ other. rw (lacks, other) tt))

-- what holds of all grants holds of them last first
pub all-reverse : (P : Grant → Type 0) (grants : List Grant) → All P grants → All P (reverse grants)
all-reverse P [] all = all
all-reverse P (grant ∷ grants) all =
    subst (All P) (sym (reverse-cons grant grants))
    (All-push P (reverse grants) grant (all-reverse P grants (All-tail P grant grants all)) (All-head P grant grants all))

falls-snoc : (grants : List Grant) (grant : Grant) → FallBack grants → All (λ (later : Grant). IsUnder later.place later.grantor grant) grants → FallBack (grants ++ grant ∷ [])
falls-snoc [] grant falls under = (All-nil (IsUnder grant.place grant.grantor), tt)
falls-snoc (first ∷ grants) grant falls under = (
  All-push (IsUnder first.place first.grantor) grants grant falls.0 (All-head (λ (later : Grant). IsUnder later.place later.grantor grant) first grants under),
  falls-snoc grants grant falls.1 (All-tail (λ (later : Grant). IsUnder later.place later.grantor grant) first grants under),
)

-- the grants of a place are by the user of its statement
abbrev IsOf : List Statement → Grant → Type 0
IsOf log grant = (statement : Statement) × ((slice_get log grant.place ≡ Some statement) × (grant.grantor ≡ statement.user))

one-grantor : (log : List Statement) (grant later : Grant) → IsOf log grant → IsOf log later → grant.place ≡ later.place → grant.grantor ≡ later.grantor
one-grantor log grant later is last same =
    let both : Some is.0 ≡ Some last.0 = sym is.1.0 ∙ ap (slice_get log) same ∙ last.1.0 in
    let statement : is.0 ≡ last.0 = cc in
    is.1.1 ∙ ap (λ (s : Statement). s.user) statement ∙ sym last.1.1

-- of some grants, of which those of a place have one grantor, the later ones fall back
falls-reverse : (all grants : List Grant) → HaveOneGrantor all → All (Contains all) grants → IsRising grants → FallBack (reverse grants)
falls-reverse all [] one among rising = tt
falls-reverse all (grant ∷ grants) one among rising =
    let Under : Grant → Type 0 = λ (later : Grant). IsUnder later.place later.grantor grant in
    let here = All-head (Contains all) grant grants among in
    let rest = All-tail (Contains all) grant grants among in
    let under : All Under grants = λ k d less.
    (rank-places grant (get_or grants k d) (rising.0 k d less), one grant (get_or grants k d) here (rest k d less)) in
    subst FallBack (sym (reverse-cons grant grants))
    (falls-snoc (reverse grants) grant (falls-reverse all grants one rest rising.1) (all-reverse Under grants under))

-- so the places along a path of deeds rise, if their grants of a place have one grantor
pub rises-along : (own : List ℕ) (deeds : List Deed) (user : ℕ) (need : Need) → IsProper own deeds → HaveOneGrantor (grants_of deeds) → PlacesRise (path own (kept own deeds) user need)
rises-along own deeds user need proper one =
    let all = grants_of deeds in
    path_back-rises own (reverse (kept own deeds)) user need (borne-kept own deeds)
    (falls-reverse all (kept own deeds) one (part-all (Contains all) (part-kept_grants own deeds) (All-contains_itself all)) (IsRising-kept own deeds proper))

-- the grants of the deeds below a place have one grantor each place, if those of all have
pub one-below : (place : ℕ) (deeds : List Deed) → HaveOneGrantor (grants_of deeds) → HaveOneGrantor (grants_of (deeds_below place deeds))
one-below place deeds one =
    let all = grants_of deeds in
    let some = grants_of (deeds_below place deeds) in
    let among : All (Contains all) some = part-all (Contains all) (part-grants_below place deeds) (All-contains_itself all) in
    λ grant other here there. one grant other (All-contains (Contains all) some grant among here) (All-contains (Contains all) some other among there)

-- what a statement grants is of its place, by its user
module _ (place user : ℕ) where
  abbrev IsHere : Grant → Type 0
  IsHere grant = (grant.place ≡ place) × (grant.grantor ≡ user)

  here-kind : (kind : Kind) (table : ℕ) (option : Bool) (order : List Position) (grantees : List Grantee) → All IsHere (grants_of_kind place user kind table option order grantees)
  here-kind kind table option [] grantees = All-nil IsHere
  here-kind kind table option (position ∷ order) [] = All-nil IsHere
  here-kind kind table option (position ∷ order) (grantee ∷ grantees) =
      All-cons IsHere _ (grants_of_kind place user kind table option order grantees) (refl, refl) (here-kind kind table option order grantees)

  here-kinds : (table : ℕ) (option : Bool) (grantees : List Grantee) (kinds : List Kind) → All IsHere (grants_at place user table option grantees kinds)
  here-kinds table option grantees [] = All-nil IsHere
  here-kinds table option grantees (kind ∷ kinds) =
      All-append IsHere (grants_of_kind place user kind table option positions grantees) (grants_at place user table option grantees kinds)
      (here-kind kind table option positions grantees) (here-kinds table option grantees kinds)

  all-granting : (P : Grant → Type 0) (grants : List Grant) → All P grants → All P (grants_of (map Granting grants))
  all-granting P [] all = all
  all-granting P (grant ∷ grants) all = All-cons P grant (grants_of (map Granting grants)) (All-head P grant grants all) (all-granting P grants (All-tail P grant grants all))

  here-form : (form : DeedForm) → All IsHere (grants_of (deeds_at place user form))
  here-form (DeedForm.Grant kinds table grantees option) =
      all-granting IsHere (grants_at place user table option grantees (kinds_in kinds)) (here-kinds table option grantees (kinds_in kinds))
  here-form (DeedForm.Revoke kinds table grantees) = All-nil IsHere

  here-deeds : (form : Form) → All IsHere (grants_of (deeds_of place user form))
  here-deeds (Form.Create table columns) = All-nil IsHere
  here-deeds (Form.Run accesses steps None) = All-nil IsHere
  here-deeds (Form.Run accesses steps (Some form)) = here-form form
  here-deeds (Form.Deed form) = here-form form

-- so all grants of a log are
module _ (log : List Statement) (own : List ℕ) where
  abbrev AreOf : World → Type 0
  AreOf world = All (IsOf log) (grants_of world.deeds)

  module _ (place : ℕ) (statement : Statement) (there : slice_get log place ≡ Some statement) (world : World) (of : AreOf world) where
    of-changed : (ending : Ending) → AreOf (changed world (deeds_of place statement.user statement.form) ending)
    of-changed (completed rows outputs) =
        let made = deeds_of place statement.user statement.form in
        rw (grants-append world.deeds made)
        (All-append (IsOf log) (grants_of world.deeds) (grants_of made) of
        (All-weaker (IsHere place statement.user) (IsOf log) (λ grant is. (statement, (ap (slice_get log) is.0 ∙ there, is.1))) (grants_of made)
        (here-deeds place statement.user statement.form)))
    of-changed (aborted step reason) = of
    of-changed (undeclared step) = of

    of-judged : (lack : Option Need) → AreOf (judged own place world statement lack).1
    of-judged (Some need) = of
    of-judged None = of-changed (body world.rows statement.form)

    of-form : (form : Form) → AreOf (step_form own place world statement form).1
    of-form (Form.Create table columns) = of
    of-form (Form.Run accesses steps deed) = of-judged (missing own world statement.user (Form.Run accesses steps deed))
    of-form (Form.Deed deed) = of-judged (missing own world statement.user (Form.Deed deed))

  get-at : (done : List Statement) (statement : Statement) (rest : List Statement) → slice_get (done ++ statement ∷ rest) (length done) ≡ Some statement
  get-at [] statement rest = refl
  get-at (first ∷ done) statement rest = get-at done statement rest

  of-after : (done left rest : List Statement) (place : ℕ) (world : World) → log ≡ done ++ (left ++ rest) → place ≡ length done → AreOf world
      → AreOf (world_after own place world left)
  of-after done [] rest place world whole at of = of
  of-after done (statement ∷ left) rest place world whole at of =
      let there : slice_get log place ≡ Some statement =
      ap (λ (all : List Statement). slice_get all place) whole ∙ ap (slice_get (done ++ statement ∷ (left ++ rest))) at ∙ get-at done statement (left ++ rest) in
      of-after (done ++ statement ∷ []) left rest (place + 1) (at_place own place world statement).1
      (whole ∙ sym (append_assoc done (statement ∷ []) (left ++ rest))) (omega (arith, at, length-append done (statement ∷ [])))
      (of-form place statement there world of statement.form)

of-before : (log : List Statement) (place : ℕ) → All (IsOf log) (grants_of (deeds_before log place))
of-before log place =
    of-after log (owners log) [] (take place log) (drop place log) 0 empty_world (sym (take-append-drop place log)) refl (All-nil (IsOf log))

-- the grants of a place of a log have one grantor
pub one-before : (log : List Statement) (place : ℕ) → HaveOneGrantor (grants_of (deeds_before log place))
one-before log place =
    let all = grants_of (deeds_before log place) in
    let of = of-before log place in
    λ grant other here there. one-grantor log grant other (All-contains (IsOf log) all grant of here) (All-contains (IsOf log) all other of there)

-- the places along a path of a log rise
pub path-rises : (log : List Statement) (place user : ℕ) (need : Need) → PlacesRise (path (owners log) (kept (owners log) (deeds_before log place)) user need)
path-rises log place user need =
    rises-along (owners log) (deeds_before log place) user need (deeds_before-stands log place).proper (one-before log place)
