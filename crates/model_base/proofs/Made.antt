-- What a deed form makes at a place: grants in the order of their ranks, or one revocation, which may follow the deeds before the place.
use Rattle.std.proofs.Common.{◌≡◌, ℕ, ◌+◌, ◌*◌, ◌<◌, ◌≤◌, not, Bool, true, List, [], ◌∷◌, ◌++◌, map, Some, None, refl, sym, ◌∙◌, ap, arith, inl, inr, subst}
use Rattle.std.specs.Prelude.{All, nat_lt}
use Rattle.std.specs.List.{find, flat_map}
use Rattle.std.proofs.lemmas.Bool.{le-ltb}
use Rattle.std.proofs.lemmas.List.{append-nil}
use Rattle.std.proofs.lemmas.List.Elements.{All-nil, All-append, All-cons, All-head, All-map, All-push, All-tail, All-weaker, filter-append}
use Rattle.model_base.specs.declared.deed.Kind.{Kind}
use Rattle.model_base.specs.declared.deed.Kind.TheVariants.{Read, Insert, Update, Delete}
use Rattle.model_base.specs.declared.deed.Kinds.{Kinds}
use Rattle.model_base.specs.declared.deed.Position.{Position}
use Rattle.model_base.specs.declared.deed.Grantee.{Grantee}
use Rattle.model_base.specs.declared.deed.Grant.{Grant}
use Rattle.model_base.specs.declared.deed.Deed.{Deed}
use Rattle.model_base.specs.declared.deed.Deed.TheVariants.{Granting, Revoking}
use Rattle.model_base.specs.declared.statement.DeedForm.{DeedForm}
use Rattle.model_base.specs.declared.statement.Form.{Form}
use Rattle.model_base.specs.Ranks.{deed_number, kind_code, position_code, rank, rank_of}
use Rattle.model_base.specs.RecordNames.{few_positions}
use Rattle.model_base.specs.Privileges.{deeds_below, has_kind, holds, option_of, place_of, IsProperAfter}
use Rattle.model_base.specs.Laws.{AreGrantsOrRevocation, IsGranting, IsRising}
use Rattle.model_base.specs.Records.{grants_of}
use Rattle.model_base.specs.Outcomes.{deeds_at, deeds_of, grant_to, grants_at, grants_of_kind, kind_if, kinds_in, needs, needs_of_access, needs_of_deed, option_on, positions}
use Rattle.model_base.proofs.Replay.{by_cases}
use Rattle.model_base.proofs.Places.{number-rises}
use Rattle.model_base.proofs.Recorded.{All-both}

-- where none is found, none is found among the last
find-none_right : {X : Type 0} (test : X → Bool) (first later : List X) → find test (first ++ later) ≡ None → find test later ≡ None
find-none_right test [] later none = none
find-none_right test (x ∷ first) later none =
    by_cases (test x)
    (λ passes. let found = rw passes at none in absurd (cc))
    (λ fails. find-none_right test first later (rw fails at none))

-- the ranks of the grants rise, from this number on
abbrev RisesFrom : ℕ → List Grant → Type 0
RisesFrom low [] = Unit {0}
RisesFrom low (grant ∷ grants) = (low ≤ rank grant) × RisesFrom (rank grant + 1) grants

rises-weaker : (low lower : ℕ) (grants : List Grant) → lower ≤ low → RisesFrom low grants → RisesFrom lower grants
rises-weaker low lower [] less rises = tt
rises-weaker low lower (grant ∷ grants) less rises = let first = rises.0 in (omega arith, rises.1)

rises-all : (low : ℕ) (grants : List Grant) → RisesFrom low grants → All (λ grant. low ≤ rank grant) grants
rises-all low [] rises = All-nil (λ grant. low ≤ rank grant)
rises-all low (grant ∷ grants) rises =
    let first = rises.0 in
    All-cons (λ x. low ≤ rank x) grant grants first
    (All-weaker (λ x. rank grant + 1 ≤ rank x) (λ x. low ≤ rank x) (λ x above. omega arith) grants (rises-all (rank grant + 1) grants rises.1))

rises-rising : (low : ℕ) (grants : List Grant) → RisesFrom low grants → IsRising grants
rises-rising low [] rises = tt
rises-rising low (grant ∷ grants) rises = (
  All-weaker (λ x. rank grant + 1 ≤ rank x) (λ x. rank grant < rank x) (λ x above. omega arith) grants (rises-all (rank grant + 1) grants rises.1),
  rises-rising (rank grant + 1) grants rises.1,
)

rises-append : (low high : ℕ) (first later : List Grant) → low ≤ high → RisesFrom low first → All (λ grant. rank grant < high) first
    → RisesFrom high later → RisesFrom low (first ++ later)
rises-append low high [] later less rises below more = rises-weaker high low later less more
rises-append low high (grant ∷ first) later less rises below more =
    let here : rank grant < high = All-head (λ x. rank x < high) grant first below in (
      rises.0,
      rises-append (rank grant + 1) high first later (omega arith) rises.1 (All-tail (λ x. rank x < high) grant first below) more,
    )

-- the codes of the positions rise, from this number on
abbrev PositionsRise : ℕ → List Position → Type 0
PositionsRise low [] = Unit {0}
PositionsRise low (position ∷ later) = (low ≤ position_code position) × PositionsRise (position_code position + 1) later

positions-rise : PositionsRise 0 positions
positions-rise = (omega arith, (omega arith, (omega arith, (omega arith, (omega arith, (omega arith, (omega arith, (omega arith, tt))))))))

module _ (place user table : ℕ) (option : Bool) where
  -- what holds of each grant of a kind
  all-kind : (P : Grant → Type 0) (kind : Kind) → ((position : Position) (grantee : Grantee) → P (grant_to place user kind table option position grantee))
      → (order : List Position) (grantees : List Grantee) → All P (grants_of_kind place user kind table option order grantees)
  all-kind P kind each [] grantees = All-nil P
  all-kind P kind each (position ∷ later) [] = All-nil P
  all-kind P kind each (position ∷ later) (grantee ∷ grantees) =
      All-cons P (grant_to place user kind table option position grantee) (grants_of_kind place user kind table option later grantees)
      (each position grantee) (all-kind P kind each later grantees)

  -- and of each kind holds of all grants
  all-kinds : (P : Grant → Type 0) (K : Kind → Type 0)
      → ((kind : Kind) → K kind → (position : Position) (grantee : Grantee) → P (grant_to place user kind table option position grantee))
      → (grantees : List Grantee) (kinds : List Kind) → All K kinds → All P (grants_at place user table option grantees kinds)
  all-kinds P K each grantees [] all = All-nil P
  all-kinds P K each grantees (kind ∷ kinds) all =
      All-append P (grants_of_kind place user kind table option positions grantees) (grants_at place user table option grantees kinds)
      (all-kind P kind (each kind (All-head K kind kinds all)) positions grantees)
      (all-kinds P K each grantees kinds (All-tail K kind kinds all))

  -- what holds of all kinds
  all-any : (P : Grant → Type 0) → ((kind : Kind) (position : Position) (grantee : Grantee) → P (grant_to place user kind table option position grantee))
      → (grantees : List Grantee) (kinds : List Kind) → All P (grants_at place user table option grantees kinds)
  all-any P each grantees [] = All-nil P
  all-any P each grantees (kind ∷ kinds) =
      All-append P (grants_of_kind place user kind table option positions grantees) (grants_at place user table option grantees kinds)
      (all-kind P kind (each kind) positions grantees) (all-any P each grantees kinds)

  -- the ranks of the grants of one kind rise
  kind-rises : (kind : Kind) (low : ℕ) (order : List Position) (grantees : List Grantee) → PositionsRise low order
      → RisesFrom ((place * 4 + kind_code kind) * 8 + low) (grants_of_kind place user kind table option order grantees)
  unfolding rank_of
  kind-rises kind low [] grantees rise = tt
  kind-rises kind low (position ∷ later) [] rise = tt
  kind-rises kind low (position ∷ later) (grantee ∷ grantees) rise =
      let here = rise.0 in (
        omega arith,
        rises-weaker ((place * 4 + kind_code kind) * 8 + (position_code position + 1)) (rank_of place kind position + 1)
            (grants_of_kind place user kind table option later grantees) (omega arith)
            (kind-rises kind (position_code position + 1) later grantees rise.1),
      )

  -- and stay below those of the next kind
  kind-below : (kind : Kind) (grantees : List Grantee)
      → All (λ grant. rank grant < (place * 4 + kind_code kind) * 8 + 8) (grants_of_kind place user kind table option positions grantees)
  unfolding rank_of
  kind-below kind grantees =
      all-kind (λ grant. rank grant < (place * 4 + kind_code kind) * 8 + 8) kind
      (λ position grantee. let few = few_positions position in omega arith) positions grantees

  -- so with a kind more
  if-rises : (grantees : List Grantee) (kinds : Kinds) (kind : Kind) (later : List Kind)
      → RisesFrom ((place * 4 + kind_code kind) * 8 + 8) (grants_at place user table option grantees later)
      → RisesFrom ((place * 4 + kind_code kind) * 8) (grants_at place user table option grantees (kind_if kinds kind ++ later))
  if-rises grantees kinds kind later rises =
      let low = (place * 4 + kind_code kind) * 8 in
      by_cases (has_kind kinds kind)
      (λ has. rw has
      (rises-append low (low + 8) (grants_of_kind place user kind table option positions grantees) (grants_at place user table option grantees later) (omega arith)
      (rises-weaker (low + 0) low (grants_of_kind place user kind table option positions grantees) (omega arith) (kind-rises kind 0 positions grantees positions-rise))
      (kind-below kind grantees) rises))
      (λ lacks. rw lacks (rises-weaker (low + 8) low (grants_at place user table option grantees later) (omega arith) rises))

  -- the ranks of all grants rise
  pub rising-at : (grantees : List Grantee) (kinds : Kinds) → IsRising (grants_at place user table option grantees (kinds_in kinds))
  rising-at grantees kinds =
      let G : List Kind → List Grant = grants_at place user table option grantees in
      let Rises : ℕ → List Kind → Type 0 = λ low later. RisesFrom ((place * 4 + low) * 8) (G later) in
      let deletes : Rises 3 (kind_if kinds Delete) =
      subst (Rises 3) (append-nil (kind_if kinds Delete)) (if-rises grantees kinds Delete [] tt) in
      let updates : Rises 2 (kind_if kinds Update ++ kind_if kinds Delete) =
      if-rises grantees kinds Update (kind_if kinds Delete) (rises-weaker ((place * 4 + 3) * 8) ((place * 4 + 2) * 8 + 8) (G (kind_if kinds Delete)) (omega arith) deletes) in
      let inserts : Rises 1 (kind_if kinds Insert ++ (kind_if kinds Update ++ kind_if kinds Delete)) =
      if-rises grantees kinds Insert (kind_if kinds Update ++ kind_if kinds Delete)
      (rises-weaker ((place * 4 + 2) * 8) ((place * 4 + 1) * 8 + 8) (G (kind_if kinds Update ++ kind_if kinds Delete)) (omega arith) updates) in
      let reads : Rises 0 (kinds_in kinds) =
      if-rises grantees kinds Read (kind_if kinds Insert ++ (kind_if kinds Update ++ kind_if kinds Delete))
      (rises-weaker ((place * 4 + 1) * 8) ((place * 4 + 0) * 8 + 8) (G (kind_if kinds Insert ++ (kind_if kinds Update ++ kind_if kinds Delete))) (omega arith) inserts) in
      rises-rising ((place * 4 + 0) * 8) (G (kinds_in kinds)) reads

-- grants of a place are grants
all-granting : (grants : List Grant) → All IsGranting (map Granting grants)
all-granting [] = All-nil IsGranting
all-granting (grant ∷ grants) = All-cons IsGranting (Granting grant) (map Granting grants) tt (all-granting grants)

module _ (owners : List ℕ) (place : ℕ) (past : List Deed) where
  -- grants of a place, in the order of their ranks, may follow deeds of which those below the place give their grantors the option
  proper-grants : (start : List Deed) (grants : List Grant) → deeds_below place start ≡ past
      → All (λ grant. All (λ deed. deed_number deed < rank grant) start) grants → IsRising grants → All (λ grant. grant.place ≡ place) grants
      → All (λ grant. holds owners past grant.grantor (option_of grant) ≡ true) grants → IsProperAfter owners start (map Granting grants)
  proper-grants start [] same above rising here held = tt
  proper-grants start (grant ∷ grants) same above rising here held =
      let Above : Grant → Type 0 = λ x. All (λ deed. deed_number deed < rank x) start in
      let At : Grant → Type 0 = λ x. x.place ≡ place in
      let Held : Grant → Type 0 = λ x. holds owners past x.grantor (option_of x) ≡ true in
      let Later : Grant → Type 0 = λ x. rank grant < rank x in
      let next : List Deed = start ++ Granting grant ∷ [] in
      let at : grant.place ≡ place = All-head At grant grants here in
      let may : holds owners (deeds_below grant.place start) grant.grantor (option_of grant) ≡ true =
      ap (λ (p : ℕ). holds owners (deeds_below p start) grant.grantor (option_of grant)) at
      ∙ ap (λ (ds : List Deed). holds owners ds grant.grantor (option_of grant)) same
      ∙ All-head Held grant grants held in
      let none : deeds_below place (Granting grant ∷ []) ≡ [] = rw (le-ltb grant.place place (omega arith)) refl in
      let still : deeds_below place next ≡ past =
      filter-append (λ deed. nat_lt (place_of deed) place) start (Granting grant ∷ [])
      ∙ ap (λ r. deeds_below place start ++ r) none ∙ append-nil (deeds_below place start) ∙ same in (
        (All-head Above grant grants above, may),
        proper-grants next grants still
            (All-weaker (λ x. Above x × Later x) (λ x. All (λ deed. deed_number deed < rank x) next)
            (λ x both. All-push (λ deed. deed_number deed < rank x) start (Granting grant) both.0 both.1) grants
            (All-both Above Later grants (All-tail Above grant grants above) rising.0))
            rising.1 (All-tail At grant grants here) (All-tail Held grant grants held),
      )

-- the deeds of a form have its place
form-placed : (place user : ℕ) (form : DeedForm) → All (λ deed. place_of deed ≡ place) (deeds_at place user form)
form-placed place user (DeedForm.Grant kinds table grantees option) =
    All-map (λ deed. place_of deed ≡ place) Granting (grants_at place user table option grantees (kinds_in kinds))
    (all-any place user table option (λ grant. grant.place ≡ place) (λ kind position grantee. refl) grantees (kinds_in kinds))
form-placed place user (DeedForm.Revoke kinds table grantees) =
    All-cons (λ deed. place_of deed ≡ place) (Revoking (record { place = place; grantor = user; grantees = grantees; kinds = kinds; table = table })) []
    refl (All-nil (λ deed. place_of deed ≡ place))

-- so do those of a statement
pub deeds_of-placed : (place user : ℕ) (form : Form) → All (λ deed. place_of deed ≡ place) (deeds_of place user form)
deeds_of-placed place user (Form.Create table columns) = All-nil (λ deed. place_of deed ≡ place)
deeds_of-placed place user (Form.Run accesses steps None) = All-nil (λ deed. place_of deed ≡ place)
deeds_of-placed place user (Form.Run accesses steps (Some form)) = form-placed place user form
deeds_of-placed place user (Form.Deed form) = form-placed place user form

-- they are grants, or one revocation
form-one : (place user : ℕ) (form : DeedForm) → AreGrantsOrRevocation (deeds_at place user form)
form-one place user (DeedForm.Grant kinds table grantees option) = inl (all-granting (grants_at place user table option grantees (kinds_in kinds)))
form-one place user (DeedForm.Revoke kinds table grantees) =
    inr (record { place = place; grantor = user; grantees = grantees; kinds = kinds; table = table }, refl)

pub deeds_of-one : (place user : ℕ) (form : Form) → AreGrantsOrRevocation (deeds_of place user form)
deeds_of-one place user (Form.Create table columns) = inl (All-nil IsGranting)
deeds_of-one place user (Form.Run accesses steps None) = inl (All-nil IsGranting)
deeds_of-one place user (Form.Run accesses steps (Some form)) = form-one place user form
deeds_of-one place user (Form.Deed form) = form-one place user form

-- the grants of a place are these
grants-granting : (grants : List Grant) → grants_of (map Granting grants) ≡ grants
grants-granting [] = refl
grants-granting (grant ∷ grants) = ap (λ r. grant ∷ r) (grants-granting grants)

-- whose ranks rise
form-rising : (place user : ℕ) (form : DeedForm) → IsRising (grants_of (deeds_at place user form))
form-rising place user (DeedForm.Grant kinds table grantees option) =
    subst IsRising (sym (grants-granting (grants_at place user table option grantees (kinds_in kinds)))) (rising-at place user table option grantees kinds)
form-rising place user (DeedForm.Revoke kinds table grantees) = tt

pub deeds_of-rising : (place user : ℕ) (form : Form) → IsRising (grants_of (deeds_of place user form))
deeds_of-rising place user (Form.Create table columns) = tt
deeds_of-rising place user (Form.Run accesses steps None) = tt
deeds_of-rising place user (Form.Run accesses steps (Some form)) = form-rising place user form
deeds_of-rising place user (Form.Deed form) = form-rising place user form

-- deeds whose statement lacks nothing may follow
module _ (owners : List ℕ) (place user : ℕ) (deeds : List Deed) (below : All (λ deed. place_of deed < place) deeds)
    (low : deeds_below place deeds ≡ deeds) where
  -- each of the kinds is held with the option
  held-kinds : (table : ℕ) (kinds : List Kind) → find (λ need. not (holds owners deeds user need)) (map (option_on table) kinds) ≡ None
      → All (λ kind. holds owners deeds user (option_on table kind) ≡ true) kinds
  held-kinds table [] none = All-nil (λ kind. holds owners deeds user (option_on table kind) ≡ true)
  held-kinds table (kind ∷ kinds) none =
      by_cases (holds owners deeds user (option_on table kind))
      (λ held. All-cons (λ k. holds owners deeds user (option_on table k) ≡ true) kind kinds held (held-kinds table kinds (rw held at none)))
      (λ lacks. let found = rw lacks at none in absurd (cc))

  form-proper : (form : DeedForm) → find (λ need. not (holds owners deeds user need)) (needs_of_deed form) ≡ None
      → IsProperAfter owners deeds (deeds_at place user form)
  form-proper (DeedForm.Grant kinds table grantees option) none =
      let grants = grants_at place user table option grantees (kinds_in kinds) in
      let At : Grant → Type 0 = λ grant. grant.place ≡ place in
      let here : All At grants = all-any place user table option At (λ kind position grantee. refl) grantees (kinds_in kinds) in
      proper-grants owners place deeds deeds grants low
      (All-weaker At (λ grant. All (λ deed. deed_number deed < rank grant) deeds)
      (λ grant at. All-weaker (λ deed. place_of deed < place) (λ deed. deed_number deed < rank grant)
      (λ deed less. number-rises deed (Granting grant) (subst (λ (p : ℕ). place_of deed < p) (sym at) less)) deeds below) grants here)
      (rising-at place user table option grantees kinds) here
      (all-kinds place user table option (λ grant. holds owners deeds grant.grantor (option_of grant) ≡ true)
      (λ kind. holds owners deeds user (option_on table kind) ≡ true) (λ kind held position grantee. held) grantees (kinds_in kinds)
      (held-kinds table (kinds_in kinds) none))
  form-proper (DeedForm.Revoke kinds table grantees) none = (below, tt)

  pub deeds_of-proper : (form : Form) → find (λ need. not (holds owners deeds user need)) (needs form) ≡ None
      → IsProperAfter owners deeds (deeds_of place user form)
  deeds_of-proper (Form.Create table columns) none = tt
  deeds_of-proper (Form.Run accesses steps None) none = tt
  deeds_of-proper (Form.Run accesses steps (Some form)) none =
      form-proper form
      (find-none_right (λ need. not (holds owners deeds user need)) (flat_map needs_of_access accesses) (needs_of_deed form) none)
  deeds_of-proper (Form.Deed form) none = form-proper form none
