-- The grantees that statements name are those of the grants of their places, and the grants that a revocation ends were made before it.
use Rattle.std.proofs.Common.{◌≡◌, ℕ, zero, suc, ◌+◌, ◌-◌, ◌≤◌, Bool, List, [], ◌∷◌, ◌++◌, length, map, ℤ, Option, Some, None, refl, sym, ◌∙◌, ap, append_assoc, arith, inl, inr, add-one, subst}
use Rattle.std.specs.Prelude.{All, Contains, option_and_then, slice_get}
use Rattle.std.specs.Option.{option_map}
use Rattle.std.proofs.lemmas.List.Elements.{All-append, All-cons, All-contains, All-head, All-map, All-nil, All-tail, All-weaker, Contains-append_left, Contains-get_or}
use Rattle.model_base.specs.declared.deed.Kind.{Kind}
use Rattle.model_base.specs.declared.deed.Position.{Position}
use Rattle.model_base.specs.declared.deed.Grantee.{Grantee}
use Rattle.model_base.specs.declared.deed.Grant.{Grant}
use Rattle.model_base.specs.declared.deed.Need.{Need}
use Rattle.model_base.specs.declared.deed.Deed.{Deed}
use Rattle.model_base.specs.declared.deed.Deed.TheVariants.{Granting, Revoking}
use Rattle.model_base.specs.declared.statement.DeedForm.{DeedForm}
use Rattle.model_base.specs.declared.statement.Form.{Form}
use Rattle.model_base.specs.declared.statement.Statement.{Statement}
use Rattle.model_base.specs.declared.outcome.DeedDone.{DeedDone}
use Rattle.model_base.specs.declared.outcome.Outcome.{Outcome}
use Rattle.model_base.specs.Ranks.{place_of_rank, position_code, position_of_rank, rank}
use Rattle.model_base.specs.Privileges.{ended_by, is_among, kept, lost}
use Rattle.model_base.specs.Body.{Ending, completed, aborted, undeclared}
use Rattle.model_base.specs.Outcomes.{World, at_place, body, changed, deed_done, deeds_at, deeds_before, deeds_of, ended, grant_to, grants_at, grants_of_kind, judged, kinds_in, missing, outcome, owners, positions, step_form, world_before}
use Rattle.model_base.specs.Laws.{IsPart}
use Rattle.model_base.specs.Records.{grants_of}
use Rattle.model_base.specs.RecordGrantees.{WereGranted, deed_grantees, grantee_at, grantees_in}
use Rattle.model_base.proofs.Replay.{by_cases}
use Rattle.model_base.proofs.Parts.{part-all, part-same}
use Rattle.model_base.proofs.Ranked.{rank-place, rank-position}
use Rattle.model_base.proofs.Recorded.{All-grants, part-kept_grants}
use Rattle.model_base.proofs.Growth.{world_before-next}
use Rattle.model_base.proofs.Logs.{GoesOn, goes_on-before}

-- what comes after a list is at its length
get-after : {X : Type 0} (xs : List X) (x : X) (later : List X) → slice_get (xs ++ x ∷ later) (length xs) ≡ Some x
get-after [] x later = refl
get-after (first ∷ xs) x later = get-after xs x later

-- the codes of the positions count on from this number
abbrev CountFrom : ℕ → List Position → Type 0
CountFrom n [] = Unit {0}
CountFrom n (position ∷ later) = (position_code position ≡ n) × CountFrom (suc n) later

positions-count : CountFrom 0 positions
positions-count = (refl, (refl, (refl, (refl, (refl, (refl, (refl, (refl, tt))))))))

-- the grant is to the one of these at its position
abbrev IsTo : List Grantee → Grant → Type 0
IsTo grantees grant = slice_get grantees (position_code grant.position) ≡ Some grant.grantee

-- each deed that is a grant is to the one of these at its position, and has this place
abbrev IsOf : ℕ → List Grantee → Deed → Type 0
IsOf place grantees (Granting grant) = (grant.place ≡ place) × IsTo grantees grant
IsOf place grantees (Revoking revocation) = Unit {0}

module _ (place user table : ℕ) (option : Bool) where
  -- so are the grants of a kind
  kind-to : (kind : Kind) (before : List Grantee) (order : List Position) (grantees : List Grantee) → CountFrom (length before) order
      → All (λ grant. IsOf place (before ++ grantees) (Granting grant)) (grants_of_kind place user kind table option order grantees)
  kind-to kind before [] grantees count = All-nil (λ grant. IsOf place (before ++ grantees) (Granting grant))
  kind-to kind before (position ∷ later) [] count = All-nil (λ grant. IsOf place (before ++ []) (Granting grant))
  kind-to kind before (position ∷ later) (grantee ∷ grantees) count =
      let whole : List Grantee = before ++ grantee ∷ grantees in
      let next : List Grantee = before ++ grantee ∷ [] in
      let P : Grant → Type 0 = λ grant. IsOf place whole (Granting grant) in
      let long : suc (length before) ≡ length next = omega (arith, length-next before grantee) in
      All-cons P (grant_to place user kind table option position grantee) (grants_of_kind place user kind table option later grantees)
      (refl, ap (slice_get whole) count.0 ∙ get-after before grantee grantees)
      (subst (λ (all : List Grantee). All (λ grant. IsOf place all (Granting grant)) (grants_of_kind place user kind table option later grantees))
      (append_assoc before (grantee ∷ []) grantees)
      (kind-to kind next later grantees (subst (λ (n : ℕ). CountFrom n later) long count.1)))
    where
      length-next : (before : List Grantee) (grantee : Grantee) → length (before ++ grantee ∷ []) ≡ length before + 1
      length-next [] grantee = refl
      length-next (first ∷ before) grantee = let rest = length-next before grantee in omega arith

  -- and those of some kinds
  kinds-to : (grantees : List Grantee) (kinds : List Kind)
      → All (λ grant. IsOf place grantees (Granting grant)) (grants_at place user table option grantees kinds)
  kinds-to grantees [] = All-nil (λ grant. IsOf place grantees (Granting grant))
  kinds-to grantees (kind ∷ kinds) =
      All-append (λ grant. IsOf place grantees (Granting grant)) (grants_of_kind place user kind table option positions grantees)
      (grants_at place user table option grantees kinds) (kind-to kind [] positions grantees positions-count) (kinds-to grantees kinds)

-- and the deeds of a form
form-to : (place user : ℕ) (form : DeedForm) → All (IsOf place (deed_grantees form)) (deeds_at place user form)
form-to place user (DeedForm.Grant kinds table grantees option) =
    All-map (IsOf place grantees) Granting (grants_at place user table option grantees (kinds_in kinds))
    (kinds-to place user table option grantees (kinds_in kinds))
form-to place user (DeedForm.Revoke kinds table grantees) =
    All-cons (IsOf place grantees) (Revoking (record { place = place; grantor = user; grantees = grantees; kinds = kinds; table = table })) []
    tt (All-nil (IsOf place grantees))

-- and of a statement
statement-to : (place user : ℕ) (form : Form) → All (IsOf place (grantees_in form)) (deeds_of place user form)
statement-to place user (Form.Create table columns) = All-nil (IsOf place [])
statement-to place user (Form.Run accesses steps None) = All-nil (IsOf place [])
statement-to place user (Form.Run accesses steps (Some form)) = form-to place user form
statement-to place user (Form.Deed form) = form-to place user form

-- the deed, if it is a grant, is to the grantee that the log names for it
abbrev IsNamed : List Statement → Deed → Type 0
IsNamed log (Granting grant) = grantee_at log (rank grant) ≡ Some grant.grantee
IsNamed log (Revoking revocation) = Unit {0}

module _ (log : List Statement) where
  -- so is each deed of the statement of a place
  of-named : (place : ℕ) (statement : Statement) → slice_get log place ≡ Some statement → (deed : Deed)
      → IsOf place (grantees_in statement.form) deed → IsNamed log deed
  of-named place statement there (Granting grant) is =
      let here : place_of_rank (rank grant) ≡ place = rank-place grant ∙ is.0 in
      let at = rank-position grant in
      ap (λ (n : ℕ). option_and_then (λ (s : Statement). slice_get (grantees_in s.form) (position_of_rank (rank grant))) (slice_get log n)) here
      ∙ ap (option_and_then (λ (s : Statement). slice_get (grantees_in s.form) (position_of_rank (rank grant)))) there
      ∙ ap (slice_get (grantees_in statement.form)) at
      ∙ is.1
  of-named place statement there (Revoking revocation) is = tt

  module _ (own : List ℕ) (place : ℕ) (world : World) (statement : Statement) (there : slice_get log place ≡ Some statement)
      (named : All (IsNamed log) world.deeds) where
    -- so they are after a body
    named-changed : (ending : Ending) → All (IsNamed log) (changed world (deeds_of place statement.user statement.form) ending).deeds
    named-changed (completed rows outputs) =
        let made = deeds_of place statement.user statement.form in
        All-append (IsNamed log) world.deeds made named
        (All-weaker (IsOf place (grantees_in statement.form)) (IsNamed log) (of-named place statement there) made
        (statement-to place statement.user statement.form))
    named-changed (aborted step reason) = named
    named-changed (undeclared step) = named

    named-judged : (lack : Option Need) → All (IsNamed log) (judged own place world statement lack).1.deeds
    named-judged (Some need) = named
    named-judged None = named-changed (body world.rows statement.form)

    -- and after a statement
    named-form : (form : Form) → All (IsNamed log) (step_form own place world statement form).1.deeds
    named-form (Form.Create table columns) = named
    named-form (Form.Run accesses steps deed) = named-judged (missing own world statement.user (Form.Run accesses steps deed))
    named-form (Form.Deed deed) = named-judged (missing own world statement.user (Form.Deed deed))

  -- and before each place
  named-before : (place : ℕ) → All (IsNamed log) (deeds_before log place)
  named-before zero = All-nil (IsNamed log)
  named-before (suc place) =
      subst (λ (n : ℕ). All (IsNamed log) (deeds_before log n)) (add-one place)
      (elim (world_before-next log place) [
        | inl same ↦ subst (λ (world : World). All (IsNamed log) world.deeds) (sym same) (named-before place)
        | inr next ↦
            subst (λ (world : World). All (IsNamed log) world.deeds) (sym next.2)
            (named-form (owners log) place (world_before log place) next.0 next.1 (named-before place) next.0.form)
      ])

-- a record is to the grantee that the deed of its place names at its position
pub granted-named : (log : List Statement) (place : ℕ) (grant : Grant)
    → Contains (deeds_before log place) (Granting grant) → grantee_at log (rank grant) ≡ Some grant.grantee
granted-named log place grant made = All-contains (IsNamed log) (deeds_before log place) (Granting grant) (named-before log place) made

-- what holds of the ranks of all grants holds of those lost
lost-all : (P : ℕ → Type 0) (before after : List Grant) → All (λ grant. P (rank grant)) before → All P (lost before after)
lost-all P [] after all = All-nil P
lost-all P (grant ∷ before) after all =
    let rest = lost-all P before after (All-tail (λ x. P (rank x)) grant before all) in
    by_cases (is_among (rank grant) after)
    (λ stays. rw stays rest)
    (λ goes. rw goes (All-cons P (rank grant) (lost before after) (All-head (λ x. P (rank x)) grant before all) rest))

-- a grant of the rank was made by the deeds
abbrev IsRankIn : List Deed → ℕ → Type 0
IsRankIn deeds ranked = (grant : Grant) × Contains deeds (Granting grant) × (rank grant ≡ ranked)

-- the grants of the deeds were made by them
all-in : (deeds : List Deed) → All (λ grant. Contains deeds (Granting grant)) (grants_of deeds)
all-in deeds = All-grants (Contains deeds) deeds (λ k d less. Contains-get_or deeds k d less)

-- so were those in force, and each part of them
part-in : (own : List ℕ) (deeds : List Deed) (grants : List Grant) → IsPart grants (kept own deeds) → All (λ grant. IsRankIn deeds (rank grant)) grants
part-in own deeds grants part =
    All-weaker (λ grant. Contains deeds (Granting grant)) (λ grant. IsRankIn deeds (rank grant)) (λ grant made. (grant, made, refl)) grants
    (part-all (λ grant. Contains deeds (Granting grant)) part
    (part-all (λ grant. Contains deeds (Granting grant)) (part-kept_grants own deeds) (all-in deeds)))

-- and those that a revocation ends
module _ (own : List ℕ) (place : ℕ) (world : World) (outputs : List ℤ) (ranks : List ℕ) where
  done-in : (deeds : List Deed) → deed_done own world deeds ≡ DeedDone.Revoked ranks → All (IsRankIn world.deeds) ranks
  done-in [] is = absurd (cc)
  done-in (Granting grant ∷ deeds) is = absurd (cc)
  done-in (Revoking revocation ∷ deeds) is =
      let same : ended_by own world.deeds revocation ≡ ranks = cc in
      subst (All (IsRankIn world.deeds)) same
      (lost-all (IsRankIn world.deeds) (kept own world.deeds) (kept own (world.deeds ++ Revoking revocation ∷ [])) (part-in own world.deeds (kept own world.deeds) (part-same (kept own world.deeds))))

  ended-in : (deeds : List Deed) (ending : Ending) → ended own world deeds ending ≡ Outcome.Done outputs (DeedDone.Revoked ranks)
      → All (IsRankIn world.deeds) ranks
  ended-in deeds (completed rows found) is =
      let same : deed_done own world deeds ≡ DeedDone.Revoked ranks = cc in done-in deeds same
  ended-in deeds (aborted step reason) is = absurd (cc)
  ended-in deeds (undeclared step) is = absurd (cc)

  judged-in : (statement : Statement) (lack : Option Need)
      → (judged own place world statement lack).0 ≡ Outcome.Done outputs (DeedDone.Revoked ranks) → All (IsRankIn world.deeds) ranks
  judged-in statement (Some need) is = absurd (cc)
  judged-in statement None is = ended-in (deeds_of place statement.user statement.form) (body world.rows statement.form) is

  form-in : (statement : Statement) (form : Form)
      → (step_form own place world statement form).0 ≡ Outcome.Done outputs (DeedDone.Revoked ranks) → All (IsRankIn world.deeds) ranks
  form-in statement (Form.Create table columns) is = absurd (cc)
  form-in statement (Form.Run accesses steps deed) is = judged-in statement (missing own world statement.user (Form.Run accesses steps deed)) is
  form-in statement (Form.Deed deed) is = judged-in statement (missing own world statement.user (Form.Deed deed)) is

  found-in : (found : Option Statement)
      → option_map (λ statement. (at_place own place world statement).0) found ≡ Some (Outcome.Done outputs (DeedDone.Revoked ranks))
      → All (IsRankIn world.deeds) ranks
  found-in None is = absurd (cc)
  found-in (Some statement) is =
      let same : (at_place own place world statement).0 ≡ Outcome.Done outputs (DeedDone.Revoked ranks) = cc in
      form-in statement statement.form same

-- what was granted before a place was granted before each later one
pub granted-later : (log : List Statement) (place later : ℕ) (ranks : List ℕ) → place ≤ later → WereGranted log place ranks → WereGranted log later ranks
granted-later log place later ranks less granted =
    let at : place + (later - place) ≡ later = omega arith in
    let on : GoesOn place (deeds_before log place) (deeds_before log later) =
    subst (λ (n : ℕ). GoesOn place (deeds_before log place) (deeds_before log n)) at (goes_on-before log place (later - place)) in
    All-weaker (IsRankIn (deeds_before log place)) (IsRankIn (deeds_before log later))
    (λ ranked made. (
      made.0,
      subst (λ (deeds : List Deed). Contains deeds (Granting made.0)) (sym on.1) (Contains-append_left (deeds_before log place) on.0 (Granting made.0) made.1),
      made.2,
    )) ranks granted

-- a revocation ends only grants that were made before its place
pub revoked-granted : (log : List Statement) (place later : ℕ) (outputs : List ℤ) (ranks : List ℕ)
    → outcome log place ≡ Some (Outcome.Done outputs (DeedDone.Revoked ranks)) → place ≤ later → WereGranted log later ranks
revoked-granted log place later outputs ranks is less =
    granted-later log place later ranks less (found-in (owners log) place (world_before log place) outputs ranks (slice_get log place) is)

-- the grants in force were made
pub kept-granted : (log : List Statement) (place : ℕ) (ranks : List ℕ) (grants : List Grant)
    → IsPart grants (kept (owners log) (deeds_before log place)) → ranks ≡ map rank grants → WereGranted log place ranks
kept-granted log place ranks grants part are =
    subst (All (IsRankIn (deeds_before log place))) (sym are)
    (All-map (IsRankIn (deeds_before log place)) rank grants (part-in (owners log) (deeds_before log place) grants part))
