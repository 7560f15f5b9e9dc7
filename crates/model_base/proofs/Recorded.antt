-- The grants of the records are all that the deeds made, and their ranks rise.
use Rattle.std.proofs.Common.{◌≡◌, ℕ, ◌<◌, List, [], ◌∷◌, ◌++◌, refl, ap, arith, map, Bool, filter, is_none}
use Rattle.std.specs.Prelude.{All, nat_lt}
use Rattle.std.specs.List.{list_any}
use Rattle.std.proofs.lemmas.List.Elements.{All-nil, All-cons, All-head, All-tail, All-weaker, Contains-push}
use Rattle.model_base.specs.declared.deed.Grant.{Grant}
use Rattle.model_base.specs.declared.deed.Record.{Record}
use Rattle.model_base.specs.declared.deed.Deed.{Deed}
use Rattle.model_base.specs.declared.deed.Deed.TheVariants.{Granting, Revoking}
use Rattle.model_base.specs.Ranks.{deed_number, rank}
use Rattle.model_base.specs.Privileges.{deeds_below, revokes, erased, kept, IsProper, IsProperAfter}
use Rattle.model_base.specs.Laws.{IsPart, IsRising, none, left_out, stays}
use Rattle.model_base.specs.Records.{grants_of, record_of, records, recorded, in_force, covered, cut}
use Rattle.model_base.proofs.Replay.{by_cases}
use Rattle.model_base.proofs.Parts.{part-part, part-replayed}
use Rattle.model_base.proofs.Places.{number-above}

-- two facts on each item are one
pub All-both : {X : Type 0} (P Q : X → Type 0) (xs : List X) → All P xs → All Q xs → All (λ x. P x × Q x) xs
All-both P Q xs first second = λ k d less. (first k d less, second k d less)

-- what holds of all deeds holds of their grants
pub All-grants : (P : Deed → Type 0) (deeds : List Deed) → All P deeds → All (λ grant. P (Granting grant)) (grants_of deeds)
All-grants P [] all = All-nil (λ grant. P (Granting grant))
All-grants P (Granting grant ∷ deeds) all =
    All-cons (λ x. P (Granting x)) grant (grants_of deeds) (All-head P (Granting grant) deeds all) (All-grants P deeds (All-tail P (Granting grant) deeds all))
All-grants P (Revoking revocation ∷ deeds) all = All-grants P deeds (All-tail P (Revoking revocation) deeds all)

-- of grants with rising ranks no two have the same
pub rising-unique : (grants : List Grant) → IsRising grants → All (λ grant. All (λ x. rank x ≡ rank grant → x ≡ grant) grants) grants
rising-unique [] rising = All-nil (λ grant. All (λ x. rank x ≡ rank grant → x ≡ grant) [])
rising-unique (grant ∷ grants) rising =
    let Same : Grant → Grant → Type 0 = λ g x. rank x ≡ rank g → x ≡ g in
    let Above : Grant → Type 0 = λ later. rank grant < rank later in
    let Alone : Grant → Type 0 = λ g. All (Same g) grants in
    All-cons (λ g. All (Same g) (grant ∷ grants)) grant grants
    (All-cons (Same grant) grant grants (λ same. refl) (All-weaker Above (Same grant) (λ x less same. absurd (omega arith)) grants rising.0))
    (All-weaker (λ g. Above g × Alone g) (λ g. All (Same g) (grant ∷ grants))
    (λ g both. let less : rank grant < rank g = both.0 in All-cons (Same g) grant grants (λ same. absurd (omega arith)) both.1) grants
    (All-both Above Alone grants rising.0 (rising-unique grants rising.1)))

-- the grants that aren't erased are some of all
pub part-erased_grants : (deeds : List Deed) → IsPart (erased deeds) (grants_of deeds)
part-erased_grants [] = none
part-erased_grants (Granting grant ∷ deeds) =
    by_cases (list_any (λ deed. revokes deed grant) deeds)
    (λ named. rw named (left_out (part-erased_grants deeds)))
    (λ other. rw other (stays (part-erased_grants deeds)))
part-erased_grants (Revoking revocation ∷ deeds) = part-erased_grants deeds

-- so are those of the deeds below a place
pub part-grants_below : (place : ℕ) (deeds : List Deed) → IsPart (grants_of (deeds_below place deeds)) (grants_of deeds)
part-grants_below place [] = none
part-grants_below place (Granting grant ∷ deeds) =
    by_cases (nat_lt grant.place place)
    (λ less. rw less (stays (part-grants_below place deeds)))
    (λ more. rw more (left_out (part-grants_below place deeds)))
part-grants_below place (Revoking revocation ∷ deeds) =
    by_cases (nat_lt revocation.place place) (λ less. rw less (part-grants_below place deeds)) (λ more. rw more (part-grants_below place deeds))

module _ (owners : List ℕ) where
  -- the grants in force are some of all
  pub part-kept_grants : (deeds : List Deed) → IsPart (kept owners deeds) (grants_of deeds)
  part-kept_grants deeds = part-part (part-replayed owners [] (erased deeds)) (part-erased_grants deeds)

  -- a record is of its grant
  recorded-map : (deeds : List Deed) (grants : List Grant) → recorded (map (record_of owners deeds) grants) ≡ grants
  recorded-map deeds [] = refl
  recorded-map deeds (grant ∷ grants) = ap (λ r. grant ∷ r) (recorded-map deeds grants)

  -- the grants of the records are those of the deeds
  pub recorded-records : (deeds : List Deed) → recorded (records owners deeds) ≡ grants_of deeds
  recorded-records deeds = recorded-map deeds (grants_of deeds)

  -- the ranks of the grants of later deeds rise
  rising-after : (past deeds : List Deed) → IsProperAfter owners past deeds → IsRising (grants_of deeds)
  rising-after past [] proper = tt
  rising-after past (Granting grant ∷ deeds) proper = (
    All-grants (λ deed. rank grant < deed_number deed) deeds
        (number-above owners (past ++ Granting grant ∷ []) deeds (Granting grant) (Contains-push past (Granting grant)) proper.1),
    rising-after (past ++ Granting grant ∷ []) deeds proper.1,
  )
  rising-after past (Revoking revocation ∷ deeds) proper = rising-after (past ++ Revoking revocation ∷ []) deeds proper.1

  -- the ranks of the grants rise
  pub rising-grants : (deeds : List Deed) → IsProper owners deeds → IsRising (grants_of deeds)
  rising-grants deeds proper = rising-after [] deeds proper

-- records that pass a test have some of the grants
part-recorded : (test : Record → Bool) (entries : List Record) → IsPart (recorded (filter test entries)) (recorded entries)
part-recorded test [] = none
part-recorded test (entry ∷ entries) =
    by_cases (test entry) (λ passes. rw passes (stays (part-recorded test entries))) (λ fails. rw fails (left_out (part-recorded test entries)))

-- the grants in force are some of those recorded
pub part-in_force : (entries : List Record) → IsPart (in_force entries) (recorded entries)
part-in_force entries = part-recorded (λ entry. is_none entry.end) entries

-- so are those on some tables
pub part-covered : (covers : ℕ → Bool) (entries : List Record) → IsPart (recorded (covered covers entries)) (recorded entries)
part-covered covers entries = part-recorded (λ entry. covers entry.grant.table) entries

-- and those made below a place
pub part-cut : (place : ℕ) (entries : List Record) → IsPart (recorded (cut place entries)) (recorded entries)
part-cut place [] = none
part-cut place (entry ∷ entries) =
    by_cases (nat_lt entry.grant.place place)
    (λ less. rw less (stays (part-cut place entries)))
    (λ more. rw more (left_out (part-cut place entries)))
