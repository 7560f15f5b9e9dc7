-- Which grants a revocation ends, the records of its kinds on its table tell alone.
use Rattle.std.proofs.Common.{◌≡◌, ℕ, ◌&&◌, not, Bool, true, false, List, [], ◌∷◌, ◌++◌, filter, refl, sym, ◌∙◌, ap, eq-eqb}
use Rattle.std.specs.Prelude.{All, ◌==◌}
use Rattle.std.proofs.lemmas.Bool.{not-true, or_right, eqb-true}
use Rattle.std.proofs.lemmas.List.Elements.{All-nil, All-cons, All-head, All-tail, All-weaker}
use Rattle.model_base.specs.declared.deed.Kind.{Kind}
use Rattle.model_base.specs.declared.deed.Grant.{Grant}
use Rattle.model_base.specs.declared.deed.Record.{Record}
use Rattle.model_base.specs.declared.deed.Revocation.{Revocation}
use Rattle.model_base.specs.declared.deed.Deed.{Deed}
use Rattle.model_base.specs.declared.deed.Deed.TheVariants.{Revoking}
use Rattle.model_base.specs.Ranks.{rank}
use Rattle.model_base.specs.Privileges.{has_grantee, has_kind, concerns, names, replayed, kept, is_among, lost, ended_by, IsProper}
use Rattle.model_base.specs.Laws.{IsRising}
use Rattle.model_base.specs.Records.{records, in_force, ended_by_records, covered}
use Rattle.model_base.proofs.Replay.{by_cases, kept-revoke, kept-replayed}
use Rattle.model_base.proofs.Parts.{part-all, part-filter, part-part, part-replayed}
use Rattle.model_base.proofs.Places.{among-part, IsRising-kept}
use Rattle.model_base.proofs.Records.{in_force-records}
use Rattle.model_base.proofs.Recorded.{rising-unique}
use Rattle.model_base.proofs.Covered.{contrary, is_covered, left_by, left_by-covered, left_by-other, among-covered, stands-covered}
use Rattle.model_base.proofs.ByTables.{taken, in_force-taken}

-- each grant that passes a test is among those that pass
pub all_among-filter : (test : Grant → Bool) (grants : List Grant) → All (λ grant. test grant ≡ true → is_among (rank grant) (filter test grants) ≡ true) grants
all_among-filter test [] = All-nil (λ grant. test grant ≡ true → is_among (rank grant) [] ≡ true)
all_among-filter test (grant ∷ grants) =
    let Found : Grant → Type 0 = λ x. test x ≡ true → is_among (rank x) (filter test (grant ∷ grants)) ≡ true in
    All-cons Found grant grants (λ passes. rw (passes, eq-eqb (rank grant) (rank grant) refl) refl)
    (All-weaker (λ x. test x ≡ true → is_among (rank x) (filter test grants) ≡ true) Found (λ x found passes. later x (found passes)) grants
    (all_among-filter test grants))
  where
    later : (x : Grant) → is_among (rank x) (filter test grants) ≡ true → is_among (rank x) (filter test (grant ∷ grants)) ≡ true
    later x found =
        by_cases (test grant)
        (λ passes. rw passes (or_right (rank grant == rank x) (is_among (rank x) (filter test grants)) found))
        (λ fails. rw fails found)

-- what is lost of the grants that pass a test is all that is lost, if the others stay and the test keeps those that stay
lost-filter : (test : Grant → Bool) (before after : List Grant)
    → All (λ grant. test grant ≡ false → is_among (rank grant) after ≡ true) before
    → All (λ grant. test grant ≡ true → is_among (rank grant) (filter test after) ≡ is_among (rank grant) after) before
    → lost (filter test before) (filter test after) ≡ lost before after
lost-filter test [] after others same = refl
lost-filter test (grant ∷ before) after others same =
    let Stays : Grant → Type 0 = λ x. test x ≡ false → is_among (rank x) after ≡ true in
    let Same : Grant → Type 0 = λ x. test x ≡ true → is_among (rank x) (filter test after) ≡ is_among (rank x) after in
    let rest = lost-filter test before after (All-tail Stays grant before others) (All-tail Same grant before same) in
    by_cases (test grant)
    (λ passes.
    let here = All-head Same grant before same passes in
    by_cases (is_among (rank grant) after)
    (λ found. rw (passes, here, found) rest)
    (λ gone. rw (passes, here, gone) (ap (λ r. rank grant ∷ r) rest)))
    (λ fails. rw (fails, All-head Stays grant before others fails) rest)

module _ (owners : List ℕ) (revocation : Revocation) where
  -- whether the revocation speaks of this kind on this table
  abbrev pub is_of : Kind → ℕ → Bool
  is_of kind table = has_kind revocation.kinds kind && (revocation.table == table)

  -- a revocation doesn't name what it doesn't concern
  unnamed : (grant : Grant) → not (concerns revocation grant) ≡ true → names revocation grant ≡ false
  unfolding names
  unnamed grant other = rw (not-true (concerns revocation grant) other) (and_false (revocation.grantor == grant.grantor) (has_grantee revocation.grantees grant.grantee))
    where
      and_false : (a b : Bool) → (a && (b && false)) ≡ false
      and_false true true = refl
      and_false true false = refl
      and_false false b = refl

  -- of grants that bear their own replay, a revocation leaves those that it doesn't concern
  pub stays-other : (grants : List Grant) → replayed owners [] grants ≡ grants
      → All (λ grant. concerns revocation grant ≡ false → is_among (rank grant) (left_by owners revocation grants) ≡ true) grants
  stays-other grants stands =
      let test : Grant → Bool = λ grant. not (concerns revocation grant) in
      let after = left_by owners revocation grants in
      let same : filter test after ≡ filter test grants = left_by-other owners (λ kind table. not (is_of kind table)) revocation grants stands unnamed in
      All-weaker (λ grant. test grant ≡ true → is_among (rank grant) (filter test grants) ≡ true)
      (λ grant. concerns revocation grant ≡ false → is_among (rank grant) after ≡ true)
      (λ grant found other.
      let there : is_among (rank grant) (filter test after) ≡ true = ap (is_among (rank grant)) same ∙ found (rw other refl) in
      among-part (rank grant) (part-filter test after) there)
      grants (all_among-filter test grants)

  -- so of the grants in force
  pub kept-stays_other : (deeds : List Deed)
      → All (λ grant. concerns revocation grant ≡ false → is_among (rank grant) (kept owners (deeds ++ Revoking revocation ∷ [])) ≡ true) (kept owners deeds)
  kept-stays_other deeds = rw (kept-revoke owners deeds revocation) (stays-other (kept owners deeds) (kept-replayed owners deeds))

  -- what a revocation ends, the records of some kinds on some tables tell, if they have its own: of all records whose
  -- grants in force have rising places and bear their own replay
  pub ended_by-taken : (covers : Kind → ℕ → Bool) (entries : List Record) → IsRising (in_force entries) → replayed owners [] (in_force entries) ≡ in_force entries
      → ((kind : Kind) → has_kind revocation.kinds kind ≡ true → covers kind revocation.table ≡ true)
      → ended_by_records owners (taken covers entries) revocation ≡ ended_by_records owners entries revocation
  ended_by-taken covers entries rising stands cover =
      let test : Grant → Bool = is_covered owners covers in
      let before = in_force entries in
      let after = left_by owners revocation before in
      let Alone : Grant → Grant → Type 0 = λ grant x. rank x ≡ rank grant → x ≡ grant in
      ap (λ grants. lost grants (left_by owners revocation grants)) (in_force-taken owners covers entries)
      ∙ ap (lost (filter test before)) (left_by-covered owners covers revocation before)
      ∙ lost-filter test before after
      (All-weaker (λ grant. concerns revocation grant ≡ false → is_among (rank grant) after ≡ true) (λ grant. test grant ≡ false → is_among (rank grant) after ≡ true)
      (λ grant stays other. stays (unconcerned grant other)) before (stays-other before stands))
      (All-weaker (λ grant. All (Alone grant) before) (λ grant. test grant ≡ true → is_among (rank grant) (filter test after) ≡ is_among (rank grant) after)
      (λ grant alone passes. among-covered owners covers (rank grant) after
      (All-weaker (Alone grant) (λ x. rank x ≡ rank grant → test x ≡ true)
      (λ x same at. let is : x ≡ grant = same at in rw is passes) after
      (part-all (Alone grant) (part-part (part-replayed owners [] (filter (λ grant. not (names revocation grant)) before)) (part-filter (λ grant. not (names revocation grant)) before)) alone)))
      before (rising-unique before rising))
    where
      unconcerned : (grant : Grant) → covers grant.kind grant.table ≡ false → concerns revocation grant ≡ false
      unconcerned grant other =
          by_cases (has_kind revocation.kinds grant.kind)
          (λ kind. by_cases (revocation.table == grant.table)
          (λ table.
          let tables : revocation.table ≡ grant.table = eqb-true revocation.table grant.table table in
          contrary (covers grant.kind revocation.table) (cover grant.kind kind) (rw tables other))
          (λ elsewhere. rw (kind, elsewhere) refl))
          (λ differs. rw differs refl)

  -- those of some tables tell it of a revocation on one of them
  pub ended_by-covered : (covers : ℕ → Bool) (entries : List Record) → IsRising (in_force entries) → replayed owners [] (in_force entries) ≡ in_force entries
      → covers revocation.table ≡ true → ended_by_records owners (covered covers entries) revocation ≡ ended_by_records owners entries revocation
  ended_by-covered covers entries rising stands cover = ended_by-taken (λ kind table. covers table) entries rising stands (λ kind _. cover)

  -- and those of its own kinds and table
  pub ended_by-concerned : (entries : List Record) → IsRising (in_force entries) → replayed owners [] (in_force entries) ≡ in_force entries
      → ended_by_records owners (filter (λ entry. concerns revocation entry.grant) entries) revocation ≡ ended_by_records owners entries revocation
  ended_by-concerned entries rising stands =
      ended_by-taken is_of entries rising stands (λ kind here. rw here (eq-eqb revocation.table revocation.table refl))

  -- all records of some deeds tell what it ends after them
  pub ended_by-records : (deeds : List Deed) → IsProper owners deeds → ended_by_records owners (records owners deeds) revocation ≡ ended_by owners deeds revocation
  ended_by-records deeds proper =
      ap (λ grants. lost grants (left_by owners revocation grants)) (in_force-records owners deeds proper)
      ∙ ap (lost (kept owners deeds)) (sym (kept-revoke owners deeds revocation))

-- the grants in force of the records of deeds have rising places
pub rising-in_force : (owners : List ℕ) (deeds : List Deed) → IsProper owners deeds → IsRising (in_force (records owners deeds))
rising-in_force owners deeds proper = rw (in_force-records owners deeds proper) (IsRising-kept owners deeds proper)

-- and bear their own replay
pub stands-in_force : (owners : List ℕ) (deeds : List Deed) → IsProper owners deeds
    → replayed owners [] (in_force (records owners deeds)) ≡ in_force (records owners deeds)
stands-in_force owners deeds proper =
    let force = in_force-records owners deeds proper in
    ap (replayed owners []) force ∙ kept-replayed owners deeds ∙ sym force

-- which those of some tables do, if all do
pub stands-in_force_covered : (owners : List ℕ) (covers : ℕ → Bool) (entries : List Record) → replayed owners [] (in_force entries) ≡ in_force entries
    → replayed owners [] (in_force (covered covers entries)) ≡ in_force (covered covers entries)
stands-in_force_covered owners covers entries stands =
    let on : Kind → ℕ → Bool = λ kind table. covers table in
    let force = in_force-taken owners on entries in
    ap (replayed owners []) force ∙ stands-covered owners on (in_force entries) stands ∙ sym force

-- so the records of some tables tell which grants a revocation on one of them ends after the deeds
pub ended_by-covered_records : (owners : List ℕ) (covers : ℕ → Bool) (deeds : List Deed) (revocation : Revocation) → IsProper owners deeds
    → covers revocation.table ≡ true
    → ended_by_records owners (covered covers (records owners deeds)) revocation ≡ ended_by owners deeds revocation
ended_by-covered_records owners covers deeds revocation proper cover =
    ended_by-covered owners revocation covers (records owners deeds) (rising-in_force owners deeds proper) (stands-in_force owners deeds proper) cover
    ∙ ended_by-records owners revocation deeds proper
