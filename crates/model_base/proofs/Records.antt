-- A deed changes the records one by one, and those without an end are the grants in force.
use Rattle.std.proofs.Common.{◌≡◌, ℕ, ◌<◌, ◌&&◌, not, Bool, true, false, List, [], ◌∷◌, ◌++◌, filter, map, refl, ◌∙◌, ap, append_assoc, arith, eq-eqb, Option, Some, None, is_none}
use Rattle.std.specs.Prelude.{All, ◌==◌, ◌≢◌}
use Rattle.std.specs.List.{list_any}
use Rattle.std.specs.Option.{option_or}
use Rattle.std.proofs.lemmas.Bool.{or_right, ne_eqb, eqb-true}
use Rattle.std.proofs.lemmas.List.{map-append, append-nil}
use Rattle.std.proofs.lemmas.List.Elements.{filter-append, All-nil, All-cons, All-head, All-tail, All-weaker, All-push}
use Rattle.model_base.specs.declared.deed.Grant.{Grant}
use Rattle.model_base.specs.declared.deed.Record.{Record}
use Rattle.model_base.specs.declared.deed.Need.{Need}
use Rattle.model_base.specs.declared.deed.Revocation.{Revocation}
use Rattle.model_base.specs.declared.deed.Deed.{Deed}
use Rattle.model_base.specs.declared.deed.Deed.TheVariants.{Granting, Revoking}
use Rattle.model_base.specs.Ranks.{deed_number, rank}
use Rattle.model_base.specs.Privileges.{has, holds, kept, is_among, lost, ended_by, MayFollow, IsProper, IsProperAfter}
use Rattle.model_base.specs.Laws.{IsPart, IsRising, none, left_out, stays}
use Rattle.model_base.specs.Records.{grants_of, end_after, record_of, records, in_force, holds_by, ended_at}
use Rattle.model_base.proofs.Replay.{by_cases, kept-grant}
use Rattle.model_base.proofs.Parts.{part-all, part-kept_revoke}
use Rattle.model_base.proofs.Places.{none_among, none_below, among-kept_grant, All-kept, IsRising-kept, held-past, proper-one}

-- whether this place is among the places
abbrev pub is_listed : ℕ → List ℕ → Bool
is_listed place places = list_any (λ made. made == place) places

-- the grants of two lists together are those of both
pub grants-append : (first later : List Deed) → grants_of (first ++ later) ≡ grants_of first ++ grants_of later
grants-append [] later = refl
grants-append (Granting grant ∷ first) later = ap (λ r. grant ∷ r) (grants-append first later)
grants-append (Revoking revocation ∷ first) later = grants-append first later

-- what is lost is what was among the first grants and isn't among the second
pub listed-lost : (place : ℕ) (before after : List Grant) → is_listed place (lost before after) ≡ (is_among place before && not (is_among place after))
listed-lost place [] after = refl
listed-lost place (grant ∷ before) after =
    let rest = listed-lost place before after in
    by_cases (rank grant == place)
    (λ same.
    let at : rank grant ≡ place = eqb-true (rank grant) place same in
    by_cases (is_among (rank grant) after)
    (λ found. let there : is_among place after ≡ true = rw at at found in rw (found, same, there, rest, there) (and_false (is_among place before)))
    (λ gone. let absent : is_among place after ≡ false = rw at at gone in rw (gone, same, absent) refl))
    (λ other. by_cases (is_among (rank grant) after)
    (λ found. rw (found, other) rest)
    (λ gone. rw (gone, other) rest))
  where
    and_false : (a : Bool) → (a && false) ≡ false
    and_false true = refl
    and_false false = refl

-- the records of two lists together that have no end are those of both
pub in_force-append : (first later : List Record) → in_force (first ++ later) ≡ in_force first ++ in_force later
in_force-append first later =
    let test : Record → Bool = λ entry. is_none entry.end in
    rw (filter-append test first later) (map-append (λ (entry : Record). entry.grant) (filter test first) (filter test later))

-- of the records with new ends those without an end are the others
pub in_force-ended : (place : ℕ) (ended : List ℕ) (entries : List Record)
    → in_force (map (ended_at place ended) entries) ≡ filter (λ grant. not (is_listed (rank grant) ended)) (in_force entries)
in_force-ended place ended [] = refl
in_force-ended place ended (entry ∷ entries) =
    let rest = in_force-ended place ended entries in
    by_cases (is_none entry.end)
    (λ unended. by_cases (is_listed (rank entry.grant) ended)
    (λ ends. rw (unended, ends) rest)
    (λ left. rw (unended, left, unended) (ap (λ r. entry.grant ∷ r) rest)))
    (λ closed. rw (closed, closed) rest)

-- two tests that agree on each of the grants keep the same
pub filter-same : (first second : Grant → Bool) (grants : List Grant) → All (λ grant. first grant ≡ second grant) grants
    → filter first grants ≡ filter second grants
filter-same first second [] all = refl
filter-same first second (grant ∷ grants) all =
    let rest = filter-same first second grants (All-tail (λ x. first x ≡ second x) grant grants all) in
    let here = All-head (λ x. first x ≡ second x) grant grants all in
    by_cases (second grant)
    (λ passes. rw (here, passes) (ap (λ r. grant ∷ r) rest))
    (λ fails. rw (here, fails) rest)

-- a part of grants with rising places is found again by its places
pub filter-part : {part grants : List Grant} → IsPart part grants → IsRising grants → filter (λ grant. is_among (rank grant) part) grants ≡ part
filter-part none rising = refl
filter-part (left_out {part} {grants} {grant} p) rising =
    rw (none_below part (rank grant) (part-all (λ later. rank grant < rank later) p rising.0)) (filter-part p rising.1)
filter-part (stays {part} {grants} {grant} p) rising =
    let whole : Grant → Bool = λ x. is_among (rank x) (grant ∷ part) in
    let rest : Grant → Bool = λ x. is_among (rank x) part in
    let others : filter whole grants ≡ filter rest grants =
    filter-same whole rest grants
    (All-weaker (λ later. rank grant < rank later) (λ x. whole x ≡ rest x) (λ x less. rw (ne_eqb (rank grant) (rank x) (λ same. omega arith)) refl)
    grants rising.0) in
    rw (eq-eqb (rank grant) (rank grant) refl) (ap (λ r. grant ∷ r) (others ∙ filter-part p rising.1))

-- each of the grants is among them
pub all_among : (grants : List Grant) → All (λ grant. is_among (rank grant) grants ≡ true) grants
all_among [] = All-nil (λ grant. is_among (rank grant) [] ≡ true)
all_among (grant ∷ grants) =
    All-cons (λ x. is_among (rank x) (grant ∷ grants) ≡ true) grant grants (rw (eq-eqb (rank grant) (rank grant) refl) refl)
    (All-weaker (λ x. is_among (rank x) grants ≡ true) (λ x. is_among (rank x) (grant ∷ grants) ≡ true)
    (λ x found. or_right (rank grant == rank x) (is_among (rank x) grants) found) grants (all_among grants))

-- what fails to fail passes
not_not : (b : Bool) → not (not b) ≡ b
not_not true = refl
not_not false = refl

-- nothing appended to an end leaves it
option_or-none : (o : Option ℕ) → option_or o None ≡ o
option_or-none None = refl
option_or-none (Some x) = refl

module _ (owners : List ℕ) where
  -- the first of two lists of deeds ends a grant, or else the second
  pub end-append : (past first later : List Deed) (place : ℕ)
      → end_after owners past (first ++ later) place ≡ option_or (end_after owners past first place) (end_after owners (past ++ first) later place)
  end-append past [] later place = rw (append-nil past) refl
  end-append past (deed ∷ first) later place =
      by_cases (is_among place (kept owners past) && not (is_among place (kept owners (past ++ deed ∷ []))))
      (λ ends. rw ends refl)
      (λ left. rw (left, end-append (past ++ deed ∷ []) first later place, append_assoc) refl)

  -- a number that no deed has isn't the rank of a grant in force
  pub none_among-kept : (deeds : List Deed) (place : ℕ) → All (λ deed. deed_number deed ≢ place) deeds → is_among place (kept owners deeds) ≡ false
  none_among-kept deeds place others = none_among (kept owners deeds) place (All-kept owners (λ q. q ≢ place) deeds others)

  -- a number that no deed has gets no end
  end-none : (past later : List Deed) (place : ℕ) → All (λ deed. deed_number deed ≢ place) past → All (λ deed. deed_number deed ≢ place) later
      → end_after owners past later place ≡ None
  end-none past [] place before after = refl
  end-none past (deed ∷ later) place before after =
      let other : Deed → Type 0 = λ deed. deed_number deed ≢ place in
      let rest = end-none (past ++ deed ∷ []) later place (All-push other past deed before (All-head other deed later after)) (All-tail other deed later after) in
      rw (none_among-kept past place before) rest

  -- a grant ends none
  pub end-grant : (deeds : List Deed) (grant : Grant) (place : ℕ)
      → end_after owners [] (deeds ++ Granting grant ∷ []) place ≡ end_after owners [] deeds place
  end-grant deeds grant place =
      let last : end_after owners deeds (Granting grant ∷ []) place ≡ None =
      by_cases (is_among place (kept owners deeds))
      (λ found. rw (found, among-kept_grant owners deeds grant place found) refl)
      (λ absent. rw absent refl) in
      end-append [] deeds (Granting grant ∷ []) place
      ∙ ap (option_or (end_after owners [] deeds place)) last
      ∙ option_or-none (end_after owners [] deeds place)

  -- so every record keeps its end
  same_ends : (deeds : List Deed) (grant : Grant) (grants : List Grant)
      → map (record_of owners (deeds ++ Granting grant ∷ [])) grants ≡ map (record_of owners deeds) grants
  same_ends deeds grant [] = refl
  same_ends deeds grant (x ∷ grants) = rw (end-grant deeds grant (rank x), same_ends deeds grant grants) refl

  -- a grant of a new rank is recorded after the others, with no end
  pub records-grant : (deeds : List Deed) (grant : Grant) → All (λ deed. deed_number deed ≢ rank grant) deeds
      → records owners (deeds ++ Granting grant ∷ []) ≡ records owners deeds ++ record { grant = grant; end = None } ∷ []
  records-grant deeds grant apart =
      let own : end_after owners [] (deeds ++ Granting grant ∷ []) (rank grant) ≡ None =
      end-grant deeds grant (rank grant) ∙ end-none [] deeds (rank grant) (All-nil (λ deed. deed_number deed ≢ rank grant)) apart in
      rw (grants-append deeds (Granting grant ∷ []), map-append (record_of owners (deeds ++ Granting grant ∷ [])) (grants_of deeds) (grant ∷ []), same_ends deeds grant (grants_of deeds), own)
      refl

  -- so is one whose rank lies above the numbers of all deeds
  pub records-grant_above : (deeds : List Deed) (grant : Grant) → All (λ deed. deed_number deed < rank grant) deeds
      → records owners (deeds ++ Granting grant ∷ []) ≡ records owners deeds ++ record { grant = grant; end = None } ∷ []
  records-grant_above deeds grant below =
      records-grant deeds grant (All-weaker (λ deed. deed_number deed < rank grant) (λ deed. deed_number deed ≢ rank grant) (λ deed less is. omega arith) deeds below)

  -- a revocation ends a grant's record if it has no end and the grant is among those that it takes out of force
  new_end : (deeds : List Deed) (revocation : Revocation) (grant : Grant)
      → record_of owners (deeds ++ Revoking revocation ∷ []) grant
      ≡ ended_at revocation.place (ended_by owners deeds revocation) (record_of owners deeds grant)
  new_end deeds revocation grant =
      let before = kept owners deeds in
      let after = kept owners (deeds ++ Revoking revocation ∷ []) in
      let listed = listed-lost (rank grant) before after in
      rw (end-append [] deeds (Revoking revocation ∷ []) (rank grant)) (by_end (end_after owners [] deeds (rank grant)) refl listed)
    where
      by_end : (end : Option ℕ) → end_after owners [] deeds (rank grant) ≡ end
          → is_listed (rank grant) (ended_by owners deeds revocation) ≡ (is_among (rank grant) (kept owners deeds) && not (is_among (rank grant) (kept owners (deeds ++ Revoking revocation ∷ []))))
          → record { grant = grant; end = option_or (end_after owners [] deeds (rank grant)) (end_after owners deeds (Revoking revocation ∷ []) (rank grant)) }
          ≡ ended_at revocation.place (ended_by owners deeds revocation) (record_of owners deeds grant)
      by_end (Some q) is listed = rw is refl
      by_end None is listed =
          by_cases (is_among (rank grant) (kept owners deeds) && not (is_among (rank grant) (kept owners (deeds ++ Revoking revocation ∷ []))))
          (λ ends. rw (is, listed, ends) refl)
          (λ left. rw (is, listed, left) refl)

  -- so with all of them
  new_ends : (deeds : List Deed) (revocation : Revocation) (grants : List Grant)
      → map (record_of owners (deeds ++ Revoking revocation ∷ [])) grants
      ≡ map (ended_at revocation.place (ended_by owners deeds revocation)) (map (record_of owners deeds) grants)
  new_ends deeds revocation [] = refl
  new_ends deeds revocation (grant ∷ grants) = rw (new_end deeds revocation grant, new_ends deeds revocation grants) refl

  -- a revocation ends the records of the grants that it takes out of force
  pub records-revoke : (deeds : List Deed) (revocation : Revocation)
      → records owners (deeds ++ Revoking revocation ∷ [])
      ≡ map (ended_at revocation.place (ended_by owners deeds revocation)) (records owners deeds)
  records-revoke deeds revocation =
      rw (grants-append deeds (Revoking revocation ∷ []), append-nil (grants_of deeds)) (new_ends deeds revocation (grants_of deeds))

  -- one more deed that may follow keeps the records without an end those in force
  in_force-one : (past : List Deed) (deed : Deed) → IsProper owners past → MayFollow owners past deed → in_force (records owners past) ≡ kept owners past
      → in_force (records owners (past ++ deed ∷ [])) ≡ kept owners (past ++ deed ∷ [])
  in_force-one past (Granting grant) proper may same =
      rw (records-grant_above past grant may.0, in_force-append (records owners past) (record { grant = grant; end = None } ∷ []), same, kept-grant owners past grant (held-past owners past grant may))
      refl
  in_force-one past (Revoking revocation) proper may same =
      let before = kept owners past in
      let after = kept owners (past ++ Revoking revocation ∷ []) in
      let left : Grant → Bool = λ grant. not (is_listed (rank grant) (ended_by owners past revocation)) in
      let stands : Grant → Bool = λ grant. is_among (rank grant) after in
      rw (records-revoke past revocation, in_force-ended revocation.place (ended_by owners past revocation) (records owners past), same)
      (filter-same left stands before
      (All-weaker (λ grant. is_among (rank grant) before ≡ true) (λ grant. left grant ≡ stands grant)
      (λ grant found. rw (listed-lost (rank grant) before after, found) (not_not (is_among (rank grant) after))) before (all_among before))
      ∙ filter-part (part-kept_revoke owners past revocation) (IsRising-kept owners past proper))

  -- so do all deeds that may follow
  in_force-after : (past later : List Deed) → IsProper owners past → IsProperAfter owners past later → in_force (records owners past) ≡ kept owners past
      → in_force (records owners (past ++ later)) ≡ kept owners (past ++ later)
  in_force-after past [] proper more same = rw append-nil same
  in_force-after past (deed ∷ later) proper more same =
      rw append_assoc at (in_force-after (past ++ deed ∷ []) later (proper-one owners [] past deed proper more.0) more.1 (in_force-one past deed proper more.0 same))

  -- the grants of the records without an end are those in force
  pub in_force-records : (deeds : List Deed) → IsProper owners deeds → in_force (records owners deeds) ≡ kept owners deeds
  in_force-records deeds proper = in_force-after [] deeds tt proper refl

  -- so the records tell who holds what
  pub holds_by-records : (deeds : List Deed) (user : ℕ) (need : Need) → IsProper owners deeds
      → holds_by owners (records owners deeds) user need ≡ holds owners deeds user need
  holds_by-records deeds user need proper = ap (λ grants. has owners grants user need) (in_force-records deeds proper)
