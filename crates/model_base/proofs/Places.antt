-- The grants in force are in the order of their ranks, and one that has left force never comes back.
use Rattle.std.proofs.Common.{◌≡◌, ℕ, ◌<◌, ◌≤◌, ◌||◌, true, false, List, [], ◌∷◌, ◌++◌, refl, sym, ◌∙◌, append_assoc, arith, inl, inr, subst}
use Rattle.std.specs.Prelude.{All, Contains, ◌*◌, ◌==◌, nat_lt}
use Rattle.std.specs.List.{list_any}
use Rattle.std.proofs.lemmas.Bool.{cases_lt, lt-ltb, or_cases, or_from, true≢false, eqb-true, ne_eqb, false_from_ne_true}
use Rattle.std.proofs.lemmas.List.{append-nil}
use Rattle.std.proofs.lemmas.List.Folds.{list_any-append}
use Rattle.std.proofs.lemmas.List.Elements.{All-nil, All-cons, All-head, All-tail, All-weaker, All-contains, Contains-push, Contains-append_left}
use Rattle.model_base.specs.declared.deed.Grant.{Grant}
use Rattle.model_base.specs.declared.deed.Revocation.{Revocation}
use Rattle.model_base.specs.declared.deed.Deed.{Deed}
use Rattle.model_base.specs.declared.deed.Deed.TheVariants.{Granting, Revoking}
use Rattle.model_base.specs.Ranks.{deed_number, rank, rank_of}
use Rattle.model_base.specs.RecordNames.{few_kinds, few_positions}
use Rattle.model_base.specs.Privileges.{deeds_below, has, holds, option_of, revokes, erased, kept, is_among, place_of, MayFollow, IsProper, IsProperAfter}
use Rattle.model_base.specs.Laws.{IsPart, IsRising, none, left_out, stays}
use Rattle.model_base.proofs.Replay.{by_cases, kept-grant, kept-refused}
use Rattle.model_base.proofs.Parts.{part-all, part-any, part-gives, part-kept_fewer, part-kept_revoke, part-part, part-replayed, part-same}

-- what holds of each grant's place holds of the place of one of them
pub among_all : (P : ℕ → Type 0) (grants : List Grant) (ranked : ℕ) → All (λ grant. P (rank grant)) grants → is_among ranked grants ≡ true → P ranked
among_all P [] ranked all found = absurd (true≢false (sym found))
among_all P (grant ∷ grants) ranked all found =
    elim (or_cases (rank grant == ranked) (is_among ranked grants) found) [
      | inl same ↦ subst P (eqb-true (rank grant) ranked same) (All-head (λ x. P (rank x)) grant grants all)
      | inr later ↦ among_all P grants ranked (All-tail (λ x. P (rank x)) grant grants all) later
    ]

-- no grant of this place is among grants of other places
pub none_among : (grants : List Grant) (ranked : ℕ) → All (λ grant. rank grant ≡ ranked → ⊥) grants → is_among ranked grants ≡ false
none_among [] ranked all = refl
none_among (grant ∷ grants) ranked all =
    or_from (rank grant == ranked) (is_among ranked grants) (ne_eqb (rank grant) ranked (All-head (λ x. rank x ≡ ranked → ⊥) grant grants all))
    (none_among grants ranked (All-tail (λ x. rank x ≡ ranked → ⊥) grant grants all))

-- nor among those of lower places
pub none_above : (grants : List Grant) (ranked : ℕ) → All (λ grant. rank grant < ranked) grants → is_among ranked grants ≡ false
none_above grants ranked all =
    none_among grants ranked (All-weaker (λ grant. rank grant < ranked) (λ grant. rank grant ≡ ranked → ⊥) (λ x lt same. omega arith) grants all)

-- nor among those of higher ones
pub none_below : (grants : List Grant) (ranked : ℕ) → All (λ grant. ranked < rank grant) grants → is_among ranked grants ≡ false
none_below grants ranked all =
    none_among grants ranked (All-weaker (λ grant. ranked < rank grant) (λ grant. rank grant ≡ ranked → ⊥) (λ x lt same. omega arith) grants all)

-- a grant is among two lists together if it is among one
pub among-append : (first later : List Grant) (ranked : ℕ) → is_among ranked (first ++ later) ≡ (is_among ranked first || is_among ranked later)
among-append first later ranked = list_any-append (λ grant. rank grant == ranked) first later

-- the grant of a place among a part is among the whole
pub among-part : (ranked : ℕ) {part grants : List Grant} → IsPart part grants → is_among ranked part ≡ true → is_among ranked grants ≡ true
among-part ranked part found = part-any (λ grant. rank grant == ranked) part found

-- the places of a part rise as those of the whole
pub rising-part : {part grants : List Grant} → IsPart part grants → IsRising grants → IsRising part
rising-part none rising = tt
rising-part (left_out {part} {grants} {grant} p) rising = rising-part p rising.1
rising-part (stays {part} {grants} {grant} p) rising = (part-all (λ later. rank grant < rank later) p rising.0, rising-part p rising.1)

-- what is at a later place has a greater number
pub number-rises : (deed next : Deed) → place_of deed < place_of next → deed_number deed < deed_number next
unfolding rank_of
number-rises (Granting grant) (Granting next) less =
    let kinds = few_kinds grant.kind in let positions = few_positions grant.position in omega arith
number-rises (Granting grant) (Revoking next) less =
    let kinds = few_kinds grant.kind in let positions = few_positions grant.position in omega arith
number-rises (Revoking revocation) (Granting next) less = omega arith
number-rises (Revoking revocation) (Revoking next) less = omega arith

-- what has a lower number isn't at a later place
pub number-places : (deed next : Deed) → deed_number deed < deed_number next → place_of deed ≤ place_of next
number-places deed next less =
    elim (cases_lt (place_of next) (place_of deed)) [
      | inl later ↦ let more = number-rises next deed later in absurd (omega arith)
      | inr up ↦ up
    ]

-- what is below a place has a number below those of the place
pub number-below : (deed : Deed) (place : ℕ) → place_of deed < place → deed_number deed < place * 32
unfolding rank_of
number-below (Granting grant) place less =
    let kinds = few_kinds grant.kind in let positions = few_positions grant.position in omega arith
number-below (Revoking revocation) place less = omega arith

-- what holds of the place of the deed, if it is a revocation
abbrev pub AtRevocation : (ℕ → Type 0) → Deed → Type 0
AtRevocation P (Granting grant) = Unit {0}
AtRevocation P (Revoking revocation) = P revocation.place

-- a revocation with a number below the rank of a grant has a lower place
revocation-lower : (deed : Deed) (grant : Grant) → deed_number deed < rank grant → AtRevocation (λ place. place < grant.place) deed
unfolding rank_of
revocation-lower (Granting other) grant less = tt
revocation-lower (Revoking revocation) grant less =
    let kinds = few_kinds grant.kind in let positions = few_positions grant.position in omega arith

-- what holds of a deed's place holds of it, if it is a revocation
at_revocation : (P : ℕ → Type 0) (deed : Deed) → P (place_of deed) → AtRevocation P deed
at_revocation P (Granting grant) is = tt
at_revocation P (Revoking revocation) is = is

-- what holds of the numbers of all deeds holds of the ranks of the grants that aren't erased
pub All-erased : (P : ℕ → Type 0) (deeds : List Deed) → All (λ deed. P (deed_number deed)) deeds → All (λ grant. P (rank grant)) (erased deeds)
All-erased P [] all = All-nil (λ grant. P (rank grant))
All-erased P (Granting grant ∷ deeds) all =
    let rest = All-erased P deeds (All-tail (λ deed. P (deed_number deed)) (Granting grant) deeds all) in
    by_cases (list_any (λ deed. revokes deed grant) deeds)
    (λ named. rw named rest)
    (λ other. rw other (All-cons (λ x. P (rank x)) grant (erased deeds) (All-head (λ deed. P (deed_number deed)) (Granting grant) deeds all) rest))
All-erased P (Revoking revocation ∷ deeds) all = All-erased P deeds (All-tail (λ deed. P (deed_number deed)) (Revoking revocation) deeds all)

module _ (owners : List ℕ) where
  -- a deed that may follow has a number above all others
  pub follows : (past : List Deed) (deed : Deed) → MayFollow owners past deed → All (λ earlier. deed_number earlier < deed_number deed) past
  follows past (Granting grant) may = may.0
  follows past (Revoking revocation) may =
      All-weaker (λ earlier. place_of earlier < revocation.place) (λ earlier. deed_number earlier < deed_number (Revoking revocation))
      (λ earlier less. number-rises earlier (Revoking revocation) less) past may

  -- and the revocations before it are at lower places
  pub revocations-below : (past : List Deed) (deed : Deed) → MayFollow owners past deed → All (AtRevocation (λ place. place < place_of deed)) past
  revocations-below past (Granting grant) may =
      All-weaker (λ earlier. deed_number earlier < rank grant) (AtRevocation (λ place. place < grant.place))
      (λ earlier less. revocation-lower earlier grant less) past may.0
  revocations-below past (Revoking revocation) may =
      All-weaker (λ earlier. place_of earlier < revocation.place) (AtRevocation (λ place. place < revocation.place))
      (λ earlier less. at_revocation (λ place. place < revocation.place) earlier less) past may

  -- a revocation that may follow is at a later place
  revocation-above : (past : List Deed) (next deed : Deed) → Contains past deed → MayFollow owners past next
      → AtRevocation (λ place. place_of deed < place) next
  revocation-above past (Granting grant) deed here may = tt
  revocation-above past (Revoking revocation) deed here may = All-contains (λ earlier. place_of earlier < revocation.place) past deed may here

  -- so are all later revocations of a proper list
  pub revocations-above : (past later : List Deed) (deed : Deed) → Contains past deed → IsProperAfter owners past later
      → All (AtRevocation (λ place. place_of deed < place)) later
  revocations-above past [] deed here proper = All-nil (AtRevocation (λ place. place_of deed < place))
  revocations-above past (next ∷ later) deed here proper =
      All-cons (AtRevocation (λ place. place_of deed < place)) next later (revocation-above past next deed here proper.0)
      (revocations-above (past ++ next ∷ []) later deed (Contains-append_left past (next ∷ []) deed here) proper.1)

  -- leaving out the deeds at a place and above, if they are grants, keeps no grant more
  part-kept_below : (place : ℕ) (start past : List Deed) → All (AtRevocation (λ at. at < place)) past
      → IsPart (kept owners (start ++ deeds_below place past)) (kept owners (start ++ past))
  part-kept_below place start [] all = part-same (kept owners (start ++ []))
  part-kept_below place start (Granting grant ∷ past) all =
      let first : List Deed = Granting grant ∷ [] in
      let rest = All-tail (AtRevocation (λ at. at < place)) (Granting grant) past all in
      by_cases (nat_lt grant.place place)
      (λ less. rw less
      (rw (append_assoc start first (deeds_below place past), append_assoc start first past) at (part-kept_below place (start ++ first) past rest)))
      (λ more. rw more (part-part (part-kept_below place start past rest) (part-kept_fewer owners start past grant)))
  part-kept_below place start (Revoking revocation ∷ past) all =
      let first : List Deed = Revoking revocation ∷ [] in
      let rest = All-tail (AtRevocation (λ at. at < place)) (Revoking revocation) past all in
      rw (lt-ltb revocation.place place (All-head (AtRevocation (λ at. at < place)) (Revoking revocation) past all))
      (rw (append_assoc start first (deeds_below place past), append_assoc start first past) at (part-kept_below place (start ++ first) past rest))

  -- so the grantor of a grant that may follow holds the option by all deeds before it
  pub held-past : (past : List Deed) (grant : Grant) → MayFollow owners past (Granting grant)
      → holds owners past grant.grantor (option_of grant) ≡ true
  held-past past grant may =
      let part = part-kept_below grant.place [] past (revocations-below past (Granting grant) may) in
      (part-gives owners part).within grant.grantor (option_of grant) may.1

  -- the deeds of a proper list that come later are proper after those before them
  pub proper-later : (start past later : List Deed) → IsProperAfter owners start (past ++ later) → IsProperAfter owners (start ++ past) later
  proper-later start [] later proper = rw append-nil proper
  proper-later start (deed ∷ past) later proper = rw append_assoc at (proper-later (start ++ deed ∷ []) past later proper.1)

  -- one more deed that may follow leaves a list proper
  pub proper-one : (start past : List Deed) (deed : Deed) → IsProperAfter owners start past → MayFollow owners (start ++ past) deed
      → IsProperAfter owners start (past ++ deed ∷ [])
  proper-one start [] deed proper may = (rw append-nil at may, tt)
  proper-one start (first ∷ past) deed proper may = (proper.0, proper-one (start ++ first ∷ []) past deed proper.1 (rw append_assoc may))

  -- so do all later deeds that may follow
  pub proper-join : (start past later : List Deed) → IsProperAfter owners start past → IsProperAfter owners (start ++ past) later
      → IsProperAfter owners start (past ++ later)
  proper-join start [] later proper more = rw append-nil at more
  proper-join start (first ∷ past) later proper more = (proper.0, proper-join (start ++ first ∷ []) past later proper.1 (rw append_assoc more))

  -- a deed of the past has a number below those of all later deeds
  pub number-above : (past later : List Deed) (deed : Deed) → Contains past deed → IsProperAfter owners past later
      → All (λ next. deed_number deed < deed_number next) later
  number-above past [] deed here proper = All-nil (λ next. deed_number deed < deed_number next)
  number-above past (next ∷ later) deed here proper =
      All-cons (λ next. deed_number deed < deed_number next) next later
      (All-contains (λ earlier. deed_number earlier < deed_number next) past deed (follows past next proper.0) here)
      (number-above (past ++ next ∷ []) later deed (Contains-append_left past (next ∷ []) deed here) proper.1)

  -- so no later deed has a lower place
  pub proper-above : (past later : List Deed) (deed : Deed) → Contains past deed → IsProperAfter owners past later
      → All (λ next. place_of deed ≤ place_of next) later
  proper-above past later deed here proper =
      All-weaker (λ next. deed_number deed < deed_number next) (λ next. place_of deed ≤ place_of next) (λ next less. number-places deed next less)
      later (number-above past later deed here proper)

  -- what holds of the numbers of all deeds holds of the ranks of the grants in force
  pub All-kept : (P : ℕ → Type 0) (deeds : List Deed) → All (λ deed. P (deed_number deed)) deeds → All (λ grant. P (rank grant)) (kept owners deeds)
  All-kept P deeds all = part-all (λ grant. P (rank grant)) (part-replayed owners [] (erased deeds)) (All-erased P deeds all)

  -- the ranks of a proper list's grants rise
  IsRising-erased : (past deeds : List Deed) → IsProperAfter owners past deeds → IsRising (erased deeds)
  IsRising-erased past [] proper = tt
  IsRising-erased past (Granting grant ∷ deeds) proper =
      let rest = IsRising-erased (past ++ Granting grant ∷ []) deeds proper.1 in
      let above = number-above (past ++ Granting grant ∷ []) deeds (Granting grant) (Contains-push past (Granting grant)) proper.1 in
      by_cases (list_any (λ deed. revokes deed grant) deeds)
      (λ named. rw named rest)
      (λ other. rw other (All-erased (λ q. rank grant < q) deeds above, rest))
  IsRising-erased past (Revoking revocation ∷ deeds) proper = IsRising-erased (past ++ Revoking revocation ∷ []) deeds proper.1

  -- the grants in force are in the order of their ranks
  pub IsRising-kept : (deeds : List Deed) → IsProper owners deeds → IsRising (kept owners deeds)
  IsRising-kept deeds proper = rising-part (part-replayed owners [] (erased deeds)) (IsRising-erased [] deeds proper)

  -- what is in force after a revocation was so before it
  pub among-kept_revoke : (deeds : List Deed) (revocation : Revocation) (ranked : ℕ)
      → is_among ranked (kept owners (deeds ++ Revoking revocation ∷ [])) ≡ true → is_among ranked (kept owners deeds) ≡ true
  among-kept_revoke deeds revocation ranked found = among-part ranked (part-kept_revoke owners deeds revocation) found

  -- a grant ends none
  pub among-kept_grant : (deeds : List Deed) (grant : Grant) (ranked : ℕ)
      → is_among ranked (kept owners deeds) ≡ true → is_among ranked (kept owners (deeds ++ Granting grant ∷ [])) ≡ true
  among-kept_grant deeds grant ranked found =
      by_cases (has owners (kept owners deeds) grant.grantor (option_of grant))
      (λ held. rw (kept-grant owners deeds grant held, among-append (kept owners deeds) (grant ∷ []) ranked, found) refl)
      (λ missing. rw (kept-refused owners deeds grant missing) found)

  -- what isn't in force, with a lower rank, isn't after one more deed
  stays_out-one : (past : List Deed) (deed : Deed) (ranked : ℕ) → ranked < deed_number deed
      → is_among ranked (kept owners past) ≡ false → is_among ranked (kept owners (past ++ deed ∷ [])) ≡ false
  stays_out-one past (Granting grant) ranked below out =
      by_cases (has owners (kept owners past) grant.grantor (option_of grant))
      (λ held. rw (kept-grant owners past grant held, among-append (kept owners past) (grant ∷ []) ranked)
      (or_from _ _ out (or_from _ _ (ne_eqb (rank grant) ranked (λ same. omega arith)) refl)))
      (λ missing. rw (kept-refused owners past grant missing) out)
  stays_out-one past (Revoking revocation) ranked below out =
      false_from_ne_true (is_among ranked (kept owners (past ++ Revoking revocation ∷ [])))
      (λ found. true≢false (sym (among-kept_revoke past revocation ranked found) ∙ out))

  -- a grant that has left force never comes back
  pub stays_out : (past later : List Deed) (ranked : ℕ) → All (λ deed. ranked < deed_number deed) later
      → is_among ranked (kept owners past) ≡ false → is_among ranked (kept owners (past ++ later)) ≡ false
  stays_out past [] ranked above out = rw append-nil out
  stays_out past (deed ∷ later) ranked above out =
      let one = stays_out-one past deed ranked (All-head (λ deed. ranked < deed_number deed) deed later above) out in
      let all = stays_out (past ++ deed ∷ []) later ranked (All-tail (λ deed. ranked < deed_number deed) deed later above) one in
      rw append_assoc at all

  -- so it is with each grant of a proper list of deeds
  pub proper-stays_out : (past later : List Deed) (grant : Grant) → IsProper owners (past ++ later) → Contains past (Granting grant)
      → is_among (rank grant) (kept owners past) ≡ false → is_among (rank grant) (kept owners (past ++ later)) ≡ false
  proper-stays_out past later grant proper here out =
      stays_out past later (rank grant) (number-above past later (Granting grant) here (proper-later [] past later proper)) out
