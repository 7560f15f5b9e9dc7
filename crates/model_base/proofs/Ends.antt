-- The end of a record is the place of the one revocation that took its grant out of force.
use Rattle.std.proofs.Common.{◌≡◌, ◌↔◌, ℕ, ◌<◌, ◌&&◌, not, Bool, true, false, List, [], ◌∷◌, ◌++◌, refl, sym, ◌∙◌, ap, append_assoc, arith, Option, Some, None, subst}
use Rattle.std.specs.Prelude.{All, Contains, ◌*◌}
use Rattle.std.specs.Option.{option_or}
use Rattle.std.proofs.lemmas.Bool.{and_parts, and_from, not_from_false, not-true}
use Rattle.std.proofs.lemmas.List.Elements.{All-head, All-tail, All-weaker, All-map, All-contains_itself, Contains-push, Contains-append_left, Contains-append_right}
use Rattle.model_base.specs.declared.deed.Grant.{Grant}
use Rattle.model_base.specs.declared.deed.Revocation.{Revocation}
use Rattle.model_base.specs.declared.deed.Deed.{Deed}
use Rattle.model_base.specs.declared.deed.Deed.TheVariants.{Granting, Revoking}
use Rattle.model_base.specs.Ranks.{deed_number, rank, rank_of}
use Rattle.model_base.specs.Privileges.{concerns, kept, is_among, place_of, MayFollow, IsProper, IsProperAfter}
use Rattle.model_base.specs.Records.{grants_of, end_after, record_of, records}
use Rattle.model_base.proofs.Replay.{by_cases}
use Rattle.model_base.proofs.Parts.{part-all, part-part, part-beginning}
use Rattle.model_base.proofs.Places.{AtRevocation, among_all, among-kept_grant, All-kept, number-above, number-below, proper-later, revocations-above, revocations-below, stays_out}
use Rattle.model_base.proofs.Records.{grants-append, end-append}
use Rattle.model_base.proofs.Recorded.{All-both, part-kept_grants, rising-grants, rising-unique}
use Rattle.model_base.proofs.Covered.{contrary}
use Rattle.model_base.proofs.Ended.{kept-stays_other}

-- whether the deed takes the grant of this place out of force
abbrev pub is_ended : List ℕ → List Deed → Deed → ℕ → Bool
is_ended owners past deed ranked = is_among ranked (kept owners past) && not (is_among ranked (kept owners (past ++ deed ∷ [])))

-- a rank below the number of a revocation is that of an earlier place
place-below : (grant : Grant) (end : ℕ) → rank grant < end * 32 → grant.place < end
unfolding rank_of
place-below grant end less = omega arith

module _ (owners : List ℕ) where
  -- the ends that later deeds set are their places
  pub end-within : (P : ℕ → Type 0) (past later : List Deed) (ranked end : ℕ) → All (λ deed. P (place_of deed)) later
      → end_after owners past later ranked ≡ Some end → P end
  end-within P past [] ranked end all is = absurd (cc)
  end-within P past (deed ∷ later) ranked end all is =
      by_cases (is_ended owners past deed ranked)
      (λ ends.
      let here : Some (place_of deed) ≡ Some end = rw ends at is in
      let same : place_of deed ≡ end = cc in
      rw same at (All-head (λ deed. P (place_of deed)) deed later all))
      (λ left. end-within P (past ++ deed ∷ []) later ranked end (All-tail (λ deed. P (place_of deed)) deed later all) (rw left at is))

  -- a deed that ends a grant is a revocation
  ended-at : (P : ℕ → Type 0) (past : List Deed) (deed : Deed) (ranked : ℕ) → is_ended owners past deed ranked ≡ true → AtRevocation P deed → P (place_of deed)
  ended-at P past (Granting grant) ranked ends is =
      let parts = and_parts (is_among ranked (kept owners past)) _ ends in
      contrary (is_among ranked (kept owners (past ++ Granting grant ∷ []))) (among-kept_grant owners past grant ranked parts.0)
      (not-true (is_among ranked (kept owners (past ++ Granting grant ∷ []))) parts.1)
  ended-at P past (Revoking revocation) ranked ends is = is

  -- so the ends that later deeds set are the places of revocations
  end-revoked : (P : ℕ → Type 0) (past later : List Deed) (ranked end : ℕ) → All (AtRevocation P) later
      → end_after owners past later ranked ≡ Some end → P end
  end-revoked P past [] ranked end all is = absurd (cc)
  end-revoked P past (deed ∷ later) ranked end all is =
      by_cases (is_ended owners past deed ranked)
      (λ ends.
      let here : Some (place_of deed) ≡ Some end = rw ends at is in
      let same : place_of deed ≡ end = cc in
      subst P same (ended-at P past deed ranked ends (All-head (AtRevocation P) deed later all)))
      (λ left. end-revoked P (past ++ deed ∷ []) later ranked end (All-tail (AtRevocation P) deed later all) (rw left at is))

  -- a grant in force has a rank below the numbers of all deeds that may follow
  pub above-among : (past later : List Deed) (ranked : ℕ) → IsProperAfter owners past later → is_among ranked (kept owners past) ≡ true
      → All (λ next. ranked < deed_number next) later
  above-among past later ranked proper found =
      let P : ℕ → Type 0 = λ p. All (λ next. p < deed_number next) later in
      let all : All (λ deed. P (deed_number deed)) past =
      All-weaker (Contains past) (λ deed. P (deed_number deed)) (λ deed here. number-above owners past later deed here proper) past (All-contains_itself past) in
      among_all P (kept owners past) ranked (All-kept owners P past all) found

  -- a deed that ends a grant is at a later place
  ended-below : (past : List Deed) (deed : Deed) (ranked : ℕ) → MayFollow owners past deed → is_ended owners past deed ranked ≡ true → ranked < place_of deed * 32
  ended-below past (Granting grant) ranked may ends =
      let parts = and_parts (is_among ranked (kept owners past)) _ ends in
      contrary (is_among ranked (kept owners (past ++ Granting grant ∷ []))) (among-kept_grant owners past grant ranked parts.0)
      (not-true (is_among ranked (kept owners (past ++ Granting grant ∷ []))) parts.1)
  ended-below past (Revoking revocation) ranked may ends =
      let Low : ℕ → Type 0 = λ number. number < revocation.place * 32 in
      let found = (and_parts (is_among ranked (kept owners past)) _ ends).0 in
      among_all Low (kept owners past) ranked
      (All-kept owners Low past
      (All-weaker (λ deed. place_of deed < revocation.place) (λ deed. Low (deed_number deed)) (λ deed less. number-below deed revocation.place less) past may)) found

  -- an end lies above the place of the grant
  pub end-above : (past later : List Deed) (ranked end : ℕ) → IsProperAfter owners past later → end_after owners past later ranked ≡ Some end → ranked < end * 32
  end-above past [] ranked end proper is = absurd (cc)
  end-above past (deed ∷ later) ranked end proper is =
      by_cases (is_ended owners past deed ranked)
      (λ ends.
      let here : Some (place_of deed) ≡ Some end = rw ends at is in
      let same : place_of deed ≡ end = cc in
      rw same at (ended-below past deed ranked proper.0 ends))
      (λ left. end-above (past ++ deed ∷ []) later ranked end proper.1 (rw left at is))

  -- a grant with an end isn't in force
  pub end-out : (past later : List Deed) (ranked end : ℕ) → IsProperAfter owners past later → end_after owners past later ranked ≡ Some end
      → is_among ranked (kept owners (past ++ later)) ≡ false
  end-out past [] ranked end proper is = absurd (cc)
  end-out past (deed ∷ later) ranked end proper is =
      by_cases (is_ended owners past deed ranked)
      (λ ends.
      let parts = and_parts (is_among ranked (kept owners past)) _ ends in
      let out = not-true (is_among ranked (kept owners (past ++ deed ∷ []))) parts.1 in
      let above = All-tail (λ next. ranked < deed_number next) deed later (above-among past (deed ∷ later) ranked proper parts.0) in
      rw append_assoc at (stays_out owners (past ++ deed ∷ []) later ranked above out))
      (λ left. rw append_assoc at (end-out (past ++ deed ∷ []) later ranked end proper.1 (rw left at is)))

  -- the deed that takes a grant out of force sets its end
  pub end-at : (past : List Deed) (deed : Deed) (later : List Deed) (ranked : ℕ) → IsProper owners past → is_ended owners past deed ranked ≡ true
      → end_after owners [] (past ++ deed ∷ later) ranked ≡ Some (place_of deed)
  end-at past deed later ranked proper ends =
      rw (end-append owners [] past (deed ∷ later) ranked, ends) (by_end (end_after owners [] past ranked) refl)
    where
      by_end : (first : Option ℕ) → end_after owners [] past ranked ≡ first → option_or first (Some (place_of deed)) ≡ Some (place_of deed)
      by_end None is = refl
      by_end (Some end) is =
          contrary (is_among ranked (kept owners past)) (and_parts (is_among ranked (kept owners past)) _ ends).0 (end-out [] past ranked end proper is)

  -- and only that one does
  pub end-only : (past : List Deed) (deed : Deed) (later : List Deed) (ranked : ℕ)
      → All (AtRevocation (λ place. place < place_of deed)) past → All (AtRevocation (λ place. place_of deed < place)) later
      → end_after owners [] (past ++ deed ∷ later) ranked ≡ Some (place_of deed) → is_ended owners past deed ranked ≡ true
  end-only past deed later ranked below above ended =
      by_cases (is_ended owners past deed ranked)
      (λ ends. ends)
      (λ left. absurd (by_end (end_after owners [] past ranked) refl (rw (end-append owners [] past (deed ∷ later) ranked, left) at ended)))
    where
      by_end : (first : Option ℕ) → end_after owners [] past ranked ≡ first
          → option_or first (end_after owners (past ++ deed ∷ []) later ranked) ≡ Some (place_of deed) → ⊥
      by_end None is ended' =
          let less = end-revoked (λ p. place_of deed < p) (past ++ deed ∷ []) later ranked (place_of deed) above ended' in omega arith
      by_end (Some end) is ended' =
          let less = end-revoked (λ p. p < place_of deed) [] past ranked end below is in
          let same : end ≡ place_of deed = cc in
          omega arith

  -- the beginning of a proper list is proper
  pub proper-front : (start first later : List Deed) → IsProperAfter owners start (first ++ later) → IsProperAfter owners start first
  proper-front start [] later proper = tt
  proper-front start (deed ∷ first) later proper = (proper.0, proper-front (start ++ deed ∷ []) first later proper.1)

  -- so the end of a grant is the place of the deed that takes it out of force
  pub end-exactly : (past : List Deed) (deed : Deed) (later : List Deed) (ranked : ℕ) → IsProper owners (past ++ deed ∷ later)
      → (end_after owners [] (past ++ deed ∷ later) ranked ≡ Some (place_of deed))
      ↔ ((is_among ranked (kept owners past) ≡ true) × (is_among ranked (kept owners (past ++ deed ∷ [])) ≡ false))
  end-exactly past deed later ranked proper =
      let rest : IsProperAfter owners past (deed ∷ later) = proper-later owners [] past (deed ∷ later) proper in
      let before = is_among ranked (kept owners past) in
      let after = is_among ranked (kept owners (past ++ deed ∷ [])) in (
        λ ended.
            let parts =
            and_parts before (not after)
            (end-only past deed later ranked (revocations-below owners past deed rest.0)
            (revocations-above owners (past ++ deed ∷ []) later deed (Contains-push past deed) rest.1) ended) in
            (parts.0, not-true after parts.1),
        λ parts. end-at past deed later ranked (proper-front [] past (deed ∷ later) proper) (and_from before (not after) parts.0 (not_from_false after parts.1)),
      )

  -- a deed that ends the only grant of a place is a revocation that speaks of its kind on its table
  ended-revocation : (past : List Deed) (deed : Deed) (grant : Grant) → All (λ x. rank x ≡ rank grant → x ≡ grant) (kept owners past)
      → is_ended owners past deed (rank grant) ≡ true
      → (revocation : Revocation) × (deed ≡ Revoking revocation) × (concerns revocation grant ≡ true)
  ended-revocation past (Granting other) grant alone ends =
      let parts = and_parts (is_among (rank grant) (kept owners past)) _ ends in
      let after = is_among (rank grant) (kept owners (past ++ Granting other ∷ [])) in
      contrary after (among-kept_grant owners past other (rank grant) parts.0) (not-true after parts.1)
  ended-revocation past (Revoking revocation) grant alone ends =
      let parts = and_parts (is_among (rank grant) (kept owners past)) _ ends in
      let after = is_among (rank grant) (kept owners (past ++ Revoking revocation ∷ [])) in
      by_cases (concerns revocation grant)
      (λ concerned. (revocation, refl, concerned))
      (λ other. contrary after (left (kept owners past) alone parts.0 (kept-stays_other owners revocation past) other) (not-true after parts.1))
    where
      left : (grants : List Grant) → All (λ x. rank x ≡ rank grant → x ≡ grant) grants → is_among (rank grant) grants ≡ true
          → All (λ x. concerns revocation x ≡ false → is_among (rank x) (kept owners (past ++ Revoking revocation ∷ [])) ≡ true) grants
          → concerns revocation grant ≡ false → is_among (rank grant) (kept owners (past ++ Revoking revocation ∷ [])) ≡ true
      left grants alone found stays other =
          let after = kept owners (past ++ Revoking revocation ∷ []) in
          let Alone : Grant → Type 0 = λ x. rank x ≡ rank grant → x ≡ grant in
          let Stays : Grant → Type 0 = λ x. concerns revocation x ≡ false → is_among (rank x) after ≡ true in
          let Found : ℕ → Type 0 = λ ranked. ranked ≡ rank grant → is_among (rank grant) after ≡ true in
          among_all Found grants (rank grant)
          (All-weaker (λ x. Alone x × Stays x) (λ x. Found (rank x))
          (λ x both same.
          let is : x ≡ grant = both.0 same in
          let there : is_among (rank x) after ≡ true = both.1 (rw is other) in
          rw same at there)
          grants (All-both Alone Stays grants alone stays)) found refl

  -- the only grant of a place is the only one in force
  alone-kept : (past later : List Deed) (grant : Grant) → All (λ x. rank x ≡ rank grant → x ≡ grant) (grants_of (past ++ later))
      → All (λ x. rank x ≡ rank grant → x ≡ grant) (kept owners past)
  alone-kept past later grant alone =
      let Alone : Grant → Type 0 = λ x. rank x ≡ rank grant → x ≡ grant in
      let whole : All Alone (grants_of past ++ grants_of later) = rw (← grants-append past later) alone in
      part-all Alone (part-part (part-kept_grants owners past) (part-beginning (grants_of past) (grants_of later))) whole

  -- the revocation that ended the only grant of a place: one of the later deeds, which speaks of the grant's kind on its table
  abbrev pub IsEndedBy : List Deed → Grant → ℕ → Type 0
  IsEndedBy deeds grant end =
      (revocation : Revocation) × Contains deeds (Revoking revocation) × (end ≡ revocation.place) × (concerns revocation grant ≡ true)

  -- an end is set by a revocation that speaks of the kind on the table
  end-revocation : (past later : List Deed) (grant : Grant) (end : ℕ) → All (λ x. rank x ≡ rank grant → x ≡ grant) (grants_of (past ++ later))
      → end_after owners past later (rank grant) ≡ Some end → IsEndedBy later grant end
  end-revocation past [] grant end alone is = absurd (cc)
  end-revocation past (deed ∷ later) grant end alone is =
      by_cases (is_ended owners past deed (rank grant))
      (λ ends.
      let here : Some (place_of deed) ≡ Some end = rw ends at is in
      let by = ended-revocation past deed grant (alone-kept past (deed ∷ later) grant alone) ends in
      let first : Contains (deed ∷ later) deed = Contains-append_left (deed ∷ []) later deed (Contains-push [] deed) in
      let same : deed ≡ Revoking by.0 = by.1 in
      let at : place_of deed ≡ by.0.place = ap place_of same in
      let ended : place_of deed ≡ end = cc in
      (by.0, subst (Contains (deed ∷ later)) same first, sym ended ∙ at, by.2))
      (λ left.
      let rest = end-revocation (past ++ deed ∷ []) later grant end (rw append_assoc alone) (rw left at is) in
      (rest.0, Contains-append_right (deed ∷ []) later (Revoking rest.0) rest.1, rest.2, rest.3))

  -- an end lies above its record's place
  pub records-end_above : (deeds : List Deed) → IsProper owners deeds
      → All (λ entry. (end : ℕ) → entry.end ≡ Some end → entry.grant.place < end) (records owners deeds)
  records-end_above deeds proper =
      All-map (λ entry. (end : ℕ) → entry.end ≡ Some end → entry.grant.place < end) (record_of owners deeds) (grants_of deeds)
      (All-weaker (Contains (grants_of deeds)) (λ grant. (end : ℕ) → end_after owners [] deeds (rank grant) ≡ Some end → grant.place < end)
      (λ grant here end is. place-below grant end (end-above [] deeds (rank grant) end proper is)) (grants_of deeds) (All-contains_itself (grants_of deeds)))

  -- and is the place of a revocation that speaks of its kind on its table
  pub records-end_revocation : (deeds : List Deed) → IsProper owners deeds
      → All (λ entry. (end : ℕ) → entry.end ≡ Some end → IsEndedBy deeds entry.grant end) (records owners deeds)
  records-end_revocation deeds proper =
      All-map (λ entry. (end : ℕ) → entry.end ≡ Some end → IsEndedBy deeds entry.grant end) (record_of owners deeds) (grants_of deeds)
      (All-weaker (λ grant. All (λ x. rank x ≡ rank grant → x ≡ grant) (grants_of deeds))
      (λ grant. (end : ℕ) → end_after owners [] deeds (rank grant) ≡ Some end → IsEndedBy deeds grant end)
      (λ grant alone end is. end-revocation [] deeds grant end alone is) (grants_of deeds) (rising-unique (grants_of deeds) (rising-grants owners deeds proper)))
