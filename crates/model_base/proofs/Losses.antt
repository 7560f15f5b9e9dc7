-- Each grant was authorised when it was made, and the cause of a denial is the last loss, by the records.
use Rattle.std.proofs.Common.{◌≡◌, ℕ, zero, suc, ◌<◌, ◌≤◌, ◌&&◌, not, Bool, true, false, List, [], ◌∷◌, ◌++◌, refl, sym, ◌∙◌, ap, append_assoc, arith, inl, inr, subst, Option, Some}
use Rattle.std.specs.Prelude.{All, nat_lt, if◌then◌else◌}
use Rattle.std.specs.Option.{option_map_or}
use Rattle.std.proofs.lemmas.List.{append-nil}
use Rattle.std.proofs.lemmas.List.Elements.{All-nil, All-cons, All-head, All-map, All-tail, All-weaker, Contains-push, filter-append}
use Rattle.model_base.specs.declared.deed.Grant.{Grant}
use Rattle.model_base.specs.declared.deed.Need.{Need}
use Rattle.model_base.specs.declared.deed.Cause.{Cause}
use Rattle.model_base.specs.declared.deed.Cause.TheVariants.{Never, Taken}
use Rattle.model_base.specs.declared.deed.Deed.{Deed}
use Rattle.model_base.specs.declared.deed.Deed.TheVariants.{Granting, Revoking}
use Rattle.model_base.specs.Privileges.{deeds_below, holds, option_of, place_of, IsProper, IsProperAfter}
use Rattle.model_base.specs.Outcomes.{cause, cause_after}
use Rattle.model_base.specs.Laws.{AreGrantsOrRevocation, GrowsAt, IsGranting}
use Rattle.model_base.specs.Records.{grants_of, record_of, records, cut, holds_by, last_loss_by}
use Rattle.model_base.proofs.Replay.{by_cases}
use Rattle.model_base.proofs.Places.{proper-above}
use Rattle.model_base.proofs.Causes.{holds-granting, takes}
use Rattle.model_base.proofs.Records.{holds_by-records}
use Rattle.model_base.proofs.Cuts.{deeds_below-whole, deeds_below-none, deeds_below-proper, records-below, deeds_below-grows}

module _ (owners : List ℕ) where
  -- by the records as they were at a place, a user holds what the deeds below it give
  pub holds_by-cut : (deeds : List Deed) (place user : ℕ) (need : Need) → IsProper owners deeds
      → holds_by owners (cut place (records owners deeds)) user need ≡ holds owners (deeds_below place deeds) user need
  holds_by-cut deeds place user need proper =
      ap (λ entries. holds_by owners entries user need) (sym (records-below owners place deeds proper))
      ∙ holds_by-records owners (deeds_below place deeds) user need (deeds_below-proper owners place deeds proper)

  -- the grantor held the option by those of the deeds that lie below the grant
  abbrev held_when_made : List Deed → Grant → Type 0
  held_when_made deeds grant = holds owners (deeds_below grant.place deeds) grant.grantor (option_of grant) ≡ true

  -- the grantor of each of the later grants did
  authorised-after : (start deeds : List Deed) → IsProperAfter owners start deeds → All (held_when_made (start ++ deeds)) (grants_of deeds)
  authorised-after start [] proper = All-nil (held_when_made (start ++ []))
  authorised-after start (Granting grant ∷ deeds) proper =
      let first : List Deed = Granting grant ∷ [] in
      let above = proper-above owners (start ++ first) deeds (Granting grant) (Contains-push start (Granting grant)) proper.1 in
      let none : deeds_below grant.place (Granting grant ∷ deeds) ≡ [] =
      deeds_below-none grant.place (Granting grant ∷ deeds)
      (All-cons (λ deed. grant.place ≤ place_of deed) (Granting grant) deeds (omega arith) above) in
      let low : deeds_below grant.place (start ++ Granting grant ∷ deeds) ≡ deeds_below grant.place start =
      filter-append (λ deed. nat_lt (place_of deed) grant.place) start (Granting grant ∷ deeds)
      ∙ ap (λ r. deeds_below grant.place start ++ r) none
      ∙ append-nil (deeds_below grant.place start) in
      let here : held_when_made (start ++ Granting grant ∷ deeds) grant = ap (λ ds. holds owners ds grant.grantor (option_of grant)) low ∙ proper.0.1 in
      let rest : All (held_when_made (start ++ Granting grant ∷ deeds)) (grants_of deeds) =
      subst (λ (ds : List Deed). All (held_when_made ds) (grants_of deeds)) (append_assoc start first deeds) (authorised-after (start ++ first) deeds proper.1) in
      All-cons (held_when_made (start ++ Granting grant ∷ deeds)) grant (grants_of deeds) here rest
  authorised-after start (Revoking revocation ∷ deeds) proper =
      let first : List Deed = Revoking revocation ∷ [] in
      subst (λ (ds : List Deed). All (held_when_made ds) (grants_of deeds)) (append_assoc start first deeds) (authorised-after (start ++ first) deeds proper.1)

  -- each record was authorised when it was made, by the deeds below its place
  pub records-authorised : (deeds : List Deed) → IsProper owners deeds
      → All (λ entry. holds owners (deeds_below entry.grant.place deeds) entry.grant.grantor (option_of entry.grant) ≡ true) (records owners deeds)
  records-authorised deeds proper =
      All-map (λ entry. held_when_made deeds entry.grant) (record_of owners deeds) (grants_of deeds) (authorised-after [] deeds proper)

  -- and by the records as they were there
  pub records-authorised_by : (deeds : List Deed) → IsProper owners deeds
      → All (λ entry. holds_by owners (cut entry.grant.place (records owners deeds)) entry.grant.grantor (option_of entry.grant) ≡ true) (records owners deeds)
  records-authorised_by deeds proper =
      All-weaker (λ entry. held_when_made deeds entry.grant)
      (λ entry. holds_by owners (cut entry.grant.place (records owners deeds)) entry.grant.grantor (option_of entry.grant) ≡ true)
      (λ entry held. holds_by-cut deeds entry.grant.place entry.grant.grantor (option_of entry.grant) proper ∙ held) (records owners deeds)
      (records-authorised deeds proper)

module _ (owners : List ℕ) (user : ℕ) (need : Need) where
  -- of more deeds the last decides first
  cause_after-snoc : (past later : List Deed) (deed : Deed) (found : Cause)
      → cause_after owners user need past (later ++ deed ∷ []) found
      ≡ (if takes owners user need (past ++ later) deed then Taken (place_of deed) else cause_after owners user need past later found)
  cause_after-snoc past [] deed found = rw append-nil refl
  cause_after-snoc past (first ∷ later) deed found =
      rw (append_assoc past (first ∷ []) later) at
      (cause_after-snoc (past ++ first ∷ []) later deed (if takes owners user need past first then Taken (place_of first) else found))

  -- the cause after one more deed is its place, if it takes the need away
  pub cause-snoc : (deeds : List Deed) (deed : Deed)
      → cause owners (deeds ++ deed ∷ []) user need
      ≡ (if takes owners user need deeds deed then Taken (place_of deed) else cause owners deeds user need)
  cause-snoc deeds deed = cause_after-snoc [] deeds deed Never

  -- a grant takes nothing away
  takes-none : (deeds : List Deed) (grant : Grant) → takes owners user need deeds (Granting grant) ≡ false
  takes-none deeds grant =
      by_cases (holds owners deeds user need)
      (λ held. rw (held, holds-granting owners deeds grant user need held) refl)
      (λ missing. rw missing refl)

  -- so the cause after grants is that before them
  cause-grants : (before made : List Deed) → All IsGranting made → cause owners (before ++ made) user need ≡ cause owners before user need
  cause-grants before [] all = ap (λ (ds : List Deed). cause owners ds user need) (append-nil before)
  cause-grants before (Granting grant ∷ made) all =
      let first : List Deed = Granting grant ∷ [] in
      ap (λ (ds : List Deed). cause owners ds user need) (sym (append_assoc before first made))
      ∙ cause-grants (before ++ first) made (All-tail IsGranting (Granting grant) made all)
      ∙ cause-snoc before (Granting grant)
      ∙ ap (λ (b : Bool). if b then Taken grant.place else cause owners before user need) (takes-none before grant)
  cause-grants before (Revoking revocation ∷ made) all = absurd (All-head IsGranting (Revoking revocation) made all)

  -- and what is held stays held
  held-grants : (before made : List Deed) → All IsGranting made → holds owners before user need ≡ true → holds owners (before ++ made) user need ≡ true
  held-grants before [] all held = rw append-nil held
  held-grants before (Granting grant ∷ made) all held =
      let first : List Deed = Granting grant ∷ [] in
      subst (λ (ds : List Deed). holds owners ds user need ≡ true) (append_assoc before first made)
      (held-grants (before ++ first) made (All-tail IsGranting (Granting grant) made all) (holds-granting owners before grant user need held))
  held-grants before (Revoking revocation ∷ made) all held = absurd (All-head IsGranting (Revoking revocation) made all)

  -- the cause after what a place makes is this place, if the need was lost there
  loss-made : (before made : List Deed) (place : ℕ) (found : Option ℕ) → All (λ deed. place_of deed ≡ place) made → AreGrantsOrRevocation made
      → cause owners before user need ≡ option_map_or Taken found Never
      → cause owners (before ++ made) user need
      ≡ option_map_or Taken (if holds owners before user need && not (holds owners (before ++ made) user need) then Some place else found) Never
  loss-made before made place found here (inl grants) is =
      cause-grants before made grants
      ∙ by_cases (holds owners before user need)
      (λ held. rw (held, held-grants before made grants held) is)
      (λ missing. rw missing is)
  loss-made before made place found here (inr one) is =
      let deed : Deed = Revoking one.0 in
      let at : one.0.place ≡ place = All-head (λ d. place_of d ≡ place) deed [] (subst (All (λ d. place_of d ≡ place)) one.1 here) in
      rw one.1 (cause-snoc before deed
      ∙ by_cases (takes owners user need before deed)
      (λ took. rw took (ap Taken at))
      (λ left. rw left is))

  loss-step : (before after : List Deed) (place : ℕ) (found : Option ℕ) → GrowsAt place before after
      → cause owners before user need ≡ option_map_or Taken found Never
      → cause owners after user need
      ≡ option_map_or Taken (if holds owners before user need && not (holds owners after user need) then Some place else found) Never
  loss-step before after place found grown is = rw grown.1 (loss-made before grown.0 place found grown.2 grown.3 is)

  -- the cause by the deeds below a place is the last loss below it, by the records of all
  pub cause-records : (deeds : List Deed) (place : ℕ) → IsProper owners deeds
      → cause owners (deeds_below place deeds) user need ≡ option_map_or Taken (last_loss_by owners (records owners deeds) user need place) Never
  cause-records deeds zero proper = ap (λ ds. cause owners ds user need) (deeds_below-none 0 deeds (λ k d less. omega arith))
  cause-records deeds (suc place) proper =
      rw (holds_by-cut owners deeds place user need proper, holds_by-cut owners deeds (suc place) user need proper)
      (loss-step (deeds_below place deeds) (deeds_below (suc place) deeds) place (last_loss_by owners (records owners deeds) user need place)
      (deeds_below-grows owners place [] deeds proper) (cause-records deeds place proper))

  -- so from any place above all deeds
  pub cause-records_whole : (deeds : List Deed) (place : ℕ) → IsProper owners deeds → All (λ deed. place_of deed < place) deeds
      → cause owners deeds user need ≡ option_map_or Taken (last_loss_by owners (records owners deeds) user need place) Never
  cause-records_whole deeds place proper below =
      ap (λ ds. cause owners ds user need) (sym (deeds_below-whole place deeds below)) ∙ cause-records deeds place proper
