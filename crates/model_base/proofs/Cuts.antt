-- The records of a beginning of the deeds are those of the whole, as they were where the beginning ends.
use Rattle.std.proofs.Common.{◌≡◌, ℕ, suc, ◌<◌, ◌≤◌, true, List, [], ◌∷◌, ◌++◌, map, refl, sym, ◌∙◌, ap, arith, inl, inr, subst, Option, Some, None}
use Rattle.std.specs.Prelude.{All, nat_lt}
use Rattle.std.specs.Option.{option_or}
use Rattle.std.proofs.lemmas.Bool.{lt-ltb, le-ltb, ltb-true, cases_lt}
use Rattle.std.proofs.lemmas.List.{map-append, append-nil}
use Rattle.std.proofs.lemmas.List.Elements.{All-nil, All-cons, All-filter, All-head, All-tail, All-weaker, Contains-push, filter_passes}
use Rattle.model_base.specs.declared.deed.Record.{Record}
use Rattle.model_base.specs.declared.deed.Revocation.{Revocation}
use Rattle.model_base.specs.declared.deed.Deed.{Deed}
use Rattle.model_base.specs.declared.deed.Deed.TheVariants.{Granting, Revoking}
use Rattle.model_base.specs.Ranks.{deed_number, rank, rank_of}
use Rattle.model_base.specs.RecordNames.{few_kinds, few_positions}
use Rattle.model_base.specs.Privileges.{deeds_below, place_of, IsProper, IsProperAfter}
use Rattle.model_base.specs.Laws.{AreGrantsOrRevocation, GrowsAt, IsGranting}
use Rattle.model_base.specs.Records.{grants_of, end_after, end_below, record_of, records, cut}
use Rattle.model_base.proofs.Replay.{by_cases}
use Rattle.model_base.proofs.Places.{AtRevocation, number-above, proper-above, revocations-above}
use Rattle.model_base.proofs.Records.{grants-append, end-append}
use Rattle.model_base.proofs.Recorded.{All-both}
use Rattle.model_base.proofs.Ends.{end-within, proper-front}

module _ (owners : List ℕ) (place : ℕ) (past later : List Deed) (before : All (λ deed. place_of deed < place) past) (after : All (λ deed. place ≤ place_of deed) later) where
  -- of the end by all deeds the beginning's is left
  end-cut : (made : ℕ) → end_below place (end_after owners [] (past ++ later) made) ≡ end_after owners [] past made
  end-cut made = rw (end-append owners [] past later made) (by_end (end_after owners [] past made) (end_after owners past later made) refl refl)
    where
      by_end : (first last : Option ℕ) → end_after owners [] past made ≡ first → end_after owners past later made ≡ last
          → end_below place (option_or first last) ≡ first
      by_end (Some end) last is was = rw (lt-ltb end place (end-within owners (λ p. p < place) [] past made end before is)) refl
      by_end None None is was = refl
      by_end None (Some end) is was = rw (le-ltb end place (end-within owners (λ p. place ≤ p) past later made end after was)) refl

  -- the records of grants below the place stay, with the ends by the beginning
  cut-low : (deeds : List Deed) → All (λ deed. place_of deed < place) deeds
      → cut place (map (record_of owners (past ++ later)) (grants_of deeds)) ≡ map (record_of owners past) (grants_of deeds)
  cut-low [] all = refl
  cut-low (Granting grant ∷ deeds) all =
      let rest = cut-low deeds (All-tail (λ deed. place_of deed < place) (Granting grant) deeds all) in
      rw (lt-ltb grant.place place (All-head (λ deed. place_of deed < place) (Granting grant) deeds all), end-cut (rank grant), rest) refl
  cut-low (Revoking revocation ∷ deeds) all = cut-low deeds (All-tail (λ deed. place_of deed < place) (Revoking revocation) deeds all)

  -- those of the others fall away
  cut-high : (deeds : List Deed) → All (λ deed. place ≤ place_of deed) deeds
      → cut place (map (record_of owners (past ++ later)) (grants_of deeds)) ≡ []
  cut-high [] all = refl
  cut-high (Granting grant ∷ deeds) all =
      rw (le-ltb grant.place place (All-head (λ deed. place ≤ place_of deed) (Granting grant) deeds all))
      (cut-high deeds (All-tail (λ deed. place ≤ place_of deed) (Granting grant) deeds all))
  cut-high (Revoking revocation ∷ deeds) all = cut-high deeds (All-tail (λ deed. place ≤ place_of deed) (Revoking revocation) deeds all)

  -- two lists of records are cut each by itself
  cut-append : (first last : List Record) → cut place (first ++ last) ≡ cut place first ++ cut place last
  cut-append [] last = refl
  cut-append (entry ∷ first) last =
      by_cases (nat_lt entry.grant.place place) (λ less. rw (less, cut-append first last) refl) (λ more. rw (more, cut-append first last) refl)

  -- the records of the deeds below a place are those of all, cut at the place
  pub records-cut : cut place (records owners (past ++ later)) ≡ records owners past
  records-cut =
      let whole = record_of owners (past ++ later) in
      rw (grants-append past later, map-append whole (grants_of past) (grants_of later), cut-append (map whole (grants_of past)) (map whole (grants_of later)), cut-low past before, cut-high later after)
      (append-nil (map (record_of owners past) (grants_of past)))

-- each of the deeds below a place is
pub deeds_below-all : (place : ℕ) (deeds : List Deed) → All (λ deed. place_of deed < place) (deeds_below place deeds)
deeds_below-all place deeds =
    All-weaker (λ deed. nat_lt (place_of deed) place ≡ true) (λ deed. place_of deed < place) (λ deed test. ltb-true (place_of deed) place test)
    (deeds_below place deeds) (filter_passes (λ deed. nat_lt (place_of deed) place) deeds)

-- of deeds with lower places all are below
pub deeds_below-whole : (place : ℕ) (deeds : List Deed) → All (λ deed. place_of deed < place) deeds → deeds_below place deeds ≡ deeds
deeds_below-whole place [] all = refl
deeds_below-whole place (deed ∷ deeds) all =
    rw (lt-ltb (place_of deed) place (All-head (λ deed. place_of deed < place) deed deeds all))
    (ap (λ r. deed ∷ r) (deeds_below-whole place deeds (All-tail (λ deed. place_of deed < place) deed deeds all)))

-- and of deeds with other places none
pub deeds_below-none : (place : ℕ) (deeds : List Deed) → All (λ deed. place ≤ place_of deed) deeds → deeds_below place deeds ≡ []
deeds_below-none place [] all = refl
deeds_below-none place (deed ∷ deeds) all =
    rw (le-ltb (place_of deed) place (All-head (λ deed. place ≤ place_of deed) deed deeds all))
    (deeds_below-none place deeds (All-tail (λ deed. place ≤ place_of deed) deed deeds all))

-- what isn't below a place, nor above it, is at it
between : (at place : ℕ) → place ≤ at → at < suc place → at ≡ place
between at place more less = omega arith

-- a deed of a place, which would be later if it were a revocation, is a grant
none_late : (deed : Deed) (place : ℕ) → AtRevocation (λ at. place < at) deed → place_of deed ≡ place → IsGranting deed
none_late (Granting grant) place late at = tt
none_late (Revoking revocation) place late at = absurd (omega arith)

-- no deed of a revocation's place has a greater number
none_after : (revocation : Revocation) (next : Deed) → deed_number (Revoking revocation) < deed_number next → place_of next ≡ revocation.place → ⊥
unfolding rank_of
none_after revocation (Granting grant) less at =
    let kinds = few_kinds grant.kind in let positions = few_positions grant.position in omega arith
none_after revocation (Revoking other) less at = omega arith

module _ (owners : List ℕ) where
  -- the deeds of a proper list are those below a place, and then the others
  pub deeds_below-split : (place : ℕ) (start deeds : List Deed) → IsProperAfter owners start deeds
      → (later : List Deed) × (deeds ≡ deeds_below place deeds ++ later) × All (λ deed. place ≤ place_of deed) later
  deeds_below-split place start [] proper = ([], refl, All-nil (λ deed. place ≤ place_of deed))
  deeds_below-split place start (deed ∷ deeds) proper =
      let next = start ++ deed ∷ [] in
      elim (cases_lt (place_of deed) place) [
        | inl less ↦
            let split = deeds_below-split place next deeds proper.1 in
            (split.0, rw (lt-ltb (place_of deed) place less) (ap (λ r. deed ∷ r) split.1), split.2)
        | inr more ↦
            let above =
            All-weaker (λ d. place_of deed ≤ place_of d) (λ d. place ≤ place_of d) (λ d less. omega arith) deeds
            (proper-above owners next deeds deed (Contains-push start deed) proper.1) in
            (deed ∷ deeds, rw (le-ltb (place_of deed) place more, deeds_below-none place deeds above) refl, All-cons (λ d. place ≤ place_of d) deed deeds more above)
      ]

  -- the deeds below a place are proper
  pub deeds_below-proper : (place : ℕ) (deeds : List Deed) → IsProper owners deeds → IsProper owners (deeds_below place deeds)
  deeds_below-proper place deeds proper =
      let split = deeds_below-split place [] deeds proper in
      proper-front owners [] (deeds_below place deeds) split.0 (rw split.1 at proper)

  -- so their records are those of all, cut at the place
  pub records-below : (place : ℕ) (deeds : List Deed) → IsProper owners deeds → records owners (deeds_below place deeds) ≡ cut place (records owners deeds)
  records-below place deeds proper =
      let split = deeds_below-split place [] deeds proper in
      sym (ap (λ (ds : List Deed). cut place (records owners ds)) split.1
      ∙ records-cut owners place (deeds_below place deeds) split.0 (deeds_below-all place deeds) split.2)

  -- deeds of one place that may follow are grants, or one revocation
  one_place : (place : ℕ) (start deeds : List Deed) → IsProperAfter owners start deeds → All (λ deed. place_of deed ≡ place) deeds → AreGrantsOrRevocation deeds
  one_place place start [] proper here = inl (All-nil IsGranting)
  one_place place start (Granting grant ∷ deeds) proper here =
      let At : Deed → Type 0 = λ deed. place_of deed ≡ place in
      let Late : Deed → Type 0 = AtRevocation (λ at. grant.place < at) in
      let at : grant.place ≡ place = All-head At (Granting grant) deeds here in
      let late = revocations-above owners (start ++ Granting grant ∷ []) deeds (Granting grant) (Contains-push start (Granting grant)) proper.1 in
      inl (All-cons IsGranting (Granting grant) deeds tt
      (All-weaker (λ deed. Late deed × At deed) IsGranting (λ deed both. none_late deed grant.place both.0 (both.1 ∙ sym at)) deeds
      (All-both Late At deeds late (All-tail At (Granting grant) deeds here))))
  one_place place start (Revoking revocation ∷ []) proper here = inr (revocation, refl)
  one_place place start (Revoking revocation ∷ next ∷ deeds) proper here =
      let At : Deed → Type 0 = λ deed. place_of deed ≡ place in
      let at : revocation.place ≡ place = All-head At (Revoking revocation) (next ∷ deeds) here in
      let at_next : place_of next ≡ place = All-head At next deeds (All-tail At (Revoking revocation) (next ∷ deeds) here) in
      let less = All-head (λ deed. deed_number (Revoking revocation) < deed_number deed) next deeds
      (number-above owners (start ++ Revoking revocation ∷ []) (next ∷ deeds) (Revoking revocation) (Contains-push start (Revoking revocation)) proper.1) in
      absurd (none_after revocation next less (at_next ∙ sym at))

  -- at the next place they grow by what this one makes
  pub deeds_below-grows : (place : ℕ) (start deeds : List Deed) → IsProperAfter owners start deeds
      → GrowsAt place (deeds_below place deeds) (deeds_below (suc place) deeds)
  deeds_below-grows place start [] proper = ([], refl, All-nil (λ deed. place_of deed ≡ place), inl (All-nil IsGranting))
  deeds_below-grows place start (deed ∷ deeds) proper =
      elim (cases_lt (place_of deed) place) [
        | inl less ↦
            let rest = deeds_below-grows place (start ++ deed ∷ []) deeds proper.1 in
            (rest.0, rw (lt-ltb (place_of deed) place less, lt-ltb (place_of deed) (suc place) (omega arith)) (ap (λ r. deed ∷ r) rest.1), rest.2, rest.3)
        | inr more ↦ from_here more
      ]
    where
      from_here : place ≤ place_of deed → GrowsAt place (deeds_below place (deed ∷ deeds)) (deeds_below (suc place) (deed ∷ deeds))
      from_here more =
          let made : List Deed = deeds_below (suc place) (deed ∷ deeds) in
          let Above : Deed → Type 0 = λ d. place ≤ place_of d in
          let Below : Deed → Type 0 = λ d. place_of d < suc place in
          let above : All Above (deed ∷ deeds) =
          All-cons Above deed deeds more
          (All-weaker (λ d. place_of deed ≤ place_of d) Above (λ d less. omega arith) deeds
          (proper-above owners (start ++ deed ∷ []) deeds deed (Contains-push start deed) proper.1)) in
          let here : All (λ d. place_of d ≡ place) made =
          All-weaker (λ d. Above d × Below d) (λ d. place_of d ≡ place) (λ d both. between (place_of d) place both.0 both.1) made
          (All-both Above Below made (All-filter (λ d. nat_lt (place_of d) (suc place)) Above (deed ∷ deeds) above) (deeds_below-all (suc place) (deed ∷ deeds))) in
          let split = deeds_below-split (suc place) start (deed ∷ deeds) proper in
          let front = proper-front owners start made split.0 (subst (IsProperAfter owners start) split.1 proper) in
          (made, ap (λ none. none ++ made) (sym (deeds_below-none place (deed ∷ deeds) above)), here, one_place place start made front here)
