-- What is held stays held until a revocation, and the cause of a denial is the last loss.
use Rattle.std.proofs.Common.{◌≡◌, ◌↔◌, ℕ, zero, suc, ◌<◌, ◌&&◌, not, Bool, true, false, List, [], ◌∷◌, ◌++◌, Some, refl, sym, ◌∙◌, ap, append_assoc, arith, ◌⊎◌, inl, inr}
use Rattle.std.specs.Prelude.{Contains, slice_get, take, if◌then◌else◌}
use Rattle.std.proofs.Math.Seq.{take-nil}
use Rattle.std.proofs.lemmas.Bool.{or_left, true≢false, cases_order}
use Rattle.std.proofs.lemmas.List.{append-nil}
use Rattle.std.proofs.lemmas.List.Elements.{Contains-push, Contains-append_left, Contains-append_right}
use Rattle.model_base.specs.declared.deed.Grant.{Grant}
use Rattle.model_base.specs.declared.deed.Revocation.{Revocation}
use Rattle.model_base.specs.declared.deed.Need.{Need}
use Rattle.model_base.specs.declared.deed.Cause.{Cause}
use Rattle.model_base.specs.declared.deed.Cause.TheVariants.{Never, Taken}
use Rattle.model_base.specs.declared.deed.Deed.{Deed}
use Rattle.model_base.specs.declared.deed.Deed.TheVariants.{Granting, Revoking}
use Rattle.model_base.specs.Privileges.{gives, has, option_of, kept, holds, place_of}
use Rattle.model_base.specs.Outcomes.{cause, cause_after}
use Rattle.model_base.specs.Laws.{IsLastLoss}
use Rattle.model_base.proofs.Replay.{by_cases, has-snoc, kept-grant, kept-refused}

module _ (owners : List ℕ) where
  -- a grant joins the grants in force if its grantor has the option, and changes nothing else
  pub kept-granting : (deeds : List Deed) (grant : Grant)
      → kept owners (deeds ++ Granting grant ∷ []) ≡ kept owners deeds ++ (if holds owners deeds grant.grantor (option_of grant) then grant ∷ [] else [])
  kept-granting deeds grant =
      by_cases (has owners (kept owners deeds) grant.grantor (option_of grant))
      (λ held. rw held (kept-grant owners deeds grant held))
      (λ missing. rw (missing, append-nil (kept owners deeds)) (kept-refused owners deeds grant missing))

  -- so what is held stays held
  pub holds-granting : (deeds : List Deed) (grant : Grant) (user : ℕ) (need : Need)
      → holds owners deeds user need ≡ true → holds owners (deeds ++ Granting grant ∷ []) user need ≡ true
  holds-granting deeds grant user need held =
      by_cases (has owners (kept owners deeds) grant.grantor (option_of grant))
      (λ stands. rw (kept-grant owners deeds grant stands, has-snoc owners (kept owners deeds) grant user need)
      (or_left (has owners (kept owners deeds) user need) (gives grant user need) held))
      (λ missing. rw (kept-refused owners deeds grant missing) held)

module _ (owners : List ℕ) (user : ℕ) (need : Need) where
  -- whether the deed takes the need away
  abbrev pub takes : List Deed → Deed → Bool
  takes past deed = holds owners past user need && not (holds owners (past ++ deed ∷ []) user need)

  abbrev pub IsTakenBy : List Deed → ℕ → Type 0
  IsTakenBy deeds place = (revocation : Revocation) × Contains deeds (Revoking revocation) × (place ≡ revocation.place)

  -- only a revocation takes a need away
  taken_here : (past later : List Deed) (deed : Deed) (place : ℕ) → takes past deed ≡ true → place_of deed ≡ place → IsTakenBy (deed ∷ later) place
  taken_here past later (Granting grant) place took at =
      by_cases (holds owners past user need)
      (λ held. let still = holds-granting owners past grant user need held in absurd (true≢false (sym (rw (held, still) at took))))
      (λ missing. absurd (true≢false (sym (rw missing at took))))
  taken_here past later (Revoking revocation) place took at =
      (revocation, Contains-append_left (Revoking revocation ∷ []) later (Revoking revocation) (Contains-push [] (Revoking revocation)), sym at)

  taken_by : (past later : List Deed) (found : Cause) (place : ℕ) → cause_after owners user need past later found ≡ Taken place
      → (found ≡ Taken place) ⊎ IsTakenBy later place
  taken_by past [] found place was = inl was
  taken_by past (deed ∷ later) found place was =
      elim (taken_by (past ++ deed ∷ []) later (if takes past deed then Taken (place_of deed) else found) place was) [
        | inl here ↦ by_cases (takes past deed)
            (λ took. let same : Taken (place_of deed) ≡ Taken place = rw took at here in inr (taken_here past later deed place took (cc)))
            (λ left. inl (rw left at here))
        | inr there ↦ inr (there.0, Contains-append_right (deed ∷ []) later (Revoking there.0) there.1, there.2)
      ]

  -- the cause of a denial names the place of a revocation
  pub cause-revocation : (deeds : List Deed) (place : ℕ) → cause owners deeds user need ≡ Taken place → IsTakenBy deeds place
  cause-revocation deeds place was =
      elim (taken_by [] deeds Never place was) [ inl never ↦ absurd (cc) | inr there ↦ there ]

  -- the need isn't held after the past, nor later
  record IsNeverHeld (past later : List Deed) : Type 0 where
    same : (found : Cause) → cause_after owners user need past later found ≡ found
    missing : (n : ℕ) → holds owners (past ++ take n later) user need ≡ false

  -- one of the later deeds takes it away last
  record IsLostLater (past later : List Deed) : Type 0 where
    index : ℕ
    deed : Deed
    there : slice_get later index ≡ Some deed
    before : holds owners (past ++ take index later) user need ≡ true
    after : (n : ℕ) → index < n → holds owners (past ++ take n later) user need ≡ false
    taken : (found : Cause) → cause_after owners user need past later found ≡ Taken (place_of deed)

  -- the deed takes the need away, which is never held again
  lost_here : (past later : List Deed) (deed : Deed) → holds owners past user need ≡ true → IsNeverHeld (past ++ deed ∷ []) later
      → IsLostLater past (deed ∷ later)
  lost_here past later deed held never = record {
    index = 0;
    deed = deed;
    there = refl;
    before = rw append-nil held;
    after = after;
    taken = taken;
  }
    where
      after : (n : ℕ) → 0 < n → holds owners (past ++ take n (deed ∷ later)) user need ≡ false
      after zero less = absurd (omega arith)
      after (suc n) less = rw append_assoc at (never.missing n)

      gone : holds owners (past ++ deed ∷ []) user need ≡ false
      gone = rw append-nil at (never.missing 0)

      taken : (found : Cause) → cause_after owners user need past (deed ∷ later) found ≡ Taken (place_of deed)
      taken found = rw (held, gone) (never.same (Taken (place_of deed)))

  -- a need that isn't held before a deed, nor from it on, is never held
  never_here : (past later : List Deed) (deed : Deed) → holds owners past user need ≡ false → IsNeverHeld (past ++ deed ∷ []) later
      → IsNeverHeld past (deed ∷ later)
  never_here past later deed out never = record {
    same = λ found. rw out (never.same found);
    missing = missing;
  }
    where
      missing : (n : ℕ) → holds owners (past ++ take n (deed ∷ later)) user need ≡ false
      missing zero = rw append-nil out
      missing (suc n) = rw append_assoc at (never.missing n)

  -- a later deed takes it away last
  lost_there : (past later : List Deed) (deed : Deed) → IsLostLater (past ++ deed ∷ []) later → IsLostLater past (deed ∷ later)
  lost_there past later deed lost = record {
    index = suc lost.index;
    deed = lost.deed;
    there = lost.there;
    before = rw append_assoc at lost.before;
    after = after;
    taken = λ found. lost.taken (if takes past deed then Taken (place_of deed) else found);
  }
    where
      after : (n : ℕ) → suc lost.index < n → holds owners (past ++ take n (deed ∷ later)) user need ≡ false
      after zero less = absurd (omega arith)
      after (suc n) less = rw append_assoc at (lost.after n (omega arith))

  -- a need that isn't held in the end was lost last by a deed, or never held
  lost_or_never : (past later : List Deed) → holds owners (past ++ later) user need ≡ false → IsNeverHeld past later ⊎ IsLostLater past later
  lost_or_never past [] missing =
      inl (record { same = λ found. refl; missing = λ n. rw take-nil missing })
  lost_or_never past (deed ∷ later) missing =
      elim (lost_or_never (past ++ deed ∷ []) later (rw append_assoc missing)) [
        | inl never ↦ by_cases (holds owners past user need) (λ held. inr (lost_here past later deed held never)) (λ out. inl (never_here past later deed out never))
        | inr lost ↦ inr (lost_there past later deed lost)
      ]

  -- the cause is `Never` exactly where no beginning of the deeds holds the need
  pub cause-never : (deeds : List Deed) → holds owners deeds user need ≡ false
      → (cause owners deeds user need ≡ Never) ↔ ((n : ℕ) → holds owners (take n deeds) user need ≡ false)
  cause-never deeds missing =
      elim (lost_or_never [] deeds missing) [
        | inl never ↦ (λ was. never.missing, λ none. never.same Never)
        | inr lost ↦ (λ was. let taken = lost.taken Never in absurd (cc), λ none. absurd (true≢false (sym lost.before ∙ none lost.index)))
      ]

  -- of two last losses one can't come before the other
  one_loss : (deeds : List Deed) (place : ℕ) (lost : IsLostLater [] deeds) → IsLastLoss owners deeds user need place → place_of lost.deed ≡ place
  one_loss deeds place lost last =
      elim (cases_order lost.index last.index) [
        | inl same ↦
            let both : Some lost.deed ≡ Some last.deed = sym lost.there ∙ ap (slice_get deeds) same ∙ last.there in
            let deed : lost.deed ≡ last.deed = cc in
            ap place_of deed ∙ last.here
        | inr other ↦ elim other [
          | inl less ↦ absurd (true≢false (sym last.before ∙ lost.after last.index less))
          | inr more ↦ absurd (true≢false (sym lost.before ∙ last.after lost.index more))
        ]
      ]

  -- and otherwise the place of the last loss
  pub cause-taken : (deeds : List Deed) (place : ℕ) → holds owners deeds user need ≡ false
      → (cause owners deeds user need ≡ Taken place) ↔ IsLastLoss owners deeds user need place
  cause-taken deeds place missing =
      elim (lost_or_never [] deeds missing) [
        | inl never ↦ (λ was. let same = never.same Never in absurd (cc), λ last. absurd (true≢false (sym last.before ∙ never.missing last.index)))
        | inr lost ↦ (by_cause lost, λ last. lost.taken Never ∙ ap Taken (one_loss deeds place lost last))
      ]
    where
      by_cause : IsLostLater [] deeds → cause owners deeds user need ≡ Taken place → IsLastLoss owners deeds user need place
      by_cause lost was =
          let taken = lost.taken Never in
          record { index = lost.index; deed = lost.deed; there = lost.there; here = cc; before = lost.before; after = lost.after }
