-- What is in force with one grant more, and with one less.
use Rattle.std.proofs.Common.{◌≡◌, ℕ, zero, suc, ◌&&◌, ◌||◌, not, Bool, true, false, List, [], ◌∷◌, ◌++◌, Option, Some, None, is_none, length, refl, sym, ◌∙◌, ap, arith}
use Rattle.std.specs.Prelude.{◌==◌, if◌then◌else◌, slice_get}
use Rattle.std.proofs.lemmas.Bool.Decides.{nat_tests}
use Rattle.std.proofs.lemmas.Bool.{eqb-true, ne_eqb}
use Rattle.model_base.specs.declared.deed.Grant.{Grant}
use Rattle.model_base.specs.declared.deed.Record.{Record}
use Rattle.model_base.proofs.Replay.{by_cases}
use Rattle.grants_base.specs.Book.{end_slot, unended}
use Rattle.grants_base.specs.Force.{AreByGrantors, Force, IsForceOf, IsWithSlot, IsWithoutSlot, end_if, greatest_end, is_in_force, later_of, no_force}
use Rattle.grants_base.specs.GrantorSet.{HasGainedBy, HasLostBy}
use Rattle.grants_base.specs.declared.grantor_set.Granted.{Granted}
use Rattle.grants_base.proofs.LaterOf.{later-assoc, later-none, later-swap}

or-none : (a : Bool) → (a || false) ≡ a
or-none true = refl
or-none false = refl

or-assoc : (a b c : Bool) → (a || (b || c)) ≡ ((a || b) || c)
or-assoc true b c = refl
or-assoc false b c = refl

and-false : (a : Bool) → (a && false) ≡ false
and-false true = refl
and-false false = refl

and-true : (a : Bool) → (a && true) ≡ a
and-true true = refl
and-true false = refl

suc-apart : (k : ℕ) → (0 == suc k) ≡ false
suc-apart k = ne_eqb 0 (suc k) (λ same. omega arith)

suc-same : (a b : ℕ) → (suc a == suc b) ≡ (a == b)
suc-same a b = grind (arith, nat_tests)

module _ (passes : Grant → Bool) where
  force-more : (entries : List Record) (grant : Grant) (k : ℕ)
      → is_in_force passes (slice_get (entries ++ unended grant ∷ []) k) ≡ (is_in_force passes (slice_get entries k) || ((length entries == k) && passes grant))
  force-more [] grant zero = refl
  force-more [] grant (suc k) = ap (λ b. b && passes grant) (sym (suc-apart k))
  force-more (entry ∷ entries) grant zero =
      sym (ap (λ b. is_in_force passes (Some entry) || (b && passes grant)) (ne_eqb (suc (length entries)) 0 (λ same. omega arith)) ∙ or-none (is_in_force passes (Some entry)))
  force-more (entry ∷ entries) grant (suc k) =
      force-more entries grant k ∙ ap (λ b. is_in_force passes (slice_get entries k) || (b && passes grant)) (sym (suc-same (length entries) k))

  greatest-more : (entries : List Record) (grant : Grant) → greatest_end passes (entries ++ unended grant ∷ []) ≡ greatest_end passes entries
  greatest-more [] grant = by_cases (passes grant) (λ yes. rw yes refl) (λ no. rw no refl)
  greatest-more (entry ∷ entries) grant = ap (later_of (end_if passes entry)) (greatest-more entries grant)

  force-less : (entries : List Record) (slot place k : ℕ)
      → is_in_force passes (slice_get (end_slot entries slot place) k) ≡ (is_in_force passes (slice_get entries k) && not (slot == k))
  force-less [] slot place k = refl
  force-less (entry ∷ entries) zero place zero = sym (and-false (is_in_force passes (Some entry)))
  force-less (entry ∷ entries) zero place (suc k) =
      sym (ap (λ b. is_in_force passes (slice_get entries k) && not b) (suc-apart k) ∙ and-true (is_in_force passes (slice_get entries k)))
  force-less (entry ∷ entries) (suc slot) place zero =
      sym (ap (λ b. is_in_force passes (Some entry) && not b) (ne_eqb (suc slot) 0 (λ same. omega arith)) ∙ and-true (is_in_force passes (Some entry)))
  force-less (entry ∷ entries) (suc slot) place (suc k) =
      force-less entries slot place k ∙ ap (λ b. is_in_force passes (slice_get entries k) && not b) (sym (suc-same slot k))

  abbrev new_end : Grant → ℕ → Option ℕ
  new_end grant place = if passes grant then Some place else None

  greatest-less : (entries : List Record) (slot place : ℕ) (found : Record) → slice_get entries slot ≡ Some found → found.end ≡ None
      → greatest_end passes (end_slot entries slot place) ≡ later_of (greatest_end passes entries) (new_end found.grant place)
  greatest-less [] slot place found is free = absurd (cc)
  greatest-less (entry ∷ entries) zero place found is free =
      let same : entry ≡ found = cc in
      let none : end_if passes entry ≡ None =
      by_cases (passes entry.grant) (λ yes. rw yes (ap (λ (e : Record). e.end) same ∙ free)) (λ no. rw no refl) in
      later-swap (new_end entry.grant place) (greatest_end passes entries)
      ∙ ap (λ (e : Record). later_of (greatest_end passes entries) (new_end e.grant place)) same
      ∙ ap (λ end. later_of (later_of end (greatest_end passes entries)) (new_end found.grant place)) (sym none)
  greatest-less (entry ∷ entries) (suc slot) place found is free =
      ap (later_of (end_if passes entry)) (greatest-less entries slot place found is free)
      ∙ sym (later-assoc (end_if passes entry) (greatest_end passes entries) (new_end found.grant place))

  -- nothing is in force of no records
  pub force_none : IsForceOf passes [] no_force
  force_none = record { slots = λ k. refl; lost = refl }

  -- a grant that passes is in force
  pub force_granted : (entries : List Record) (grant : Grant) (slot : ℕ) (old new : Force) → slot ≡ length entries → passes grant ≡ true → IsForceOf passes entries old
      → IsWithSlot slot old new → IsForceOf passes (entries ++ unended grant ∷ []) new
  force_granted entries grant slot old new last passing is given = record {
    slots = λ k.
        given.slots k
        ∙ ap (λ b. b || (slot == k)) (is.slots k)
        ∙ ap (λ n. is_in_force passes (slice_get entries k) || (n == k)) last
        ∙ sym (force-more entries grant k ∙ ap (λ b. is_in_force passes (slice_get entries k) || ((length entries == k) && b)) passing
        ∙ ap (λ b. is_in_force passes (slice_get entries k) || b) (and-true (length entries == k)));
    lost = given.lost ∙ is.lost ∙ sym (greatest-more entries grant);
  }

  -- one that doesn't changes nothing
  pub force_apart : (entries : List Record) (grant : Grant) (force : Force) → passes grant ≡ false → IsForceOf passes entries force → IsForceOf passes (entries ++ unended grant ∷ []) force
  force_apart entries grant force failing is = record {
    slots = λ k.
        is.slots k
        ∙ sym (force-more entries grant k ∙ ap (λ b. is_in_force passes (slice_get entries k) || ((length entries == k) && b)) failing
        ∙ ap (λ b. is_in_force passes (slice_get entries k) || b) (and-false (length entries == k)) ∙ or-none (is_in_force passes (slice_get entries k)));
    lost = is.lost ∙ sym (greatest-more entries grant);
  }

  -- the end of a grant in force that passes
  pub force_ended : (entries : List Record) (slot place : ℕ) (found : Record) (old new : Force) → slice_get entries slot ≡ Some found → found.end ≡ None → passes found.grant ≡ true
      → IsForceOf passes entries old → IsWithoutSlot slot place old new → IsForceOf passes (end_slot entries slot place) new
  force_ended entries slot place found old new at free passing is taken = record {
    slots = λ k. taken.slots k ∙ ap (λ b. b && not (slot == k)) (is.slots k) ∙ sym (force-less entries slot place k);
    lost =
        taken.lost ∙ ap (λ lost. later_of lost (Some place)) is.lost
        ∙ sym (greatest-less entries slot place found at free ∙ ap (λ (b : Bool). later_of (greatest_end passes entries) (if b then Some place else None)) passing);
  }

  -- and of one that doesn't
  pub force_other : (entries : List Record) (slot place : ℕ) (found : Record) (force : Force) → slice_get entries slot ≡ Some found → found.end ≡ None → passes found.grant ≡ false
      → IsForceOf passes entries force → IsForceOf passes (end_slot entries slot place) force
  force_other entries slot place found force at free failing is = record {
    slots = λ k. is.slots k ∙ sym (force-less entries slot place k ∙ kept k);
    lost =
        is.lost
        ∙ sym (greatest-less entries slot place found at free ∙ ap (λ (b : Bool). later_of (greatest_end passes entries) (if b then Some place else None)) failing
        ∙ later-none (greatest_end passes entries));
  }
    where
      kept : (k : ℕ) → (is_in_force passes (slice_get entries k) && not (slot == k)) ≡ is_in_force passes (slice_get entries k)
      kept k =
          by_cases (slot == k)
          (λ here.
          let same : slot ≡ k = eqb-true slot k here in
          let there : is_in_force passes (slice_get entries k) ≡ false =
          ap (λ n. is_in_force passes (slice_get entries n)) (sym same) ∙ ap (is_in_force passes) at ∙ ap (λ b. is_none found.end && b) failing ∙ and-false (is_none found.end) in
          rw there refl)
          (λ apart. rw apart (and-true (is_in_force passes (slice_get entries k))))

-- the slots under their grantors
module _ (passes : Grant → Bool) (entries : List Record) (old new : List Granted) (is : AreByGrantors passes entries old) where
  abbrev of : ℕ → Grant → Bool
  of user grant = passes grant && (grant.grantor == user)

  lacks : (grant : Grant) (user : ℕ) → passes grant ≡ false → of user grant ≡ false
  lacks grant user failing = ap (λ b. b && (grant.grantor == user)) failing

  pub by_granted : (grant : Grant) (slot : ℕ) → slot ≡ length entries → passes grant ≡ true → HasGainedBy (record { grantor = grant.grantor; slot = slot }) old new
      → AreByGrantors passes (entries ++ unended grant ∷ []) new
  by_granted grant slot last passing given = λ user k.
      given user k
      ∙ ap (λ b. b || ((grant.grantor == user) && (slot == k))) (is user k)
      ∙ ap (λ n. is_in_force (of user) (slice_get entries k) || ((grant.grantor == user) && (n == k))) last
      ∙ ap (λ b. is_in_force (of user) (slice_get entries k) || b) (turned (grant.grantor == user) (length entries == k))
      ∙ sym (force-more (of user) entries grant k
      ∙ ap (λ b. is_in_force (of user) (slice_get entries k) || ((length entries == k) && (b && (grant.grantor == user)))) passing)
    where
      turned : (a b : Bool) → (a && b) ≡ (b && a)
      turned true true = refl
      turned true false = refl
      turned false true = refl
      turned false false = refl

  pub by_apart : (grant : Grant) → passes grant ≡ false → AreByGrantors passes (entries ++ unended grant ∷ []) old
  by_apart grant failing = λ user k.
      is user k
      ∙ sym (force-more (of user) entries grant k
      ∙ ap (λ b. is_in_force (of user) (slice_get entries k) || ((length entries == k) && b)) (lacks grant user failing)
      ∙ ap (λ b. is_in_force (of user) (slice_get entries k) || b) (and-false (length entries == k)) ∙ or-none (is_in_force (of user) (slice_get entries k)))

  -- where the grant of a slot doesn't pass, its end changes nothing
  still : (slot place k : ℕ) (found : Record) (user : ℕ) → slice_get entries slot ≡ Some found → of user found.grant ≡ false
      → is_in_force (of user) (slice_get (end_slot entries slot place) k) ≡ is_in_force (of user) (slice_get entries k)
  still slot place k found user at failing =
      force-less (of user) entries slot place k
      ∙ by_cases (slot == k)
      (λ here.
      let there : is_in_force (of user) (slice_get entries k) ≡ false =
      ap (λ n. is_in_force (of user) (slice_get entries n)) (sym (eqb-true slot k here)) ∙ ap (is_in_force (of user)) at ∙ ap (λ b. is_none found.end && b) failing ∙ and-false (is_none found.end) in
      rw there refl)
      (λ apart. rw apart (and-true (is_in_force (of user) (slice_get entries k))))

  pub by_ended : (slot place : ℕ) (found : Record) → slice_get entries slot ≡ Some found → HasLostBy (record { grantor = found.grant.grantor; slot = slot }) old new
      → AreByGrantors passes (end_slot entries slot place) new
  by_ended slot place found at taken = λ user k.
      taken user k ∙ ap (λ b. b && not ((found.grant.grantor == user) && (slot == k))) (is user k) ∙ by_user user k (found.grant.grantor == user) refl
    where
      by_user : (user k : ℕ) (same : Bool) → (found.grant.grantor == user) ≡ same
          → (is_in_force (of user) (slice_get entries k) && not (same && (slot == k))) ≡ is_in_force (of user) (slice_get (end_slot entries slot place) k)
      by_user user k true is = sym (force-less (of user) entries slot place k)
      by_user user k false is =
          and-true (is_in_force (of user) (slice_get entries k))
          ∙ sym (still slot place k found user at (ap (λ b. passes found.grant && b) is ∙ and-false (passes found.grant)))

  pub by_other : (slot place : ℕ) (found : Record) → slice_get entries slot ≡ Some found → passes found.grant ≡ false
      → AreByGrantors passes (end_slot entries slot place) old
  by_other slot place found at failing = λ user k. is user k ∙ sym (still slot place k found user at (lacks found.grant user failing))
