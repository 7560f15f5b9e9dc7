-- The deeds below a place, and what the records as they were there say of the grants in force.
use Rattle.std.proofs.Common.{◌≡◌, ℕ, zero, suc, ◌<◌, ◌≤◌, List, [], ◌∷◌, ◌++◌, is_none, refl, ap, arith}
use Rattle.std.specs.Prelude.{All, Contains, nat_lt}
use Rattle.std.proofs.lemmas.Bool.{le-ltb, lt-ltb}
use Rattle.std.proofs.lemmas.List.Elements.{All-contains, All-weaker, Contains-push}
use Rattle.model_base.specs.declared.deed.Record.{Record}
use Rattle.model_base.specs.declared.deed.Revocation.{Revocation}
use Rattle.model_base.specs.declared.deed.Deed.{Deed}
use Rattle.model_base.specs.declared.deed.Deed.TheVariants.{Revoking}
use Rattle.model_base.specs.Privileges.{IsProper, IsProperAfter, deeds_below, place_of}
use Rattle.model_base.specs.Records.{cut, end_below, in_force, recorded}
use Rattle.model_base.proofs.Cuts.{deeds_below-none}
use Rattle.model_base.proofs.Places.{AtRevocation, proper-above, revocations-above}
use Rattle.model_base.proofs.Replay.{by_cases}
use Rattle.audit_text.specs.Drawn.{drawn}

-- the drawn grants are those that the records, as they were at the place, have in force
pub drawn-cut : (place : ℕ) (entries : List Record) → recorded (drawn place entries) ≡ in_force (cut place entries)
drawn-cut place [] = refl
drawn-cut place (entry ∷ entries) =
    let rest = drawn-cut place entries in
    by_cases (nat_lt entry.grant.place place)
    (λ below. by_cases (is_none (end_below place entry.end))
    (λ stands. rw (below, stands, rest) refl)
    (λ ended. rw (below, ended, rest) refl))
    (λ later. rw (later, rest) refl)

module _ (owners : List ℕ) where
  -- the deeds below the place of a revocation come first, and then this one
  split-after : (start deeds : List Deed) (revocation : Revocation) → IsProperAfter owners start deeds → Contains deeds (Revoking revocation)
      → (later : List Deed) × (deeds ≡ deeds_below revocation.place deeds ++ Revoking revocation ∷ later)
  split-after start [] revocation proper (k, within, is) = absurd (omega (arith, within))
  split-after start (first ∷ deeds) revocation proper (zero, within, is) =
      let place = revocation.place in
      let same : place_of first ≡ place = ap place_of is in
      let above : All (λ next. place ≤ place_of next) deeds =
      All-weaker (λ next. place_of first ≤ place_of next) (λ next. place ≤ place_of next) (λ next less. omega (arith, same)) deeds
      (proper-above owners (start ++ first ∷ []) deeds first (Contains-push start first) proper.1) in
      (deeds, rw (le-ltb (place_of first) place (omega (arith, same)), deeds_below-none place deeds above) (ap (λ (d : Deed). d ∷ deeds) is))
  split-after start (first ∷ deeds) revocation proper (suc k, within, is) =
      let there : Contains deeds (Revoking revocation) = (k, omega (arith, within), is) in
      let next = start ++ first ∷ [] in
      let less : place_of first < revocation.place =
      All-contains (AtRevocation (λ place. place_of first < place)) deeds (Revoking revocation)
      (revocations-above owners next deeds first (Contains-push start first) proper.1) there in
      let rest = split-after next deeds revocation proper.1 there in
      (rest.0, rw (lt-ltb (place_of first) revocation.place less) (ap (λ (ds : List Deed). first ∷ ds) rest.1))

  pub split-at : (deeds : List Deed) (revocation : Revocation) → IsProper owners deeds → Contains deeds (Revoking revocation)
      → (later : List Deed) × (deeds ≡ deeds_below revocation.place deeds ++ Revoking revocation ∷ later)
  split-at deeds revocation proper there = split-after [] deeds revocation proper there
