-- The later of two places.
use Rattle.std.proofs.Common.{◌≡◌, ℕ, ◌<◌, ◌≤◌, Option, Some, None, refl, ap, arith, inl, inr}
use Rattle.std.specs.Prelude.{nat_lt}
use Rattle.std.proofs.lemmas.Bool.{cases_lt, le-ltb, lt-ltb}
use Rattle.model_base.proofs.Replay.{by_cases}
use Rattle.grants_base.specs.Force.{later_of}

-- the later of three places is found in either order
pub later-assoc : (a b c : Option ℕ) → later_of (later_of a b) c ≡ later_of a (later_of b c)
later-assoc None b c = refl
later-assoc (Some x) None c = refl
later-assoc (Some x) (Some y) None =
    by_cases (nat_lt x y) (λ less. rw less refl) (λ more. rw more refl)
later-assoc (Some x) (Some y) (Some z) =
    elim (cases_lt x y) [
      | inl xy ↦ elim (cases_lt y z) [
        | inl yz ↦ let xz : x < z = omega arith in rw (lt-ltb x y xy, lt-ltb y z yz, lt-ltb x z xz) refl
        | inr zy ↦ rw (lt-ltb x y xy, le-ltb y z zy, lt-ltb x y xy) refl
      ]
      | inr yx ↦ elim (cases_lt y z) [
        | inl yz ↦ rw (le-ltb x y yx, lt-ltb y z yz) refl
        | inr zy ↦ let zx : z ≤ x = omega arith in rw (le-ltb x y yx, le-ltb y z zy, le-ltb x z zx, le-ltb x y yx) refl
      ]
    ]

-- a place and none
pub later-none : (a : Option ℕ) → later_of a None ≡ a
later-none None = refl
later-none (Some x) = refl

-- the later of two places is the same in either order
pub later-swap : (a b : Option ℕ) → later_of a b ≡ later_of b a
later-swap None None = refl
later-swap None (Some y) = refl
later-swap (Some x) None = refl
later-swap (Some x) (Some y) =
    elim (cases_lt x y) [
      | inl xy ↦ rw (lt-ltb x y xy, le-ltb y x (omega arith)) refl
      | inr yx ↦ elim (cases_lt y x) [
        | inl less ↦ rw (le-ltb x y yx, lt-ltb y x less) refl
        | inr xy ↦ let same : x ≡ y = omega arith in rw (le-ltb x y yx, le-ltb y x xy) (ap (λ (n : ℕ). Some n) same)
      ]
    ]
