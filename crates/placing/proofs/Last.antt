-- The last place before another that passes a test.
use Rattle.std.proofs.Common.{◌≡◌, ℕ, zero, suc, ◌+◌, ◌≤◌, Bool, true, false, ◌&&◌, cond, not, Some, List, refl, arith, ap, sym, ◌∙◌, nat_lt, slice_get}
use Rattle.std.specs.Option.{option_map_or}
use Rattle.std.proofs.lemmas.Bool.Decides.{nat_tests}
use Rattle.model_base.specs.declared.reference.Reference.{Reference}
use Rattle.model_base.specs.declared.reference.Reference.TheVariants.{Base, At}
use Rattle.model_base.specs.declared.statement.Statement.{Statement}
use Rattle.model_base.specs.References.{last_before}
use Rattle.std.proofs.lemmas.Bool.{and_parts}
use Rattle.model_base.proofs.Replay.{by_cases}
use Rattle.placing.specs.Laws.{IsEarlier, IsLast}

-- before the first place of the batch there is none
pub last_before-none : (test : Statement → Bool) (log : List Statement) (first place : ℕ) → place ≤ first → last_before test log first place ≡ Base
last_before-none test log first zero below = refl
last_before-none test log first (suc place) below =
    let less : nat_lt place first ≡ true = grind (arith, nat_tests) in
    rw less (last_before-none test log first place (omega arith))

-- one place more: it is the last, if it passes
pub last_before-next : (test : Statement → Bool) (log : List Statement) (first place : ℕ) (statement : Statement) → first ≤ place → slice_get log place ≡ Some statement → last_before test log first (place + 1) ≡ cond (test statement) (At place) (last_before test log first place)
last_before-next test log first place statement above at =
    let more : nat_lt place first ≡ false = grind (arith, nat_tests) in
    let next : place + 1 ≡ suc place = omega arith in
    rw (next, more, at) refl

-- an earlier place of one place more is that place, or an earlier one
earlier-of-next : (test : Statement → Bool) (log : List Statement) (first place earlier : ℕ) → IsEarlier test log first (suc place) earlier → (earlier ≡ place → ⊥) → IsEarlier test log first place earlier
earlier-of-next test log first place earlier is other =
    record { in_batch = is.in_batch; before = omega (arith, is.before, other); passes = is.passes }

-- the last place before another is what it is called
pub is_last : (test : Statement → Bool) (log : List Statement) (first place : ℕ) → IsLast test log first place (last_before test log first place)
is_last test log first zero = λ earlier is. absurd (omega (arith, is.before))
is_last test log first (suc place) =
    by_cases (not (nat_lt place first) && option_map_or test (slice_get log place) false)
    (λ here. rw here (here-last here))
    (λ elsewhere. rw elsewhere (further elsewhere (last_before test log first place) (is_last test log first place)))
  where
    here-last : (not (nat_lt place first) && option_map_or test (slice_get log place) false) ≡ true → IsLast test log first (suc place) (At place)
    here-last here =
        let parts : (not (nat_lt place first) ≡ true) × (option_map_or test (slice_get log place) false ≡ true) = and_parts (not (nat_lt place first)) (option_map_or test (slice_get log place) false) here in (
          record { in_batch = grind (arith, nat_tests, parts.0); before = omega arith; passes = parts.1 },
          λ earlier later is. absurd (omega (arith, later, is.before)),
        )

    not_here : (not (nat_lt place first) && option_map_or test (slice_get log place) false) ≡ false → (earlier : ℕ) → IsEarlier test log first (suc place) earlier → earlier ≡ place → ⊥
    not_here elsewhere earlier is same =
        let in_batch : first ≤ place = omega (arith, is.in_batch, same) in
        let more : nat_lt place first ≡ false = grind (arith, nat_tests) in
        let passes : option_map_or test (slice_get log place) false ≡ true = ap (λ m. option_map_or test (slice_get log m) false) (sym same) ∙ is.passes in
        let both : (not (nat_lt place first) && option_map_or test (slice_get log place) false) ≡ true = ap (λ b. not b && option_map_or test (slice_get log place) false) more ∙ passes in
        let no : true ≡ false = sym both ∙ elsewhere in
        cc

    further : (not (nat_lt place first) && option_map_or test (slice_get log place) false) ≡ false → (reference : Reference) → IsLast test log first place reference → IsLast test log first (suc place) reference
    further elsewhere Base none = λ earlier is. none earlier (earlier-of-next test log first place earlier is (not_here elsewhere earlier is))
    further elsewhere (At last) is_last =
        let at = is_last.0 in (
          record { in_batch = at.in_batch; before = omega (arith, at.before); passes = at.passes },
          λ earlier later is. is_last.1 earlier later (earlier-of-next test log first place earlier is (not_here elsewhere earlier is)),
        )
