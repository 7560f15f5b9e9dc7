-- The grant of a rank among those in force at a place.
use Rattle.std.proofs.Common.{◌≡◌, ℕ, zero, suc, ◌<◌, ◌≤◌, true, false, List, [], ◌∷◌, Some, None, is_none, length, refl, sym, ◌∙◌, ap, arith, eq-eqb, inl, inr}
use Rattle.std.specs.Prelude.{◌==◌, Contains, nat_lt, slice_get}
use Rattle.std.proofs.lemmas.Bool.{and_parts, cases_lt, eqb-true, ne_eqb}
use Rattle.std.proofs.lemmas.List.Elements.{All-contains, Contains-append_right}
use Rattle.std.proofs.lemmas.Option.{slice_get_within}
use Rattle.model_base.specs.declared.deed.Grant.{Grant}
use Rattle.model_base.specs.declared.deed.Record.{Record}
use Rattle.model_base.specs.Laws.{IsRising}
use Rattle.model_base.specs.Ranks.{rank}
use Rattle.model_base.specs.Records.{end_below, is_in_force_at, recorded}
use Rattle.model_base.proofs.Replay.{by_cases}
use Rattle.grants_base.proofs.Lookups.{rise_at}
use Rattle.explain.specs.Steps.{grant_at, in_force_at}

-- a record in force comes first among those that are
in_force-first : (place : ℕ) (entry : Record) (entries : List Record) → is_in_force_at place entry ≡ true
    → in_force_at place (entry ∷ entries) ≡ entry.grant ∷ in_force_at place entries
in_force-first place entry entries stands =
    let parts = and_parts (nat_lt entry.grant.place place) (is_none (end_below place entry.end)) stands in
    rw (parts.0, parts.1) refl

-- and one that isn't falls away
in_force-other : (place : ℕ) (entry : Record) (entries : List Record) → is_in_force_at place entry ≡ false
    → in_force_at place (entry ∷ entries) ≡ in_force_at place entries
in_force-other place entry entries falls =
    by_cases (nat_lt entry.grant.place place)
    (λ less. let ended : is_none (end_below place entry.end) ≡ false = rw less at falls in rw (less, ended) refl)
    (λ more. rw more refl)

module _ (ranked place : ℕ) where
  -- a record of another rank doesn't matter
  grant_at-skip : (entry : Record) (entries : List Record) → (rank entry.grant ≡ ranked → ⊥)
      → grant_at ranked (in_force_at place (entry ∷ entries)) ≡ grant_at ranked (in_force_at place entries)
  grant_at-skip entry entries other =
      let apart : (rank entry.grant == ranked) ≡ false = ne_eqb (rank entry.grant) ranked other in
      by_cases (is_in_force_at place entry)
      (λ stands. rw (in_force-first place entry entries stands, apart) refl)
      (λ falls. rw (in_force-other place entry entries falls) refl)

  -- where no record is of the rank, none is found
  pub grant_at-none : (entries : List Record) → ((k : ℕ) (entry : Record) → slice_get entries k ≡ Some entry → rank entry.grant ≡ ranked → ⊥)
      → grant_at ranked (in_force_at place entries) ≡ None
  grant_at-none [] none = refl
  grant_at-none (entry ∷ entries) none =
      grant_at-skip entry entries (none 0 entry refl)
      ∙ grant_at-none entries (λ k found at. none (suc k) found at)

  -- the record of the rank that is in force is found
  pub grant_at-found : (entries : List Record) → IsRising (recorded entries) → (slot : ℕ) (entry : Record) → slice_get entries slot ≡ Some entry
      → rank entry.grant ≡ ranked → is_in_force_at place entry ≡ true → grant_at ranked (in_force_at place entries) ≡ Some entry.grant
  grant_at-found [] rising slot entry at is stands = absurd (cc)
  grant_at-found (first ∷ entries) rising zero entry at is stands =
      let same : first ≡ entry = cc in
      let here : (rank entry.grant == ranked) ≡ true = eq-eqb (rank entry.grant) ranked is in
      ap (λ (e : Record). grant_at ranked (in_force_at place (e ∷ entries))) same ∙ rw (in_force-first place entry entries stands, here) refl
  grant_at-found (first ∷ entries) rising (suc slot) entry at is stands =
      grant_at-skip first entries (λ same. let less = rise_at (first ∷ entries) rising 0 (suc slot) first entry refl at (omega arith) in omega arith)
      ∙ grant_at-found entries rising.1 slot entry at is stands

  -- and one that isn't in force hides no other
  pub grant_at-ended : (entries : List Record) → IsRising (recorded entries) → (slot : ℕ) (entry : Record) → slice_get entries slot ≡ Some entry
      → rank entry.grant ≡ ranked → is_in_force_at place entry ≡ false → grant_at ranked (in_force_at place entries) ≡ None
  grant_at-ended [] rising slot entry at is falls = absurd (cc)
  grant_at-ended (first ∷ entries) rising zero entry at is falls =
      let same : first ≡ entry = cc in
      ap (λ (e : Record). grant_at ranked (in_force_at place (e ∷ entries))) same
      ∙ ap (grant_at ranked) (in_force-other place entry entries falls)
      ∙ grant_at-none entries (λ k other there equal.
      let less = rise_at (first ∷ entries) rising 0 (suc k) first other refl there (omega arith) in
      let where_first : rank first.grant ≡ rank entry.grant = ap (λ (e : Record). rank e.grant) same in
      omega arith)
  grant_at-ended (first ∷ entries) rising (suc slot) entry at is falls =
      grant_at-skip first entries (λ same. let less = rise_at (first ∷ entries) rising 0 (suc slot) first entry refl at (omega arith) in omega arith)
      ∙ grant_at-ended entries rising.1 slot entry at is falls

  -- below and from a slot on no record is of the rank: then none is found
  pub grant_at-past : (entries : List Record) (slot : ℕ) → length entries ≤ slot
      → ((k : ℕ) (entry : Record) → slice_get entries k ≡ Some entry → k < slot → rank entry.grant < ranked)
      → grant_at ranked (in_force_at place entries) ≡ None
  grant_at-past entries slot over below =
      grant_at-none entries (λ k entry at same. let within = slice_get_within entries k entry at in let less = below k entry at (omega arith) in omega arith)

  -- nor where the first record that isn't earlier is later
  pub grant_at-other : (entries : List Record) → IsRising (recorded entries) → (slot : ℕ) (first : Record) → slice_get entries slot ≡ Some first
      → (rank first.grant ≡ ranked → ⊥)
      → ((k : ℕ) (entry : Record) → slice_get entries k ≡ Some entry → k < slot → rank entry.grant < ranked)
      → ((k : ℕ) (entry : Record) → slice_get entries k ≡ Some entry → slot ≤ k → ranked ≤ rank entry.grant)
      → grant_at ranked (in_force_at place entries) ≡ None
  grant_at-other entries rising slot first at other below above =
      grant_at-none entries
      (λ k entry there same.
      elim (cases_lt k slot) [
        | inl under ↦ let less = below k entry there under in omega arith
        | inr over ↦ elim (cases_lt slot k) [
          | inl later ↦
              let less = rise_at entries rising slot k first entry at there later in
              let low = above slot first at (omega arith) in
              omega arith
          | inr here ↦
              let one : k ≡ slot = omega arith in
              let again : Some first ≡ Some entry = sym at ∙ ap (slice_get entries) (sym one) ∙ there in
              let equal : first ≡ entry = cc in
              other (ap (λ (e : Record). rank e.grant) equal ∙ same)
        ]
      ])

-- a grant that is found is among the grants, with its rank
pub grant_at-among : (ranked : ℕ) (grants : List Grant) (grant : Grant) → grant_at ranked grants ≡ Some grant → Contains grants grant × (rank grant ≡ ranked)
grant_at-among ranked [] grant is = absurd (cc)
grant_at-among ranked (first ∷ grants) grant is =
    by_cases (rank first == ranked)
    (λ here.
    let found : Some first ≡ Some grant = rw here at is in
    let same : first ≡ grant = cc in
    ((0, omega arith, same), ap rank (sym same) ∙ eqb-true (rank first) ranked here))
    (λ other.
    let found : grant_at ranked grants ≡ Some grant = rw other at is in
    let rest = grant_at-among ranked grants grant found in
    (Contains-append_right (first ∷ []) grants grant rest.0, rest.1))

-- and each of them is found by its rank, as these rise
pub grant_at-rising : (grants : List Grant) (grant : Grant) → IsRising grants → Contains grants grant → grant_at (rank grant) grants ≡ Some grant
grant_at-rising [] grant rising (k, less, is) = absurd (omega arith)
grant_at-rising (first ∷ grants) grant rising (zero, less, is) =
    let same : first ≡ grant = is in
    rw (eq-eqb (rank first) (rank grant) (ap rank same)) (ap (λ (g : Grant). Some g) same)
grant_at-rising (first ∷ grants) grant rising (suc k, less, is) =
    let there : Contains grants grant = (k, omega arith, is) in
    let later : rank first < rank grant = All-contains (λ (g : Grant). rank first < rank g) grants grant rising.0 there in
    let apart : (rank first == rank grant) ≡ false = ne_eqb (rank first) (rank grant) (λ same. omega arith) in
    rw apart (grant_at-rising grants grant rising.1 there)
