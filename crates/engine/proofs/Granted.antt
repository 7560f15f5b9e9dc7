-- The grantees that a book keeps are those that the statements of the log name.
use Rattle.std.proofs.Common.{◌≡◌, ℕ, zero, suc, ◌<◌, ◌≤◌, ◌∷◌, true, false, List, [], Option, Some, None, length, map, refl, sym, ◌∙◌, ap, subst, arith, eq-eqb, inl, inr}
use Rattle.std.specs.Prelude.{◌==◌, ◌++◌, Contains, slice_get}
use Rattle.std.specs.Option.{option_to_list}
use Rattle.std.proofs.lemmas.Bool.{cases_lt, ne_eqb}
use Rattle.std.proofs.lemmas.List.Elements.{All-contains, All-head, All-tail, Contains-append_right}
use Rattle.std.proofs.lemmas.Option.{slice_get_within}
use Rattle.model_base.specs.declared.deed.Deed.{Deed}
use Rattle.model_base.specs.declared.deed.Deed.TheVariants.{Granting, Revoking}
use Rattle.model_base.specs.declared.deed.Grant.{Grant}
use Rattle.model_base.specs.declared.deed.Grantee.{Grantee}
use Rattle.model_base.specs.declared.deed.Record.{Record}
use Rattle.model_base.specs.declared.statement.Statement.{Statement}
use Rattle.model_base.specs.Laws.{IsRising}
use Rattle.model_base.specs.Outcomes.{deeds_before, owners}
use Rattle.model_base.specs.Ranks.{rank}
use Rattle.model_base.specs.RecordGrantees.{WereGranted, grantee_at}
use Rattle.model_base.specs.Records.{grants_of, recorded}
use Rattle.model_base.proofs.Recorded.{recorded-records}
use Rattle.grants_base.specs.Book.{Entries, ShowsBook}
use Rattle.grants_base.proofs.Lookups.{rise_at}
use Rattle.engine.specs.Grantees.{recorded_grantee, recorded_grantees}

module _ (ranked : ℕ) where
  -- a record of another rank doesn't matter
  grantee-skip : (entry : Record) (entries : List Record) → (rank entry.grant ≡ ranked → ⊥)
      → recorded_grantee (entry ∷ entries) ranked ≡ recorded_grantee entries ranked
  grantee-skip entry entries other =
      let apart : (rank entry.grant == ranked) ≡ false = ne_eqb (rank entry.grant) ranked other in
      rw apart refl

  -- where no record is of the rank, there is none
  grantee-none : (entries : List Record) → ((k : ℕ) (entry : Record) → slice_get entries k ≡ Some entry → rank entry.grant ≡ ranked → ⊥)
      → recorded_grantee entries ranked ≡ None
  grantee-none [] none = refl
  grantee-none (entry ∷ entries) none =
      grantee-skip entry entries (none 0 entry refl) ∙ grantee-none entries (λ k found at. none (suc k) found at)

  -- the record of the rank is found
  pub grantee-found : (entries : List Record) → IsRising (recorded entries) → (slot : ℕ) (entry : Record) → slice_get entries slot ≡ Some entry
      → rank entry.grant ≡ ranked → recorded_grantee entries ranked ≡ Some entry.grant.grantee
  grantee-found [] rising slot entry at is = absurd (cc)
  grantee-found (first ∷ entries) rising zero entry at is =
      let same : first ≡ entry = cc in
      let here : (rank entry.grant == ranked) ≡ true = eq-eqb (rank entry.grant) ranked is in
      ap (λ (e : Record). recorded_grantee (e ∷ entries) ranked) same ∙ rw here refl
  grantee-found (first ∷ entries) rising (suc slot) entry at is =
      grantee-skip first entries (λ same. let less = rise_at (first ∷ entries) rising 0 (suc slot) first entry refl at (omega arith) in omega arith)
      ∙ grantee-found entries rising.1 slot entry at is

  -- below and from a slot on no record is of the rank: then there is none
  pub grantee-past : (entries : List Record) (slot : ℕ) → length entries ≤ slot
      → ((k : ℕ) (entry : Record) → slice_get entries k ≡ Some entry → k < slot → rank entry.grant < ranked)
      → recorded_grantee entries ranked ≡ None
  grantee-past entries slot over below =
      grantee-none entries (λ k entry at same. let within = slice_get_within entries k entry at in let less = below k entry at (omega arith) in omega arith)

  -- nor where the first record that isn't earlier is later
  pub grantee-other : (entries : List Record) → IsRising (recorded entries) → (slot : ℕ) (first : Record) → slice_get entries slot ≡ Some first
      → (rank first.grant ≡ ranked → ⊥)
      → ((k : ℕ) (entry : Record) → slice_get entries k ≡ Some entry → k < slot → rank entry.grant < ranked)
      → ((k : ℕ) (entry : Record) → slice_get entries k ≡ Some entry → slot ≤ k → ranked ≤ rank entry.grant)
      → recorded_grantee entries ranked ≡ None
  grantee-other entries rising slot first at other below above =
      grantee-none entries
      (λ k entry there same.
      elim (cases_lt k slot) [
        | inl under ↦ let less = below k entry there under in omega arith
        | inr over ↦ elim (cases_lt slot k) [
          | inl later ↦
              let less = rise_at entries rising slot k first entry at there later in
              let low = above slot first at (omega arith) in
              omega arith
          | inr here ↦
              let one : k ≡ slot = omega arith in
              let again : Some first ≡ Some entry = sym at ∙ ap (slice_get entries) (sym one) ∙ there in
              let equal : first ≡ entry = cc in
              other (ap (λ (e : Record). rank e.grant) equal ∙ same)
        ]
      ])

-- each recorded grant's grantee is found by its rank
grantee-rising : (entries : List Record) (grant : Grant) → IsRising (recorded entries) → Contains (recorded entries) grant
    → recorded_grantee entries (rank grant) ≡ Some grant.grantee
grantee-rising [] grant rising (k, less, is) = absurd (omega arith)
grantee-rising (first ∷ entries) grant rising (zero, less, is) =
    let same : first.grant ≡ grant = is in
    rw (eq-eqb (rank first.grant) (rank grant) (ap rank same)) (ap (λ (g : Grant). Some g.grantee) same)
grantee-rising (first ∷ entries) grant rising (suc k, less, is) =
    let there : Contains (recorded entries) grant = (k, omega arith, is) in
    let later : rank first.grant < rank grant = All-contains (λ (g : Grant). rank first.grant < rank g) (recorded entries) grant rising.0 there in
    grantee-skip (rank grant) first entries (λ same. omega arith) ∙ grantee-rising entries grant rising.1 there

-- a grant that the deeds make is one of theirs
contains-grants : (deeds : List Deed) (grant : Grant) → Contains deeds (Granting grant) → Contains (grants_of deeds) grant
contains-grants [] grant (k, less, is) = absurd (omega arith)
contains-grants (Granting first ∷ deeds) grant (zero, less, is) = let same : first ≡ grant = cc in (0, omega arith, same)
contains-grants (Granting first ∷ deeds) grant (suc k, less, is) =
    let there : Contains deeds (Granting grant) = (k, omega arith, is) in
    Contains-append_right (first ∷ []) (grants_of deeds) grant (contains-grants deeds grant there)
contains-grants (Revoking revocation ∷ deeds) grant (zero, less, is) = absurd (cc)
contains-grants (Revoking revocation ∷ deeds) grant (suc k, less, is) =
    let there : Contains deeds (Granting grant) = (k, omega arith, is) in contains-grants deeds grant there

-- the grantees of records that were granted before a place, by a book of the deeds before it
module _ (log : List Statement) (place : ℕ) (book : Entries) (shows : ShowsBook book (owners log) (deeds_before log place)) (rising : IsRising (recorded book.records))
    (granted : (l : List Statement) (p : ℕ) (grant : Grant) → Contains (deeds_before l p) (Granting grant) → grantee_at l (rank grant) ≡ Some grant.grantee) where
  all-recorded : recorded book.records ≡ grants_of (deeds_before log place)
  all-recorded = ap recorded shows.same ∙ recorded-records (owners log) (deeds_before log place)

  pub grantees_told : (ranks : List ℕ) → WereGranted log place ranks → map (grantee_at log) ranks ≡ map Some (recorded_grantees book.records ranks)
  grantees_told [] were = refl
  grantees_told (ranked ∷ ranks) were =
      let IsRank : ℕ → Type 0 = λ r. (grant : Grant) × Contains (deeds_before log place) (Granting grant) × (rank grant ≡ r) in
      let here = All-head IsRank ranked ranks were in
      let grant : Grant = here.0 in
      let there : Contains (recorded book.records) grant =
      subst (λ (grants : List Grant). Contains grants grant) (sym all-recorded) (contains-grants (deeds_before log place) grant here.1) in
      let found : recorded_grantee book.records ranked ≡ Some grant.grantee =
      ap (recorded_grantee book.records) (sym here.2) ∙ grantee-rising book.records grant rising there in
      let told : grantee_at log ranked ≡ Some grant.grantee = ap (grantee_at log) (sym here.2) ∙ granted log place grant here.1 in
      ap (λ (first : Option Grantee). first ∷ map (grantee_at log) ranks) told
      ∙ ap (λ (later : List (Option Grantee)). Some grant.grantee ∷ later) (grantees_told ranks (All-tail IsRank ranked ranks were))
      ∙ ap (λ (first : Option Grantee). map Some (option_to_list first ++ recorded_grantees book.records ranks)) (sym found)
