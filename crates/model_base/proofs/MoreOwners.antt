-- The grants of proper deeds are on tables that have an owner, so tables that are created later change nothing.
use Rattle.std.proofs.Common.{◌≡◌, ◌↔◌, ℕ, zero, suc, ◌<◌, true, false, Option, List, [], ◌∷◌, ◌++◌, length, refl, sym, ap, arith, inl, inr}
use Rattle.std.specs.Prelude.{All, ◌==◌, slice_get}
use Rattle.std.specs.List.{list_any}
use Rattle.std.specs.Option.{option_map_or}
use Rattle.std.proofs.lemmas.Bool.{or_cases, and_parts, cases_lt, eqb-true, true≢false}
use Rattle.std.proofs.lemmas.List.{append-nil}
use Rattle.std.proofs.lemmas.List.Elements.{All-nil, All-cons, All-head, All-tail, All-weaker, All-push}
use Rattle.std.proofs.lemmas.Option.{slice_get_past}
use Rattle.model_base.specs.declared.deed.Grant.{Grant}
use Rattle.model_base.specs.declared.deed.Need.{Need}
use Rattle.model_base.specs.declared.deed.Deed.{Deed}
use Rattle.model_base.specs.declared.deed.Deed.TheVariants.{Granting, Revoking}
use Rattle.model_base.specs.Privileges.{deeds_below, owns, reaches, gives, has, option_of, kept, IsProper, IsProperAfter}
use Rattle.model_base.specs.Records.{grants_of}
use Rattle.model_base.proofs.Parts.{part-all, part-part}
use Rattle.model_base.proofs.Records.{grants-append}
use Rattle.model_base.proofs.Recorded.{part-grants_below, part-kept_grants}
use Rattle.model_base.proofs.Owners.{IsSameOwner, AreSameOwners, proper-owners}

-- what is in a list is there with more after it
slice_get-append : (first later : List ℕ) (i : ℕ) → i < length first → slice_get (first ++ later) i ≡ slice_get first i
slice_get-append [] later i less = absurd (omega arith)
slice_get-append (x ∷ first) later zero less = refl
slice_get-append (x ∷ first) later (suc i) less = slice_get-append first later i (omega arith)

-- whether the grant is on one of the first tables
abbrev pub IsOnTable : List ℕ → Grant → Type 0
IsOnTable owners grant = grant.table < length owners

module _ (owners more : List ℕ) where
  -- the tables that there are keep their owners
  pub same-more : (table : ℕ) → table < length owners → IsSameOwner (owners ++ more) owners table
  unfolding owns
  same-more table less = record {
    same = λ user. ap (λ (o : Option ℕ). option_map_or (λ owner. owner == user) o false) (slice_get-append owners more table less);
  }

  -- and the other way round
  pub same-fewer : (table : ℕ) → table < length owners → IsSameOwner owners (owners ++ more) table
  same-fewer table less = let agree = same-more table less in record { same = λ user. sym (agree.same user) }

  -- grants on them have the same owners of their tables
  pub all_same-more : (grants : List Grant) → All (IsOnTable owners) grants → AreSameOwners (owners ++ more) owners grants
  all_same-more grants on = All-weaker (IsOnTable owners) (λ grant. IsSameOwner (owners ++ more) owners grant.table) (λ grant less. same-more grant.table less) grants on

  -- and the other way round
  pub all_same-fewer : (grants : List Grant) → All (IsOnTable owners) grants → AreSameOwners owners (owners ++ more) grants
  all_same-fewer grants on = All-weaker (IsOnTable owners) (λ grant. IsSameOwner owners (owners ++ more) grant.table) (λ grant less. same-fewer grant.table less) grants on

  -- so deeds on them are proper with later owners exactly if they are without
  pub proper-more : (deeds : List Deed) → All (IsOnTable owners) (grants_of deeds) → IsProper (owners ++ more) deeds ↔ IsProper owners deeds
  proper-more deeds on = (
    proper-owners (owners ++ more) owners deeds (all_same-more (grants_of deeds) on),
    proper-owners owners (owners ++ more) deeds (all_same-fewer (grants_of deeds) on),
  )

module _ (owners : List ℕ) where
  -- a table that is owned is there
  owns-table : (user table : ℕ) → owns owners user table ≡ true → table < length owners
  unfolding owns
  owns-table user table owned =
      elim (cases_lt table (length owners)) [
        | inl less ↦ less
        | inr past ↦ absurd (true≢false (sym (rw (slice_get_past owners table past) at owned)))
      ]

  -- a grant gives what is needed on its own table
  gives-table : (grant : Grant) (user : ℕ) (need : Need) → gives grant user need ≡ true → grant.table ≡ need.table
  unfolding gives
  gives-table grant user need given =
      let kind = (and_parts (reaches grant.grantee user need.option) _ given).1 in
      let table = (and_parts _ _ kind).1 in
      eqb-true grant.table need.table (and_parts (grant.table == need.table) _ table).0

  -- what one of the grants gives is on a table that there is
  any-table : (grants : List Grant) (user : ℕ) (need : Need) → All (IsOnTable owners) grants → list_any (λ grant. gives grant user need) grants ≡ true
      → need.table < length owners
  any-table [] user need on given = absurd (true≢false (sym given))
  any-table (grant ∷ grants) user need on given =
      elim (or_cases (gives grant user need) _ given) [
        | inl here ↦
            let same = gives-table grant user need here in
            let less : grant.table < length owners = All-head (IsOnTable owners) grant grants on in
            omega arith
        | inr later ↦ any-table grants user need (All-tail (IsOnTable owners) grant grants on) later
      ]

  -- what is held, as owner or by grants on the tables that there are, is on one of them
  pub has-table : (grants : List Grant) (user : ℕ) (need : Need) → All (IsOnTable owners) grants → has owners grants user need ≡ true → need.table < length owners
  unfolding has
  has-table grants user need on held =
      elim (or_cases (owns owners user need.table) _ held) [
        | inl owned ↦ owns-table user need.table owned
        | inr given ↦ any-table grants user need on given
      ]

  -- the grants of later deeds are on tables that there are, if those before are
  tables-after : (past deeds : List Deed) → IsProperAfter owners past deeds → All (IsOnTable owners) (grants_of past) → All (IsOnTable owners) (grants_of deeds)
  tables-after past [] proper on = All-nil (IsOnTable owners)
  tables-after past (Granting grant ∷ deeds) proper on =
      let low = deeds_below grant.place past in
      let standing = part-all (IsOnTable owners) (part-part (part-kept_grants owners low) (part-grants_below grant.place past)) on in
      let here : IsOnTable owners grant = has-table (kept owners low) grant.grantor (option_of grant) standing proper.0.1 in
      let next : All (IsOnTable owners) (grants_of (past ++ Granting grant ∷ [])) =
      rw (grants-append past (Granting grant ∷ [])) (All-push (IsOnTable owners) (grants_of past) grant on here) in
      All-cons (IsOnTable owners) grant (grants_of deeds) here (tables-after (past ++ Granting grant ∷ []) deeds proper.1 next)
  tables-after past (Revoking revocation ∷ deeds) proper on =
      let next : All (IsOnTable owners) (grants_of (past ++ Revoking revocation ∷ [])) =
      rw (grants-append past (Revoking revocation ∷ []), append-nil (grants_of past)) on in
      tables-after (past ++ Revoking revocation ∷ []) deeds proper.1 next

  -- the grants of proper deeds are on tables that there are
  pub tables-proper : (deeds : List Deed) → IsProper owners deeds → All (IsOnTable owners) (grants_of deeds)
  tables-proper deeds proper = tables-after [] deeds proper (All-nil (IsOnTable owners))
