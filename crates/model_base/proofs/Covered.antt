-- Each kind on each table is replayed by itself, so the records of some tables tell all about these tables.
use Rattle.std.proofs.Common.{◌≡◌, ℕ, ◌||◌, ◌&&◌, not, Bool, true, false, List, [], ◌∷◌, ◌++◌, filter, refl, sym, ◌∙◌, ap}
use Rattle.std.specs.Prelude.{All, ◌==◌}
use Rattle.std.specs.List.{list_any}
use Rattle.std.proofs.lemmas.Bool.{true≢false, eqb-true}
use Rattle.std.proofs.lemmas.List.{append-nil}
use Rattle.std.proofs.lemmas.List.Elements.{filter-append, All-head, All-tail}
use Rattle.model_base.specs.declared.deed.Kind.{Kind}
use Rattle.model_base.specs.declared.deed.Kind.TheVariants.{Read, Insert, Update, Delete}
use Rattle.model_base.specs.declared.deed.Grant.{Grant}
use Rattle.model_base.specs.declared.deed.Need.{Need}
use Rattle.model_base.specs.declared.deed.Revocation.{Revocation}
use Rattle.model_base.specs.Ranks.{rank}
use Rattle.model_base.specs.Privileges.{owns, reaches, gives, has, option_of, same_kind, names, replayed, is_among}
use Rattle.model_base.proofs.Replay.{by_cases}

-- a test can't pass and fail
pub contrary : {G : Type 0} (test : Bool) → test ≡ true → test ≡ false → G
contrary test passes fails = absurd (true≢false (sym passes ∙ fails))

-- kinds that are the same are equal
pub same_kind-true : (first second : Kind) → same_kind first second ≡ true → first ≡ second
same_kind-true Read Read same = refl
same_kind-true Insert Insert same = refl
same_kind-true Update Update same = refl
same_kind-true Delete Delete same = refl
same_kind-true first second same = absurd (cc)

-- two tests one after the other keep the same in either order
pub filter-swap : (first second : Grant → Bool) (grants : List Grant) → filter first (filter second grants) ≡ filter second (filter first grants)
filter-swap first second [] = refl
filter-swap first second (grant ∷ grants) =
    let rest = filter-swap first second grants in
    by_cases (first grant)
    (λ one. by_cases (second grant) (λ two. rw (one, two, one, rest) refl) (λ not_two. rw (one, not_two, rest) refl))
    (λ not_one. by_cases (second grant) (λ two. rw (not_one, two, not_one, rest) refl) (λ not_two. rw (not_one, not_two, rest) refl))

-- what a revocation leaves of grants: the replay of those that it doesn't name
abbrev pub left_by : List ℕ → Revocation → List Grant → List Grant
left_by owners revocation grants = replayed owners [] (filter (λ grant. not (names revocation grant)) grants)

module _ (owners : List ℕ) (covers : Kind → ℕ → Bool) where
  -- whether the grant is one of the kinds and tables
  abbrev pub is_covered : Grant → Bool
  is_covered grant = covers grant.kind grant.table

  -- a grant of another kind or on another table doesn't give what is needed
  gives-other : (grant : Grant) (user : ℕ) (need : Need) → covers need.kind need.table ≡ true → is_covered grant ≡ false → gives grant user need ≡ false
  unfolding gives
  gives-other grant user need cover other =
      by_cases (same_kind grant.kind need.kind)
      (λ kind. by_cases (grant.table == need.table)
      (λ table.
      let kinds : grant.kind ≡ need.kind = same_kind-true grant.kind need.kind kind in
      let tables : grant.table ≡ need.table = eqb-true grant.table need.table table in
      contrary (covers need.kind need.table) cover (rw (kinds, tables) at other))
      (λ elsewhere. rw (kind, elsewhere) (and_false (reaches grant.grantee user need.option))))
      (λ differs. rw differs (and_false (reaches grant.grantee user need.option)))
    where
      and_false : (a : Bool) → (a && false) ≡ false
      and_false true = refl
      and_false false = refl

  -- so the covered grants give it exactly if all do
  any-covered : (grants : List Grant) (user : ℕ) (need : Need) → covers need.kind need.table ≡ true
      → list_any (λ grant. gives grant user need) (filter is_covered grants) ≡ list_any (λ grant. gives grant user need) grants
  any-covered [] user need cover = refl
  any-covered (grant ∷ grants) user need cover =
      let rest = any-covered grants user need cover in
      by_cases (is_covered grant)
      (λ covered. rw (covered, rest) refl)
      (λ other. rw (other, gives-other grant user need cover other) rest)

  -- what is needed on a covered table is given by the covered grants
  pub has-covered : (grants : List Grant) (user : ℕ) (need : Need) → covers need.kind need.table ≡ true
      → has owners (filter is_covered grants) user need ≡ has owners grants user need
  unfolding has
  has-covered grants user need cover = ap (λ b. owns owners user need.table || b) (any-covered grants user need cover)

  -- the covered grants are replayed by themselves
  pub replayed-covered : (standing grants : List Grant)
      → replayed owners (filter is_covered standing) (filter is_covered grants) ≡ filter is_covered (replayed owners standing grants)
  replayed-covered standing [] = refl
  replayed-covered standing (grant ∷ grants) =
      let more = filter-append is_covered standing (grant ∷ []) in
      by_cases (is_covered grant)
      (λ covered.
      let same = has-covered standing grant.grantor (option_of grant) covered in
      by_cases (has owners standing grant.grantor (option_of grant))
      (λ stands.
      let next : filter is_covered (standing ++ grant ∷ []) ≡ filter is_covered standing ++ grant ∷ [] = more ∙ rw covered refl in
      rw (covered, same, stands, covered)
      (ap (λ r. grant ∷ r) (ap (λ s. replayed owners s (filter is_covered grants)) (sym next) ∙ replayed-covered (standing ++ grant ∷ []) grants)))
      (λ falls. rw (covered, same, falls) (replayed-covered standing grants)))
      (λ other. by_cases (has owners standing grant.grantor (option_of grant))
      (λ stands.
      let next : filter is_covered (standing ++ grant ∷ []) ≡ filter is_covered standing = more ∙ rw other (append-nil (filter is_covered standing)) in
      rw (other, stands, other)
      (ap (λ s. replayed owners s (filter is_covered grants)) (sym next) ∙ replayed-covered (standing ++ grant ∷ []) grants))
      (λ falls. rw (other, falls) (replayed-covered standing grants)))

  -- a replay of covered grants is the covered part of the replay, so what bears its own replay bears it there
  pub stands-covered : (grants : List Grant) → replayed owners [] grants ≡ grants → replayed owners [] (filter is_covered grants) ≡ filter is_covered grants
  stands-covered grants stands = replayed-covered [] grants ∙ ap (filter is_covered) stands

  -- of the covered grants a revocation leaves those that it leaves of all
  pub left_by-covered : (revocation : Revocation) (grants : List Grant)
      → left_by owners revocation (filter is_covered grants) ≡ filter is_covered (left_by owners revocation grants)
  left_by-covered revocation grants =
      let unnamed : Grant → Bool = λ grant. not (names revocation grant) in
      ap (replayed owners []) (filter-swap unnamed is_covered grants) ∙ replayed-covered [] (filter unnamed grants)

  -- a revocation that names none of the covered grants leaves them all
  pub left_by-other : (revocation : Revocation) (grants : List Grant) → replayed owners [] grants ≡ grants
      → ((grant : Grant) → is_covered grant ≡ true → names revocation grant ≡ false)
      → filter is_covered (left_by owners revocation grants) ≡ filter is_covered grants
  left_by-other revocation grants stands other =
      sym (left_by-covered revocation grants) ∙ ap (replayed owners []) (unnamed grants) ∙ stands-covered grants stands
    where
      unnamed : (grants : List Grant) → filter (λ grant. not (names revocation grant)) (filter is_covered grants) ≡ filter is_covered grants
      unnamed [] = refl
      unnamed (grant ∷ grants) =
          by_cases (is_covered grant)
          (λ covered. rw (covered, other grant covered, unnamed grants) refl)
          (λ fails. rw fails (unnamed grants))

  -- where each grant of a place is covered, the place is among the covered grants if it is among all
  pub among-covered : (place : ℕ) (grants : List Grant) → All (λ grant. rank grant ≡ place → is_covered grant ≡ true) grants
      → is_among place (filter is_covered grants) ≡ is_among place grants
  among-covered place [] all = refl
  among-covered place (grant ∷ grants) all =
      let rest = among-covered place grants (All-tail (λ x. rank x ≡ place → is_covered x ≡ true) grant grants all) in
      by_cases (is_covered grant)
      (λ covered. rw (covered, rest) refl)
      (λ other. by_cases (rank grant == place)
      (λ same. contrary (is_covered grant) (All-head (λ x. rank x ≡ place → is_covered x ≡ true) grant grants all (eqb-true (rank grant) place same)) other)
      (λ differs. rw (other, differs) rest))
