-- Laws of replaying grants: what one more deed makes of the grants in force.
use Rattle.std.proofs.Common.{◌≡◌, ℕ, ◌||◌, not, Bool, true, false, List, [], ◌∷◌, ◌++◌, filter, refl, sym, ◌∙◌, ap, append_assoc, arith, inl, inr}
use Rattle.std.specs.List.{list_any}
use Rattle.std.proofs.lemmas.Bool.{cases_Bool, true≢false}
use Rattle.std.proofs.lemmas.List.{append-nil}
use Rattle.std.proofs.lemmas.List.Folds.{list_any-append}
use Rattle.model_base.specs.declared.deed.Grant.{Grant}
use Rattle.model_base.specs.declared.deed.Revocation.{Revocation}
use Rattle.model_base.specs.declared.deed.Need.{Need}
use Rattle.model_base.specs.declared.deed.Deed.{Deed}
use Rattle.model_base.specs.declared.deed.Deed.TheVariants.{Granting, Revoking}
use Rattle.model_base.specs.Privileges.{owns, gives, has, option_of, names, revokes, erased, replayed, kept}

-- whatever the first grants give, the second give too
pub record GivesNoMore (owners : List ℕ) (fewer more : List Grant) : Type 0 where
  pub within : (user : ℕ) (need : Need) → has owners fewer user need ≡ true → has owners more user need ≡ true

-- cases of a test
pub by_cases : {G : Type 0} (test : Bool) → (test ≡ true → G) → (test ≡ false → G) → G
by_cases test passes fails = elim (cases_Bool test) [ inl e ↦ passes e | inr e ↦ fails e ]

or_snoc : (a b c : Bool) → (a || (b || (c || false))) ≡ ((a || b) || c)
or_snoc true b c = refl
or_snoc false true c = refl
or_snoc false false true = refl
or_snoc false false false = refl

or_false : (a : Bool) → (a || false) ≡ a
or_false true = refl
or_false false = refl

-- the tests of later deeds see nothing in a grant
pub revokes-snoc_grant : (deeds : List Deed) (grant first : Grant)
    → list_any (λ deed. revokes deed first) (deeds ++ Granting grant ∷ []) ≡ list_any (λ deed. revokes deed first) deeds
revokes-snoc_grant deeds grant first =
    let test : Deed → Bool = λ deed. revokes deed first in
    list_any-append test deeds (Granting grant ∷ []) ∙ or_false (list_any test deeds)

-- a grant appended to the others is not erased
pub erased-grant : (deeds : List Deed) (grant : Grant) → erased (deeds ++ Granting grant ∷ []) ≡ erased deeds ++ grant ∷ []
erased-grant [] grant = refl
erased-grant (Granting first ∷ deeds) grant =
    let same = revokes-snoc_grant deeds grant first in
    by_cases (list_any (λ deed. revokes deed first) deeds)
    (λ found. rw (same, found) (erased-grant deeds grant))
    (λ none. rw (same, none) (ap (λ r. first ∷ r) (erased-grant deeds grant)))
erased-grant (Revoking first ∷ deeds) grant = erased-grant deeds grant

-- a revocation appended to the others erases those that it names
pub erased-revoke : (deeds : List Deed) (revocation : Revocation)
    → erased (deeds ++ Revoking revocation ∷ []) ≡ filter (λ grant. not (names revocation grant)) (erased deeds)
erased-revoke [] revocation = refl
erased-revoke (Granting first ∷ deeds) revocation =
    let test : Deed → Bool = λ deed. revokes deed first in
    let both : list_any test (deeds ++ Revoking revocation ∷ []) ≡ (list_any test deeds || names revocation first)
    = list_any-append test deeds (Revoking revocation ∷ []) ∙ ap (λ b. list_any test deeds || b) (or_false (names revocation first)) in
    by_cases (list_any test deeds)
    (λ found. rw (both, found) (erased-revoke deeds revocation))
    (λ none. by_cases (names revocation first)
    (λ named. rw (both, none, named) (erased-revoke deeds revocation))
    (λ other. rw (both, none, other) (ap (λ r. first ∷ r) (erased-revoke deeds revocation))))
erased-revoke (Revoking first ∷ deeds) revocation = erased-revoke deeds revocation

module _ (owners : List ℕ) where
  -- a list gives no more than itself
  pub same_grants : (grants : List Grant) → GivesNoMore owners grants grants
  same_grants grants = record { within = λ user need held. held }

  -- one more grant gives what it gives besides
  pub has-snoc : (grants : List Grant) (grant : Grant) (user : ℕ) (need : Need)
      → has owners (grants ++ grant ∷ []) user need ≡ (has owners grants user need || gives grant user need)
  unfolding has
  has-snoc grants grant user need =
      rw (list_any-append (λ x. gives x user need) grants (grant ∷ []))
      (or_snoc (owns owners user need.table) (list_any (λ x. gives x user need) grants) (gives grant user need))

  -- what gives no more still gives no more after one grant after both
  pub both_more : (fewer more : List Grant) (grant : Grant) → GivesNoMore owners fewer more
      → GivesNoMore owners (fewer ++ grant ∷ []) (more ++ grant ∷ [])
  both_more fewer more grant weaker = record {
    within = λ user need held. rw (has-snoc more grant user need) (grind (arith, weaker.within user need, simp has-snoc at held));
  }

  -- and after one after the second
  pub one_more : (fewer more : List Grant) (grant : Grant) → GivesNoMore owners fewer more → GivesNoMore owners fewer (more ++ grant ∷ [])
  one_more fewer more grant weaker = record {
    within = λ user need held. rw (has-snoc more grant user need) (grind (arith, weaker.within user need));
  }

  -- the later grants are replayed after those of the first that stand
  pub replayed-append : (standing first later : List Grant)
      → replayed owners standing (first ++ later) ≡ replayed owners standing first ++ replayed owners (standing ++ replayed owners standing first) later
  replayed-append standing [] later = rw append-nil refl
  replayed-append standing (grant ∷ first) later =
      by_cases (has owners standing grant.grantor (option_of grant))
      (λ e. rw (e, replayed-append (standing ++ grant ∷ []) first later) (simp append_assoc))
      (λ e. rw (e, replayed-append standing first later) refl)

  -- what falls in the whole replay falls in the replay of a part, so it can be left out before
  pub replayed-filter : (test : Grant → Bool) (fewer more grants : List Grant) → GivesNoMore owners fewer more
      → replayed owners fewer (filter test grants) ≡ replayed owners fewer (filter test (replayed owners more grants))
  replayed-filter test fewer more [] weaker = refl
  replayed-filter test fewer more (grant ∷ grants) weaker =
      by_cases (test grant)
      (λ passes. by_cases (has owners more grant.grantor (option_of grant))
      (λ stands. by_cases (has owners fewer grant.grantor (option_of grant))
      (λ held. let ih = replayed-filter test (fewer ++ grant ∷ []) (more ++ grant ∷ []) grants (both_more fewer more grant weaker) in
      rw (stands, passes, held) (ap (λ r. grant ∷ r) ih))
      (λ missing. let ih = replayed-filter test fewer (more ++ grant ∷ []) grants (one_more fewer more grant weaker) in rw (stands, passes, missing) ih))
      (λ falls. by_cases (has owners fewer grant.grantor (option_of grant))
      (λ held. absurd (true≢false (sym (weaker.within grant.grantor (option_of grant) held) ∙ falls)))
      (λ missing. let ih = replayed-filter test fewer more grants weaker in rw (falls, passes, missing) ih)))
      (λ fails. by_cases (has owners more grant.grantor (option_of grant))
      (λ stands. let ih = replayed-filter test fewer (more ++ grant ∷ []) grants (one_more fewer more grant weaker) in rw (stands, fails) ih)
      (λ falls. let ih = replayed-filter test fewer more grants weaker in rw (falls, fails) ih))

  -- a grant whose grantor has the option joins the grants in force
  pub kept-grant : (deeds : List Deed) (grant : Grant) → has owners (kept owners deeds) grant.grantor (option_of grant) ≡ true
      → kept owners (deeds ++ Granting grant ∷ []) ≡ kept owners deeds ++ grant ∷ []
  kept-grant deeds grant held =
      rw (erased-grant deeds grant, replayed-append [] (erased deeds) (grant ∷ []), held) refl

  -- a grant whose grantor lacks it changes nothing
  pub kept-refused : (deeds : List Deed) (grant : Grant) → has owners (kept owners deeds) grant.grantor (option_of grant) ≡ false
      → kept owners (deeds ++ Granting grant ∷ []) ≡ kept owners deeds
  kept-refused deeds grant missing =
      rw (erased-grant deeds grant, replayed-append [] (erased deeds) (grant ∷ []), missing) (append-nil (kept owners deeds))

  -- a revocation replays the grants in force without those that it names
  pub kept-revoke : (deeds : List Deed) (revocation : Revocation)
      → kept owners (deeds ++ Revoking revocation ∷ []) ≡ replayed owners [] (filter (λ grant. not (names revocation grant)) (kept owners deeds))
  kept-revoke deeds revocation =
      rw (erased-revoke deeds revocation) (replayed-filter (λ grant. not (names revocation grant)) [] [] (erased deeds) (same_grants []))

  filter-all : (grants : List Grant) → filter (λ _. true) grants ≡ grants
  filter-all [] = refl
  filter-all (grant ∷ grants) = ap (λ r. grant ∷ r) (filter-all grants)

  -- the grants in force bear their own replay
  pub kept-replayed : (deeds : List Deed) → replayed owners [] (kept owners deeds) ≡ kept owners deeds
  kept-replayed deeds =
      let whole = replayed-filter (λ _. true) [] [] (erased deeds) (same_grants []) in
      sym (ap (replayed owners []) (sym (filter-all (erased deeds))) ∙ whole ∙ ap (replayed owners []) (filter-all (kept owners deeds)))
