-- Lists with some of their grants left out, and that fewer grants never keep more in force.
use Rattle.std.proofs.Common.{◌≡◌, ℕ, not, Bool, true, List, [], ◌∷◌, ◌++◌, filter, sym, ◌∙◌, inl, inr}
use Rattle.std.specs.Prelude.{All}
use Rattle.std.specs.List.{list_any}
use Rattle.std.proofs.lemmas.Bool.{or_cases, or_left, or_right}
use Rattle.std.proofs.lemmas.List.Folds.{list_any-append}
use Rattle.std.proofs.lemmas.List.Elements.{All-cons, All-head, All-tail}
use Rattle.model_base.specs.declared.deed.Grant.{Grant}
use Rattle.model_base.specs.declared.deed.Need.{Need}
use Rattle.model_base.specs.declared.deed.Revocation.{Revocation}
use Rattle.model_base.specs.declared.deed.Deed.{Deed}
use Rattle.model_base.specs.declared.deed.Deed.TheVariants.{Granting, Revoking}
use Rattle.model_base.specs.Privileges.{owns, gives, has, option_of, names, revokes, erased, replayed, kept}
use Rattle.model_base.specs.Laws.{IsPart, none, left_out, stays}
use Rattle.model_base.proofs.Replay.{GivesNoMore, by_cases, both_more, one_more, same_grants, kept-revoke}

-- a list is a part of itself
pub part-same : (grants : List Grant) → IsPart grants grants
part-same [] = none
part-same (grant ∷ grants) = stays (part-same grants)

-- what passes a test is a part
pub part-filter : (test : Grant → Bool) (grants : List Grant) → IsPart (filter test grants) grants
part-filter test [] = none
part-filter test (grant ∷ grants) =
    by_cases (test grant) (λ passes. rw passes (stays (part-filter test grants))) (λ fails. rw fails (left_out (part-filter test grants)))

-- a part of a part is a part
pub part-part : {xs ys zs : List Grant} → IsPart xs ys → IsPart ys zs → IsPart xs zs
part-part p (left_out q) = left_out (part-part p q)
part-part (left_out p) (stays q) = left_out (part-part p q)
part-part (stays p) (stays q) = stays (part-part p q)
part-part none none = none

-- what holds of each grant holds of each of a part
pub part-all : (P : Grant → Type 0) {xs ys : List Grant} → IsPart xs ys → All P ys → All P xs
part-all P none all = all
part-all P (left_out {part} {grants} {grant} p) all = part-all P p (All-tail P grant grants all)
part-all P (stays {part} {grants} {grant} p) all = All-cons P grant part (All-head P grant grants all) (part-all P p (All-tail P grant grants all))

-- the beginning of a list is a part of it
pub part-beginning : (grants more : List Grant) → IsPart grants (grants ++ more)
part-beginning [] [] = none
part-beginning [] (grant ∷ more) = left_out (part-beginning [] more)
part-beginning (grant ∷ grants) more = stays (part-beginning grants more)

-- a test that one of a part passes, one of the whole passes
pub part-any : (test : Grant → Bool) {xs ys : List Grant} → IsPart xs ys → list_any test xs ≡ true → list_any test ys ≡ true
part-any test none found = found
part-any test (left_out {part} {grants} {grant} p) found = or_right (test grant) (list_any test grants) (part-any test p found)
part-any test (stays {part} {grants} {grant} p) found =
    elim (or_cases (test grant) (list_any test part) found) [
      | inl here ↦ or_left (test grant) (list_any test grants) here
      | inr later ↦ or_right (test grant) (list_any test grants) (part-any test p later)
    ]

module _ (owners : List ℕ) where
  -- what stands of the grants that are replayed is a part of them
  pub part-replayed : (standing grants : List Grant) → IsPart (replayed owners standing grants) grants
  part-replayed standing [] = none
  part-replayed standing (grant ∷ grants) =
      by_cases (has owners standing grant.grantor (option_of grant))
      (λ holds. rw holds (stays (part-replayed (standing ++ grant ∷ []) grants)))
      (λ falls. rw falls (left_out (part-replayed standing grants)))

  -- a revocation leaves a part of the grants in force
  pub part-kept_revoke : (deeds : List Deed) (revocation : Revocation) → IsPart (kept owners (deeds ++ Revoking revocation ∷ [])) (kept owners deeds)
  part-kept_revoke deeds revocation =
      let test : Grant → Bool = λ grant. not (names revocation grant) in
      rw (kept-revoke owners deeds revocation) (part-part (part-replayed [] (filter test (kept owners deeds))) (part-filter test (kept owners deeds)))

  has-part : (xs ys : List Grant) → IsPart xs ys → (user : ℕ) (need : Need) → has owners xs user need ≡ true → has owners ys user need ≡ true
  unfolding has
  has-part xs ys part user need held =
      elim (or_cases (owns owners user need.table) (list_any (λ grant. gives grant user need) xs) held) [
        | inl owned ↦ or_left (owns owners user need.table) (list_any (λ grant. gives grant user need) ys) owned
        | inr given ↦ or_right (owns owners user need.table) (list_any (λ grant. gives grant user need) ys) (part-any (λ grant. gives grant user need) part given)
      ]

  -- a part gives no more than the whole
  pub part-gives : {xs ys : List Grant} → IsPart xs ys → GivesNoMore owners xs ys
  part-gives {xs} {ys} part = record { within = has-part xs ys part }

  -- fewer grants, after standing grants that give no more, keep no grant more
  pub part-replayed_part : (standing wider : List Grant) {fewer more : List Grant} → GivesNoMore owners standing wider → IsPart fewer more
      → IsPart (replayed owners standing fewer) (replayed owners wider more)
  part-replayed_part standing wider weaker none = none
  part-replayed_part standing wider weaker (left_out {part} {grants} {grant} p) =
      by_cases (has owners wider grant.grantor (option_of grant))
      (λ holds. rw holds (left_out (part-replayed_part standing (wider ++ grant ∷ []) (one_more owners standing wider grant weaker) p)))
      (λ falls. rw falls (part-replayed_part standing wider weaker p))
  part-replayed_part standing wider weaker (stays {part} {grants} {grant} p) =
      by_cases (has owners standing grant.grantor (option_of grant))
      (λ holds. rw (holds, weaker.within grant.grantor (option_of grant) holds)
      (stays
      (part-replayed_part (standing ++ grant ∷ []) (wider ++ grant ∷ []) (both_more owners standing wider grant weaker) p)))
      (λ falls. by_cases (has owners wider grant.grantor (option_of grant))
      (λ holds. rw (falls, holds) (left_out (part-replayed_part standing (wider ++ grant ∷ []) (one_more owners standing wider grant weaker) p)))
      (λ none. rw (falls, none) (part-replayed_part standing wider weaker p)))

-- a grant left out of the deeds leaves it out of those that are not erased
pub part-erased : (past later : List Deed) (grant : Grant) → IsPart (erased (past ++ later)) (erased (past ++ Granting grant ∷ later))
part-erased [] later grant =
    by_cases (list_any (λ deed. revokes deed grant) later)
    (λ named. rw named (part-same (erased later)))
    (λ other. rw other (left_out (part-same (erased later))))
part-erased (Granting first ∷ past) later grant =
    let test : Deed → Bool = λ deed. revokes deed first in
    let same : list_any test (past ++ Granting grant ∷ later) ≡ list_any test (past ++ later)
    = list_any-append test past (Granting grant ∷ later) ∙ sym (list_any-append test past later) in
    by_cases (list_any test (past ++ later))
    (λ named. rw (same, named) (part-erased past later grant))
    (λ other. rw (same, other) (stays (part-erased past later grant)))
part-erased (Revoking revocation ∷ past) later grant = part-erased past later grant

-- so it brings none into force
pub part-kept_fewer : (owners : List ℕ) (past later : List Deed) (grant : Grant)
    → IsPart (kept owners (past ++ later)) (kept owners (past ++ Granting grant ∷ later))
part-kept_fewer owners past later grant = part-replayed_part owners [] [] (same_grants owners []) (part-erased past later grant)
