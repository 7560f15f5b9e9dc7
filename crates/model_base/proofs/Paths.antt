-- A need that is held has a path of grants in force, which leads to it from the table's owner.
use Rattle.std.proofs.Common.{◌≡◌, ℕ, ◌||◌, Bool, true, false, List, [], ◌∷◌, ◌++◌, refl, sym, ◌∙◌, ap, append_assoc}
use Rattle.std.specs.Prelude.{reverse}
use Rattle.std.specs.List.{list_any}
use Rattle.std.proofs.lemmas.Bool.{or_left, or_right, true≢false, false_from_ne_true}
use Rattle.std.proofs.lemmas.List.{append-nil, reverse-append, reverse-reverse}
use Rattle.std.proofs.lemmas.List.Folds.{list_any-append}
use Rattle.model_base.specs.declared.deed.Grant.{Grant}
use Rattle.model_base.specs.declared.deed.Need.{Need}
use Rattle.model_base.specs.declared.deed.Deed.{Deed}
use Rattle.model_base.specs.Privileges.{owns, gives, has, option_of, erased, replayed, kept, holds, IsProper}
use Rattle.model_base.specs.Laws.{IsPart, IsRising, none, left_out, stays}
use Rattle.model_base.specs.Paths.{path, path_back, LeadsFrom, LeadsTo}
use Rattle.model_base.proofs.Replay.{by_cases}
use Rattle.model_base.proofs.Parts.{part-same, part-gives}
use Rattle.model_base.proofs.Places.{rising-part, IsRising-kept}

-- the first item comes last
pub reverse-cons : {X : Type 0} (x : X) (xs : List X) → reverse (x ∷ xs) ≡ reverse xs ++ x ∷ []
reverse-cons x xs = reverse-append (x ∷ []) xs

-- and the last first
pub reverse-snoc : {X : Type 0} (xs : List X) (x : X) → reverse (xs ++ x ∷ []) ≡ x ∷ reverse xs
reverse-snoc xs x = reverse-append xs (x ∷ [])

or_swap : (a b : Bool) → (a || (b || false)) ≡ (b || a)
or_swap true true = refl
or_swap true false = refl
or_swap false true = refl
or_swap false false = refl

or_alone : (a : Bool) → (a || false) ≡ true → a ≡ true
or_alone true held = refl
or_alone false held = held

or_rest : (a b c : Bool) → (a || (b || c)) ≡ true → (a || c) ≡ false → b ≡ true
or_rest true b c held missing = absurd (true≢false missing)
or_rest false true c held missing = refl
or_rest false false c held missing = absurd (true≢false (sym held ∙ missing))

list_any-reverse : {X : Type 0} (test : X → Bool) (xs : List X) → list_any test (reverse xs) ≡ list_any test xs
list_any-reverse test [] = refl
list_any-reverse test (x ∷ xs) =
    ap (list_any test) (reverse-cons x xs) ∙ list_any-append test (reverse xs) (x ∷ [])
    ∙ ap (λ b. b || (test x || false)) (list_any-reverse test xs) ∙ or_swap (list_any test xs) (test x)

part-empty : (grants : List Grant) → IsPart [] grants
part-empty [] = none
part-empty (grant ∷ grants) = left_out (part-empty grants)

part-snoc : {part grants : List Grant} (grant : Grant) → IsPart part grants → IsPart (part ++ grant ∷ []) (grants ++ grant ∷ [])
part-snoc grant none = stays none
part-snoc grant (left_out p) = left_out (part-snoc grant p)
part-snoc grant (stays p) = stays (part-snoc grant p)

part-wider : {part grants : List Grant} (grant : Grant) → IsPart part grants → IsPart part (grants ++ grant ∷ [])
part-wider grant none = left_out none
part-wider grant (left_out p) = left_out (part-wider grant p)
part-wider grant (stays p) = stays (part-wider grant p)

part-end : (later earlier : List Grant) → IsPart earlier (later ++ earlier)
part-end [] earlier = part-same earlier
part-end (grant ∷ later) earlier = left_out (part-end later earlier)

-- the path by grants that are listed last first is a part of them
part-path_back : (owners : List ℕ) (grants : List Grant) (user : ℕ) (need : Need) → IsPart (path_back owners grants user need) (reverse grants)
part-path_back owners [] user need = none
part-path_back owners (grant ∷ earlier) user need =
    rw (reverse-cons grant earlier)
    (by_cases (has owners earlier user need)
    (λ held. rw held (part-wider grant (part-path_back owners earlier user need)))
    (λ missing. by_cases (gives grant user need)
    (λ given. rw (missing, given) (part-snoc grant (part-path_back owners earlier grant.grantor (option_of grant))))
    (λ other. rw (missing, other) (part-empty (reverse earlier ++ grant ∷ [])))))

module _ (owners : List ℕ) where
  -- so it is, listed in their order
  pub part-path : (grants : List Grant) (user : ℕ) (need : Need) → IsPart (path owners grants user need) grants
  part-path grants user need = rw reverse-reverse at (part-path_back owners (reverse grants) user need)

  -- it doesn't matter how the grants are listed
  pub has-reverse : (grants : List Grant) (user : ℕ) (need : Need) → has owners (reverse grants) user need ≡ has owners grants user need
  unfolding has
  has-reverse grants user need =
      ap (λ b. owns owners user need.table || b) (list_any-reverse (λ grant. gives grant user need) grants)

  -- each grant's grantor has the option by the earlier ones
  abbrev pub IsBorne : List Grant → Type 0
  IsBorne [] = Unit {0}
  IsBorne (grant ∷ earlier) = (has owners earlier grant.grantor (option_of grant) ≡ true) × IsBorne earlier

  borne-replayed : (standing grants : List Grant) → IsBorne (reverse standing) → IsBorne (reverse (standing ++ replayed owners standing grants))
  borne-replayed standing [] borne = rw append-nil borne
  borne-replayed standing (grant ∷ grants) borne =
      by_cases (has owners standing grant.grantor (option_of grant))
      (λ held.
      let one : IsBorne (reverse (standing ++ grant ∷ [])) = rw (reverse-snoc standing grant) (has-reverse standing grant.grantor (option_of grant) ∙ held, borne) in
      rw held (rw append_assoc at (borne-replayed (standing ++ grant ∷ []) grants one)))
      (λ falls. rw falls (borne-replayed standing grants borne))

  -- so it is with the grants in force
  pub borne-kept : (deeds : List Deed) → IsBorne (reverse (kept owners deeds))
  borne-kept deeds = borne-replayed [] (erased deeds) tt

  owns_from_none : (user : ℕ) (need : Need) → has owners [] user need ≡ true → owns owners user need.table ≡ true
  unfolding has
  owns_from_none user need held = or_alone (owns owners user need.table) held

  given_last : (grant : Grant) (earlier : List Grant) (user : ℕ) (need : Need) → has owners (grant ∷ earlier) user need ≡ true
      → has owners earlier user need ≡ false → gives grant user need ≡ true
  unfolding has
  given_last grant earlier user need held missing =
      or_rest (owns owners user need.table) (gives grant user need) (list_any (λ x. gives x user need) earlier) held missing

  leads-from_snoc : (first : Grant) (grants : List Grant) (grant : Grant) (user : ℕ) (need : Need)
      → LeadsFrom first grants grant.grantor (option_of grant) → gives grant user need ≡ true → LeadsFrom first (grants ++ grant ∷ []) user need
  leads-from_snoc first [] grant user need leads given = (leads, given)
  leads-from_snoc first (next ∷ grants) grant user need leads given = (leads.0, leads-from_snoc next grants grant user need leads.1 given)

  -- one grant more leads on
  leads-snoc : (grants : List Grant) (grant : Grant) (user : ℕ) (need : Need)
      → LeadsTo owners grants grant.grantor (option_of grant) → gives grant user need ≡ true → LeadsTo owners (grants ++ grant ∷ []) user need
  leads-snoc [] grant user need leads given = (leads, given)
  leads-snoc (first ∷ grants) grant user need leads given = (leads.0, leads-from_snoc first grants grant user need leads.1 given)

  leads-back : (grants : List Grant) (user : ℕ) (need : Need) → IsBorne grants → has owners grants user need ≡ true
      → LeadsTo owners (path_back owners grants user need) user need
  leads-back [] user need borne held = owns_from_none user need held
  leads-back (grant ∷ earlier) user need borne held =
      by_cases (has owners earlier user need)
      (λ still. rw still (leads-back earlier user need borne.1 still))
      (λ missing.
      let given = given_last grant earlier user need held missing in
      rw (missing, given)
      (leads-snoc (path_back owners earlier grant.grantor (option_of grant)) grant user need
      (leads-back earlier grant.grantor (option_of grant) borne.1 borne.0) given))

  -- a need that is held has a path, which leads to it
  pub leads-path : (deeds : List Deed) (user : ℕ) (need : Need) → holds owners deeds user need ≡ true
      → LeadsTo owners (path owners (kept owners deeds) user need) user need
  leads-path deeds user need held =
      leads-back (reverse (kept owners deeds)) user need (borne-kept deeds) (has-reverse (kept owners deeds) user need ∙ held)

  -- along which the places rise
  pub rising-path : (deeds : List Deed) (user : ℕ) (need : Need) → IsProper owners deeds → IsRising (path owners (kept owners deeds) user need)
  rising-path deeds user need proper = rising-part (part-path (kept owners deeds) user need) (IsRising-kept owners deeds proper)

  -- later grants change nothing in the path of a need that the earlier ones give
  path_back-later : (later earlier : List Grant) (user : ℕ) (need : Need) → has owners earlier user need ≡ true
      → path_back owners (later ++ earlier) user need ≡ path_back owners earlier user need
  path_back-later [] earlier user need held = refl
  path_back-later (grant ∷ later) earlier user need held =
      rw ((part-gives owners (part-end later earlier)).within user need held) (path_back-later later earlier user need held)

  has_one : (grant : Grant) (earlier : List Grant) (user : ℕ) (need : Need) → gives grant user need ≡ true → has owners (grant ∷ earlier) user need ≡ true
  unfolding has
  has_one grant earlier user need given =
      let others : Bool = list_any (λ x. gives x user need) earlier in
      or_right (owns owners user need.table) (gives grant user need || others) (or_left (gives grant user need) others given)

  -- the path ends with the earliest grant that gives the need, after the path of its grantor's option
  pub path-earliest : (before later : List Grant) (grant : Grant) (user : ℕ) (need : Need)
      → has owners before user need ≡ false → gives grant user need ≡ true
      → path owners (before ++ grant ∷ later) user need ≡ path owners before grant.grantor (option_of grant) ++ grant ∷ []
  path-earliest before later grant user need missing given =
      let back : reverse (before ++ grant ∷ later) ≡ reverse later ++ grant ∷ reverse before
      = reverse-append before (grant ∷ later) ∙ ap (λ r. r ++ reverse before) (reverse-cons grant later)
      ∙ append_assoc (reverse later) (grant ∷ []) (reverse before) in
      ap (λ (grants : List Grant). path_back owners grants user need) back
      ∙ path_back-later (reverse later) (grant ∷ reverse before) user need (has_one grant (reverse before) user need given)
      ∙ rw (has-reverse before user need, missing, given) refl

  -- where the need isn't held there is no path
  pub path-none : (grants : List Grant) (user : ℕ) (need : Need) → has owners grants user need ≡ false → path owners grants user need ≡ []
  path-none grants user need missing = by_grants (reverse grants) (has-reverse grants user need ∙ missing)
    where
      by_grants : (back : List Grant) → has owners back user need ≡ false → path_back owners back user need ≡ []
      by_grants [] out = refl
      by_grants (grant ∷ earlier) out =
          let fewer : has owners earlier user need ≡ false
          = false_from_ne_true (has owners earlier user need)
          (λ held. true≢false (sym ((part-gives owners (left_out (part-same earlier))).within user need held) ∙ out)) in
          let other : gives grant user need ≡ false
          = false_from_ne_true (gives grant user need) (λ given. true≢false (sym (has_one grant earlier user need given) ∙ out)) in
          rw (fewer, other) refl

  has-owner : (grants : List Grant) (user : ℕ) (need : Need) → owns owners user need.table ≡ true → has owners grants user need ≡ true
  unfolding has
  has-owner grants user need owned = or_left (owns owners user need.table) (list_any (λ grant. gives grant user need) grants) owned

  -- the table's owner needs no grant
  pub path-owner : (grants : List Grant) (user : ℕ) (need : Need) → owns owners user need.table ≡ true → path owners grants user need ≡ []
  path-owner grants user need owned = by_grants (reverse grants)
    where
      by_grants : (back : List Grant) → path_back owners back user need ≡ []
      by_grants [] = refl
      by_grants (grant ∷ earlier) = rw (has-owner earlier user need owned) (by_grants earlier)
