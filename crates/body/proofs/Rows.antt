-- A map whose rows at the declared keys come from a list: what it holds, and how it changes.
use Rattle.std.proofs.Common.{◌≡◌, ℕ, suc, zero, ◌<◌, ℤ, pos, Bool, true, false, ◌&&◌, Option, None, List, [], ◌∷◌, length, map, take, set, get_or, refl, sym, ◌∙◌, ap, arith, eqb}
use mathlib.Core.Path.{fun_ext}
use Rattle.std.specs.Ordering.{int_eq}
use Rattle.std.proofs.lemmas.Bool.Decides.{nat_tests, Decides-int_eq}
use Rattle.model_base.specs.declared.statement.Access.{Access}
use Rattle.model_base.specs.Rows.{Rows, with_row}
use Rattle.model_base.specs.Body.{is_of}
use Rattle.body.specs.Shown.{with_rows}
use Rattle.body.specs.Work.{IsFirstAccess}
use Rattle.body.specs.Room.{same_key}
use Rattle.model_base.proofs.Replay.{by_cases}

pub same_key-true : (t r u s : ℕ) → same_key t r u s ≡ true → (t ≡ u) × (r ≡ s)
same_key-true t r u s e = (grind (arith, nat_tests), grind (arith, nat_tests))

pub same_key-own : (t r : ℕ) → same_key t r t r ≡ true
same_key-own t r = grind (arith, nat_tests)

pub same_key-of : (t r u s : ℕ) → t ≡ u → r ≡ s → same_key t r u s ≡ true
same_key-of t r u s e f = grind (arith, nat_tests)

-- a row that the map has anyway changes nothing
pub with_row-own : (rows : Rows) (t r : ℕ) (c : Option (List ℤ)) → c ≡ rows t r → with_row rows t r c ≡ rows
with_row-own rows t r c e = fun_ext (λ u. fun_ext (λ s. at u s))
  where
    at : (u s : ℕ) → with_row rows t r c u s ≡ rows u s
    at u s =
        by_cases (same_key t r u s)
        (λ same. let keys : (t ≡ u) × (r ≡ s) = same_key-true t r u s same in rw same (e ∙ ap (λ k. rows k r) keys.0 ∙ ap (λ k. rows u k) keys.1))
        (λ other. rw other refl)

pub with_row-twice : (rows : Rows) (t r : ℕ) (old c : Option (List ℤ)) → with_row (with_row rows t r old) t r c ≡ with_row rows t r c
with_row-twice rows t r old c = fun_ext (λ u. fun_ext (λ s. at u s))
  where
    at : (u s : ℕ) → with_row (with_row rows t r old) t r c u s ≡ with_row rows t r c u s
    at u s = by_cases (same_key t r u s) (λ same. rw same refl) (λ other. rw other refl)

pub with_row-comm : (rows : Rows) (t r t' r' : ℕ) (c c' : Option (List ℤ)) → same_key t' r' t r ≡ false → with_row (with_row rows t' r' c') t r c ≡ with_row (with_row rows t r c) t' r' c'
with_row-comm rows t r t' r' c c' differ = fun_ext (λ u. fun_ext (λ s. at u s))
  where
    at : (u s : ℕ) → with_row (with_row rows t' r' c') t r c u s ≡ with_row (with_row rows t r c) t' r' c' u s
    at u s =
        by_cases (same_key t r u s)
        (λ same. by_cases (same_key t' r' u s)
        (λ same'. let keys : (t ≡ u) × (r ≡ s) = same_key-true t r u s same in let keys' : (t' ≡ u) × (r' ≡ s) = same_key-true t' r' u s same' in let both : same_key t' r' t r ≡ true = same_key-of t' r' t r (keys'.0 ∙ sym keys.0) (keys'.1 ∙ sym keys.1) in let no : true ≡ false = sym both ∙ differ in cc)
        (λ other'. rw (same, other') refl))
        (λ other. by_cases (same_key t' r' u s) (λ same'. rw (other, same') refl) (λ other'. rw (other, other') refl))

pub is_of-true : (t : ℕ) (number : ℤ) (access : Access) → is_of t number access ≡ true → (access.key.table ≡ t) × (pos access.key.row ≡ number)
is_of-true t number access e =
    let both : (eqb access.key.table t ≡ true) × (int_eq (pos access.key.row) number ≡ true) = parts (eqb access.key.table t) (int_eq (pos access.key.row) number) e in
    (let h : eqb access.key.table t ≡ true = both.0 in grind (arith, nat_tests), (Decides-int_eq (pos access.key.row) number).0 both.1)
  where
    parts : (a b : Bool) → (a && b) ≡ true → (a ≡ true) × (b ≡ true)
    parts true b e = (refl, e)
    parts false b e = (e, absurd (no e))
      where
        no : false ≡ true → ⊥
        no f = cc

pub is_of-of : (t : ℕ) (number : ℤ) (access : Access) → access.key.table ≡ t → pos access.key.row ≡ number → is_of t number access ≡ true
is_of-of t number access e f =
    let first : eqb access.key.table t ≡ true = grind (arith, nat_tests) in
    let second : int_eq (pos access.key.row) number ≡ true = (Decides-int_eq (pos access.key.row) number).1 f in
    rw (first, second) refl

-- another access, before the first to a row, has another key
other_key : (t : ℕ) (number : ℤ) (access found : Access) → is_of t number access ≡ false → is_of t number found ≡ true → same_key access.key.table access.key.row t found.key.row ≡ false
other_key t number access found miss hit =
    by_cases (same_key access.key.table access.key.row t found.key.row)
    (λ same. let keys : (access.key.table ≡ t) × (access.key.row ≡ found.key.row) = same_key-true access.key.table access.key.row t found.key.row same in let facts : (found.key.table ≡ t) × (pos found.key.row ≡ number) = is_of-true t number found hit in let also : is_of t number access ≡ true = is_of-of t number access keys.0 (ap pos keys.1 ∙ facts.1) in let no : true ≡ false = sym also ∙ miss in cc)
    (λ other. other)

pub IsFirst-passes : (test : Access → Bool) (accesses : List Access) (place : ℕ) (found : Access) → IsFirstAccess test accesses place found → test found ≡ true
IsFirst-passes test [] place found first = absurd first
IsFirst-passes test (access ∷ accesses) zero found first = sym (ap test first.0) ∙ first.1
IsFirst-passes test (access ∷ accesses) (suc place) found first = IsFirst-passes test accesses place found first.1

module _ (t : ℕ) (number : ℤ) (rows : Rows) where
  -- the row of a declared key is the one at its access's place
  pub with_rows-at : (accesses : List Access) (contents : List (Option (List ℤ))) (place : ℕ) (found : Access) → IsFirstAccess (is_of t number) accesses place found → place < length contents → with_rows accesses contents rows t found.key.row ≡ get_or contents place None
  with_rows-at [] contents place found first within = absurd first
  with_rows-at (access ∷ accesses) [] place found first within = absurd (omega arith)
  with_rows-at (access ∷ accesses) (content ∷ contents) zero found first within =
      let keys : (access.key.table ≡ t) × (pos access.key.row ≡ number) = is_of-true t number access first.1 in
      let same : same_key access.key.table access.key.row t found.key.row ≡ true = same_key-of access.key.table access.key.row t found.key.row keys.0 (ap (λ (a : Access). a.key.row) first.0) in
      rw same refl
  with_rows-at (access ∷ accesses) (content ∷ contents) (suc place) found first within =
      let other : same_key access.key.table access.key.row t found.key.row ≡ false = other_key t number access found first.0 (IsFirst-passes (is_of t number) accesses place found first.1) in
      rw other (with_rows-at accesses contents place found first.1 (omega arith))

  -- another row at that place is another row at its key
  pub with_rows-set : (accesses : List Access) (contents : List (Option (List ℤ))) (place : ℕ) (found : Access) (content : Option (List ℤ)) → IsFirstAccess (is_of t number) accesses place found → place < length contents → with_rows accesses (set contents place content) rows ≡ with_row (with_rows accesses contents rows) t found.key.row content
  with_rows-set [] contents place found content first within = absurd first
  with_rows-set (access ∷ accesses) [] place found content first within = absurd (omega arith)
  with_rows-set (access ∷ accesses) (old ∷ contents) zero found content first within =
      let keys : (access.key.table ≡ t) × (pos access.key.row ≡ number) = is_of-true t number access first.1 in
      let rows' : Rows = with_rows accesses contents rows in
      sym (with_row-twice rows' access.key.table access.key.row old content)
      ∙ ap (λ k. with_row (with_row rows' access.key.table access.key.row old) k access.key.row content) keys.0
      ∙ ap (λ (a : Access). with_row (with_row rows' access.key.table access.key.row old) t a.key.row content) first.0
  with_rows-set (access ∷ accesses) (old ∷ contents) (suc place) found content first within =
      let other : same_key access.key.table access.key.row t found.key.row ≡ false = other_key t number access found first.0 (IsFirst-passes (is_of t number) accesses place found first.1) in
      ap (λ m. with_row m access.key.table access.key.row old) (with_rows-set accesses contents place found content first.1 (omega arith))
      ∙ sym (with_row-comm (with_rows accesses contents rows) t found.key.row access.key.table access.key.row content old other)

-- the rows that the map has anyway change nothing
pub with_rows-shown : (rows : Rows) (accesses : List Access) (contents : List (Option (List ℤ))) → take (length accesses) contents ≡ map (λ (access : Access). rows access.key.table access.key.row) accesses → with_rows accesses contents rows ≡ rows
with_rows-shown rows [] contents shown = refl
with_rows-shown rows (access ∷ accesses) [] shown = refl
with_rows-shown rows (access ∷ accesses) (content ∷ contents) shown =
    let head : content ≡ rows access.key.table access.key.row = cc in
    let tail : take (length accesses) contents ≡ map (λ (access : Access). rows access.key.table access.key.row) accesses = cc in
    ap (λ m. with_row m access.key.table access.key.row content) (with_rows-shown rows accesses contents tail)
    ∙ with_row-own rows access.key.table access.key.row content head
