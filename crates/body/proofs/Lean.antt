-- A store that had room only for rows that are there has so again when the rows of a window were written.
use Rattle.std.proofs.Common.{◌≡◌, ℕ, zero, suc, ◌<◌, ℤ, pos, Bool, Option, Some, None, List, [], ◌∷◌, length, get_or, refl, sym, ◌∙◌, ap, arith, cond, subst}
use Rattle.std.specs.Prelude.{IsSome}
use Rattle.std.specs.List.{find}
use Rattle.std.specs.Option.{is_some}
use Rattle.std.proofs.lemmas.List.{get_or_past}
use Rattle.std.proofs.lemmas.Option.{none-some}
use Rattle.model_base.specs.declared.statement.Access.{Access}
use Rattle.model_base.specs.Rows.{Rows}
use Rattle.model_base.specs.Body.{is_of}
use Rattle.body.specs.Laws.{IsOther}
use Rattle.body.specs.Room.{same_key, IsLean, IsLeanWhereAbsent, IsElsewhere, MakesRoomBelow}
use Rattle.body.specs.Shown.{with_rows}
use Rattle.body.specs.Work.{IsFirstAccess}
use Rattle.body.proofs.Rows.{is_of-true, with_rows-at, IsFirst-passes}
use Rattle.body.proofs.Frame.{apart, head_misses, keeps_others}
use Rattle.model_base.proofs.Replay.{by_cases}

-- an access that a search finds is at some place, and is the first there that passes
first_found : (test : Access → Bool) (accesses : List Access) (access : Access) → find test accesses ≡ Some access → (place : ℕ) × (place < length accesses) × (access ≡ get_or accesses place access) × IsFirstAccess test accesses place access
first_found test [] access some = cc
first_found test (first ∷ accesses) access some =
    by_cases (test first)
    (λ hit. let e : Some first ≡ Some access = sym (ap (λ b. cond b (Some first) (find test accesses)) hit) ∙ some in let same : access ≡ first = cc in (0, omega arith, same, (sym same, hit)))
    (λ miss. let rest : (place : ℕ) × (place < length accesses) × (access ≡ get_or accesses place access) × IsFirstAccess test accesses place access = first_found test accesses access (sym (ap (λ b. cond b (Some first) (find test accesses)) miss) ∙ some) in (suc rest.0, omega arith, rest.2, (miss, rest.3)))

-- a row to which no access is has another key than each access
elsewhere : (accesses : List Access) (t r : ℕ) → IsOther accesses t r → IsElsewhere (length accesses) accesses t r
elsewhere [] t r other place access below is = absurd (omega arith)
elsewhere (first ∷ accesses) t r other zero access below is =
    ap (λ (a : Access). same_key a.key.table a.key.row t r) is
    ∙ apart t r first (head_misses (is_of t (pos r)) first accesses other).0
elsewhere (first ∷ accesses) t r other (suc place) access below is =
    elsewhere accesses t r (head_misses (is_of t (pos r)) first accesses other).1 place access (omega arith) is

-- a row that a list has is at a place of the list
inside : (contents : List (Option (List ℤ))) (place : ℕ) (content : List ℤ) → get_or contents place None ≡ Some content → place < length contents
inside [] place content some = absurd (none-some content (sym (get_or_past [] place None (omega arith)) ∙ some))
inside (first ∷ contents) zero content some = omega arith
inside (first ∷ contents) (suc place) content some = let rest : place < length contents = inside contents place content some in omega arith

module _ (accesses : List Access) (contents : List (Option (List ℤ))) (HadRoom MadeRoom HasRoom : ℕ → ℕ → Type 0) (before after : Rows) (was_lean : IsLean HadRoom before) (made : MakesRoomBelow HadRoom MadeRoom (length accesses) accesses) (no_more : (t r : ℕ) → HasRoom t r → MadeRoom t r) (put : after ≡ with_rows accesses contents before) (released : IsLeanWhereAbsent HasRoom after (length accesses) accesses contents) where
  -- of the first access to a row the list has the row, which is put, or it has none, and room was given up
  put_or_released : (t r place : ℕ) (access : Access) → place < length accesses → access ≡ get_or accesses place access → IsFirstAccess (is_of t (pos r)) accesses place access → HasRoom access.key.table access.key.row → IsSome (after access.key.table access.key.row)
  put_or_released t r place access below is first room = by_content (get_or contents place None) refl
    where
      by_content : (content : Option (List ℤ)) → get_or contents place None ≡ content → IsSome (after access.key.table access.key.row)
      by_content None none = released place access below is none room
      by_content (Some content) some =
          let keys : (access.key.table ≡ t) × (pos access.key.row ≡ pos r) = is_of-true t (pos r) access (IsFirst-passes (is_of t (pos r)) accesses place access first) in
          let shown : with_rows accesses contents before t access.key.row ≡ get_or contents place None = with_rows-at t (pos r) before accesses contents place access first (inside contents place content some) in
          ap is_some (ap (λ (m : Rows). m access.key.table access.key.row) put ∙ ap (λ u. with_rows accesses contents before u access.key.row) keys.0 ∙ shown ∙ some)

  pub stays_lean : IsLean HasRoom after
  stays_lean t r room = by_found (find (is_of t (pos r)) accesses) refl
    where
      by_found : (found : Option Access) → find (is_of t (pos r)) accesses ≡ found → IsSome (after t r)
      by_found None none =
          let P : Option (List ℤ) → Type 0 = λ content. IsSome content in
          let kept : after t r ≡ before t r = ap (λ (m : Rows). m t r) put ∙ keeps_others accesses contents before t r none in
          subst P (sym kept) (was_lean t r (made t r (elsewhere accesses t r none) (no_more t r room)))
      by_found (Some access) some =
          let at : (place : ℕ) × (place < length accesses) × (access ≡ get_or accesses place access) × IsFirstAccess (is_of t (pos r)) accesses place access = first_found (is_of t (pos r)) accesses access some in
          let keys : (access.key.table ≡ t) × (pos access.key.row ≡ pos r) = is_of-true t (pos r) access (IsFirst-passes (is_of t (pos r)) accesses at.0 access at.3) in
          let rows : access.key.row ≡ r = cc in
          let P : ℕ → Type 0 = λ u. HasRoom u r in
          let Q : ℕ → Type 0 = λ s. HasRoom access.key.table s in
          let there : HasRoom access.key.table access.key.row = subst Q (sym rows) (subst P (sym keys.0) room) in
          let shown : IsSome (after access.key.table access.key.row) = put_or_released t r at.0 access at.1 at.2 at.3 there in
          let P' : ℕ → Type 0 = λ u. IsSome (after u r) in
          let Q' : ℕ → Type 0 = λ s. IsSome (after access.key.table s) in
          subst P' keys.0 (subst Q' rows shown)
