-- A step that touches a declared row touches the one at the access's place.
use Rattle.std.proofs.Common.{◌≡◌, ℕ, suc, zero, ◌+◌, ◌<◌, ℤ, Bool, true, false, Option, Some, None, List, [], ◌∷◌, length, get_or, set, refl, sym, ◌∙◌, ap, arith, cond}
use Rattle.std.specs.List.{find, position, position_from}
use Rattle.std.proofs.Common.{subst}
use Rattle.std.proofs.lemmas.List.Quantifiers.{position-Some}
use Rattle.std.proofs.lemmas.Iterator.Adapters.{position_from-zero}
use Rattle.model_base.specs.declared.deed.Kind.{Kind}
use Rattle.model_base.specs.declared.statement.Access.{Access}
use Rattle.model_base.specs.Rows.{Rows, with_row}
use Rattle.model_base.specs.Privileges.{has_kind}
use Rattle.model_base.specs.Body.{Machine, Effect, goes_on, is_undeclared, declared, is_of, touch_declared}
use Rattle.body.specs.Shown.{with_rows}
use Rattle.body.specs.Work.{IsFirstAccess, IsPlace}
use Rattle.body.proofs.Rows.{with_rows-at, with_rows-set}
use Rattle.model_base.proofs.Replay.{by_cases}

pub find_first : (test : Access → Bool) (accesses : List Access) (place : ℕ) (found : Access) → IsFirstAccess test accesses place found → find test accesses ≡ Some found
find_first test [] place found first = absurd first
find_first test (access ∷ accesses) zero found first = rw first.1 (ap Some first.0)
find_first test (access ∷ accesses) (suc place) found first = rw first.0 (find_first test accesses place found first.1)

pub first_at : (test : Access → Bool) (accesses : List Access) (place : ℕ) (d : Access) → place < length accesses → test (get_or accesses place d) ≡ true → ((k : ℕ) → k < place → test (get_or accesses k d) ≡ false) → IsFirstAccess test accesses place (get_or accesses place d)
first_at test [] place d within hit before = absurd (omega arith)
first_at test (access ∷ accesses) zero d within hit before = (refl, hit)
first_at test (access ∷ accesses) (suc place) d within hit before =
    (before 0 (omega arith), first_at test accesses place d (omega arith) hit (λ k below. before (suc k) (omega arith)))

pub find_none : (test : Access → Bool) (i : ℕ) (accesses : List Access) → position_from test i accesses ≡ None → find test accesses ≡ None
find_none test i [] none = refl
find_none test i (access ∷ accesses) none =
    by_cases (test access)
    (λ hit. let e : Some i ≡ None = sym (ap (λ b. cond b (Some i) (position_from test (i + 1) accesses)) hit) ∙ none in cc)
    (λ miss. rw miss (find_none test (i + 1) accesses (sym (ap (λ b. cond b (Some i) (position_from test (i + 1) accesses)) miss) ∙ none)))

module _ (rows : Rows) (contents : List (Option (List ℤ))) (registers outputs : List ℤ) (accesses : List Access) (kind : Kind) (t : ℕ) (number : ℤ) (effect : ℕ → Option (List ℤ) → Effect) where
  abbrev machine : Machine
  machine = record { rows = with_rows accesses contents rows; registers = registers; outputs = outputs }

  pub touch_none : declared accesses kind t number ≡ None → touch_declared machine t (declared accesses kind t number) effect ≡ is_undeclared
  touch_none none = rw none refl

  pub touch_place : (place : ℕ) (found : Access) → declared accesses kind t number ≡ Some found → IsFirstAccess (is_of t number) accesses place found → place < length contents → touch_declared machine t (declared accesses kind t number) effect ≡ effect found.key.row (get_or contents place None)
  touch_place place found some first within =
      rw some (ap (effect found.key.row) (with_rows-at t number rows accesses contents place found first within))

pub place_found : (accesses : List Access) (kind : Kind) (t : ℕ) (number : ℤ) (place : ℕ) (found : Access) → position (is_of t number) accesses ≡ Some place → found ≡ get_or accesses place found → has_kind found.kinds kind ≡ true → IsPlace accesses kind t number (Some place)
place_found accesses kind t number place found at is kept =
    let facts : (place < length accesses) × (is_of t number (get_or accesses place found) ≡ true) × ((k : ℕ) → k < place → is_of t number (get_or accesses k found) ≡ false) = position-Some (is_of t number) accesses place found at in
    let there : IsFirstAccess (is_of t number) accesses place (get_or accesses place found) = first_at (is_of t number) accesses place found facts.0 facts.1 facts.2 in
    let P : Access → Type 0 = IsFirstAccess (is_of t number) accesses place in
    let first : IsFirstAccess (is_of t number) accesses place found = subst P (sym is) there in
    (found, (rw (find_first (is_of t number) accesses place found first, kept) refl, first))

pub place_unkind : (accesses : List Access) (kind : Kind) (t : ℕ) (number : ℤ) (place : ℕ) (found : Access) → position (is_of t number) accesses ≡ Some place → found ≡ get_or accesses place found → has_kind found.kinds kind ≡ false → declared accesses kind t number ≡ None
place_unkind accesses kind t number place found at is missed =
    let facts : (place < length accesses) × (is_of t number (get_or accesses place found) ≡ true) × ((k : ℕ) → k < place → is_of t number (get_or accesses k found) ≡ false) = position-Some (is_of t number) accesses place found at in
    let there : IsFirstAccess (is_of t number) accesses place (get_or accesses place found) = first_at (is_of t number) accesses place found facts.0 facts.1 facts.2 in
    let P : Access → Type 0 = IsFirstAccess (is_of t number) accesses place in
    let first : IsFirstAccess (is_of t number) accesses place found = subst P (sym is) there in
    rw (find_first (is_of t number) accesses place found first, missed) refl

pub place_none : (accesses : List Access) (kind : Kind) (t : ℕ) (number : ℤ) → position (is_of t number) accesses ≡ None → declared accesses kind t number ≡ None
place_none accesses kind t number at =
    rw (find_none (is_of t number) 0 accesses (sym (position_from-zero (is_of t number) accesses) ∙ at)) refl

module _ (rows : Rows) (contents : List (Option (List ℤ))) (registers outputs : List ℤ) (accesses : List Access) (kind : Kind) (t : ℕ) (number : ℤ) where
  -- a step that reads a row
  pub touch_read : (effect : Option (List ℤ) → Effect) (place : ℕ) (content : Option (List ℤ)) → IsPlace accesses kind t number (Some place) → place < length contents → content ≡ get_or contents place None → touch_declared (machine rows contents registers outputs accesses kind t number (λ _ c. effect c)) t (declared accesses kind t number) (λ _ c. effect c) ≡ effect content
  touch_read effect place content there within at =
      touch_place rows contents registers outputs accesses kind t number (λ _ c. effect c) place there.0 there.1.0 there.1.1 within ∙ ap effect (sym at)

  -- a step that changes a row
  pub touch_write : (effect : ℕ → Option (List ℤ) → Effect) (place : ℕ) (content new : Option (List ℤ)) (contents' : List (Option (List ℤ))) (outputs' : List ℤ) → IsPlace accesses kind t number (Some place) → place < length contents → content ≡ get_or contents place None → ((row : ℕ) → effect row content ≡ goes_on (record { rows = with_row (with_rows accesses contents rows) t row new; registers = registers; outputs = outputs }) 0) → contents' ≡ set contents place new → outputs' ≡ outputs → goes_on (record { rows = with_rows accesses contents' rows; registers = registers; outputs = outputs' }) 0 ≡ touch_declared (machine rows contents registers outputs accesses kind t number effect) t (declared accesses kind t number) effect
  touch_write effect place content new contents' outputs' there within at does set_is same =
      ap (λ xs. goes_on (record { rows = with_rows accesses xs rows; registers = registers; outputs = outputs' }) 0) set_is
      ∙ ap (λ o. goes_on (record { rows = with_rows accesses (set contents place new) rows; registers = registers; outputs = o }) 0) same
      ∙ ap (λ (m : Rows). goes_on (record { rows = m; registers = registers; outputs = outputs }) 0) (with_rows-set t number rows accesses contents place there.0 new there.1.1 within)
      ∙ sym (does there.0.key.row)
      ∙ ap (effect there.0.key.row) at
      ∙ sym (touch_place rows contents registers outputs accesses kind t number effect place there.0 there.1.0 there.1.1 within)

  -- a step that ends in the same way whichever row it is
  pub touch_any : (effect : ℕ → Option (List ℤ) → Effect) (place : ℕ) (content : Option (List ℤ)) (end : Effect) → IsPlace accesses kind t number (Some place) → place < length contents → content ≡ get_or contents place None → ((row : ℕ) → effect row content ≡ end) → touch_declared (machine rows contents registers outputs accesses kind t number effect) t (declared accesses kind t number) effect ≡ end
  touch_any effect place content end there within at does =
      touch_place rows contents registers outputs accesses kind t number effect place there.0 there.1.0 there.1.1 within ∙ ap (effect there.0.key.row) (sym at) ∙ does there.0.key.row
