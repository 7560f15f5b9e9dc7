-- The lines of a digraph, one after another.
use Rattle.std.proofs.Common.{◌≡◌, ◌∷◌, ◌++◌, ℕ, ◌+◌, ◌<◌, Bool, List, [], filter, length, take, get_or, refl, sym, ◌∙◌, ap, if◌then◌else◌, arith, append_assoc}
use Rattle.std.specs.List.{enumerate_from, flat_map}
use Rattle.std.proofs.lemmas.Grind.{flat_map-append}
use Rattle.std.proofs.lemmas.List.{append-nil, length-take-le, take_more}
use Rattle.std.proofs.lemmas.List.Elements.{filter-append}
use Rattle.std.specs.Prelude.{nat_lt}
use Rattle.grants_base.specs.declared.entries.Creation.{Creation}
use Rattle.audit_text.specs.Drawn.{is_created_below, tables_drawn}
use Rattle.model_base.proofs.Replay.{by_cases}

-- four pieces, each after the one before
pub in_four : (start head tables grants foot : List ℕ) {first second third last : List ℕ} → first ≡ start ++ head → second ≡ first ++ tables
    → third ≡ second ++ grants → last ≡ third ++ foot → last ≡ start ++ (((head ++ tables) ++ grants) ++ foot)
in_four start head tables grants foot {first} {second} {third} {last} one two three four =
    let behind_two : second ≡ start ++ (head ++ tables) =
    two ∙ ap (λ (items : List ℕ). items ++ tables) one ∙ append_assoc start head tables in
    let behind_three : third ≡ start ++ ((head ++ tables) ++ grants) =
    three ∙ ap (λ (items : List ℕ). items ++ grants) behind_two ∙ append_assoc start (head ++ tables) grants in
    four ∙ ap (λ (items : List ℕ). items ++ foot) behind_three ∙ append_assoc start ((head ++ tables) ++ grants) foot

-- an item is spelled if it passes
spelled-one : {X : Type 0} (spell : X → List ℕ) (test : X → Bool) (item : X)
    → flat_map spell (filter test (item ∷ [])) ≡ (if test item then spell item else [])
spelled-one spell test item = by_cases (test item) (λ passes. rw passes (append-nil (spell item))) (λ fails. rw fails refl)

-- one more item is spelled after the others if it passes
pub spelled-push : {X : Type 0} (spell : X → List ℕ) (test : X → Bool) (items : List X) (item : X)
    → flat_map spell (filter test (items ++ item ∷ [])) ≡ flat_map spell (filter test items) ++ (if test item then spell item else [])
spelled-push spell test items item =
    ap (flat_map spell) (filter-append test items (item ∷ []))
    ∙ flat_map-append spell (filter test items) (filter test (item ∷ []))
    ∙ ap (λ (last : List ℕ). flat_map spell (filter test items) ++ last) (spelled-one spell test item)

-- one more item has the next number
pub numbered-push : {X : Type 0} (first : ℕ) (items : List X) (item : X)
    → enumerate_from first (items ++ item ∷ []) ≡ enumerate_from first items ++ (first + length items, item) ∷ []
numbered-push {X} first [] item = ap (λ (number : ℕ). let numbered : ℕ × X = (number, item) in numbered ∷ []) (omega arith)
numbered-push {X} first (other ∷ items) item =
    let rest = numbered-push (first + 1) items item in
    let number : first + 1 + length items ≡ first + length (other ∷ items) = omega arith in
    ap (λ (numbered : List (ℕ × X)). (first, other) ∷ numbered) (rw number at rest)

-- one more table has its line if it was created below the place
pub tables-more : (spell : ℕ × Creation → List ℕ) (place : ℕ) (tables : List Creation) (count : ℕ) (creation : Creation) (start before after : List ℕ)
    → count < length tables → creation ≡ get_or tables count creation
    → before ≡ start ++ flat_map spell (tables_drawn place (take count tables))
    → after ≡ before ++ (if nat_lt creation.place place then spell (count, creation) else [])
    → after ≡ start ++ flat_map spell (tables_drawn place (take (count + 1) tables))
tables-more spell place tables count creation start before after within there so_far put =
    let past = take count tables in
    let last : List ℕ = if nat_lt creation.place place then spell (count, creation) else [] in
    let taken : take (count + 1) tables ≡ past ++ creation ∷ [] =
    take_more tables count creation within ∙ ap (λ (next : Creation). past ++ next ∷ []) (sym there) in
    let long : length past ≡ count = length-take-le count tables (omega (arith, within)) in
    let number : 0 + length past ≡ count = omega (arith, long) in
    let numbered : enumerate_from 0 (past ++ creation ∷ []) ≡ enumerate_from 0 past ++ (count, creation) ∷ [] =
    numbered-push 0 past creation ∙ ap (λ (n : ℕ). let one : ℕ × Creation = (n, creation) in enumerate_from 0 past ++ one ∷ []) number in
    let lines : flat_map spell (tables_drawn place (take (count + 1) tables)) ≡ flat_map spell (tables_drawn place past) ++ last =
    ap (λ (all : List Creation). flat_map spell (tables_drawn place all)) taken
    ∙ ap (λ (all : List (ℕ × Creation)). flat_map spell (filter (is_created_below place) all)) numbered
    ∙ spelled-push spell (is_created_below place) (enumerate_from 0 past) (count, creation) in
    put ∙ ap (λ (items : List ℕ). items ++ last) so_far
    ∙ append_assoc start (flat_map spell (tables_drawn place past)) last
    ∙ ap (λ (items : List ℕ). start ++ items) (sym lines)

-- one more line is spelled after the others
pub spelled-more : {X : Type 0} (spell : X → List ℕ) (lines : List X) (index : ℕ) (line : X) (start before after : List ℕ)
    → index < length lines → line ≡ get_or lines index line
    → before ≡ start ++ flat_map spell (take index lines) → after ≡ before ++ spell line
    → after ≡ start ++ flat_map spell (take (index + 1) lines)
spelled-more spell lines index line start before after within there so_far put =
    let past = take index lines in
    let text : flat_map spell (take (index + 1) lines) ≡ flat_map spell past ++ spell line =
    ap (flat_map spell) (take_more lines index line within ∙ ap (λ next. past ++ next ∷ []) (sym there))
    ∙ flat_map-append spell past (line ∷ [])
    ∙ ap (λ (last : List ℕ). flat_map spell past ++ last) (append-nil (spell line)) in
    put ∙ ap (λ (items : List ℕ). items ++ spell line) so_far
    ∙ append_assoc start (flat_map spell past) (spell line)
    ∙ ap (λ (items : List ℕ). start ++ items) (sym text)
