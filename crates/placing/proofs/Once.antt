-- The tables of a statement, each once: put one after another where it isn't there yet.
use Rattle.std.proofs.Common.{◌≡◌, ℕ, Bool, true, false, ◌&&◌, ◌||◌, not, cond, Some, None, List, [], ◌∷◌, ◌++◌, map, filter, refl, sym, ◌∙◌, ap, ◌==◌}
use Rattle.std.specs.List.{flat_map, list_any}
use Rattle.std.proofs.lemmas.Bool.Decides.{nat_tests}
use Rattle.std.proofs.Common.{arith, append_assoc}
use Rattle.std.proofs.lemmas.List.{append-nil, map-append}
use Rattle.std.proofs.lemmas.List.Sums.{fold-append}
use Rattle.std.proofs.lemmas.List.Folds.{list_any-append}
use Rattle.model_base.proofs.Replay.{by_cases}
use Rattle.model_base.specs.declared.deed.Kind.{Kind}
use Rattle.model_base.specs.declared.deed.Kinds.{Kinds}
use Rattle.model_base.specs.declared.deed.Need.{Need}
use Rattle.model_base.specs.declared.statement.Access.{Access}
use Rattle.model_base.specs.declared.statement.DeedForm.{DeedForm}
use Rattle.model_base.specs.declared.statement.Form.{Form}
use Rattle.model_base.specs.Outcomes.{kind_if, kinds_in, need_of, needs, needs_of_access, needs_of_deed, option_on}
use Rattle.model_base.specs.References.{deed_tables, each_once, table_of, tables_of}
use Rattle.model_base.specs.Versions.{accesses_of}
use Rattle.placing.specs.Tables.{has_need, with_number, with_numbers}

abbrev is_there : List ℕ → ℕ → Bool
is_there numbers number = list_any (λ other. other == number) numbers

same-number : (n : ℕ) → (n == n) ≡ true
same-number n = grind (arith, nat_tests)

or-true : (b : Bool) → (b || true) ≡ true
or-true true = refl
or-true false = refl

-- a number that was put there is there
there : (numbers : List ℕ) (number : ℕ) → is_there (with_number numbers number) number ≡ true
there numbers number =
    by_cases (is_there numbers number)
    (λ yes. rw (yes, yes) refl)
    (λ no. rw no (list_any-append (λ other. other == number) numbers (number ∷ []) ∙ rw (same-number number) (or-true (is_there numbers number))))

-- to put it there again changes nothing
again : (numbers : List ℕ) (number : ℕ) → with_number (with_number numbers number) number ≡ with_number numbers number
again numbers number = rw (there numbers number) refl

-- nor do further times
repeated : (numbers : List ℕ) (number : ℕ) (kinds : List Kind) → with_numbers (with_number numbers number) (map (λ _. number) kinds) ≡ with_number numbers number
repeated numbers number [] = refl
repeated numbers number (kind ∷ kinds) =
    ap (λ found. with_numbers found (map (λ _. number) kinds)) (again numbers number) ∙ repeated numbers number kinds

-- an access has kinds exactly if it needs something
abbrev by_kinds : List ℕ → ℕ → List Kind → List ℕ
by_kinds numbers number kinds = with_numbers numbers (map (λ _. number) kinds)

needed : (numbers : List ℕ) (number : ℕ) (read insert update delete : Bool) → by_kinds numbers number (kinds_in (record { read = read; insert = insert; update = update; delete = delete })) ≡ cond (read || insert || update || delete) (with_number numbers number) numbers
needed numbers number true insert update delete =
    let kinds : Kinds = record { read = true; insert = insert; update = update; delete = delete } in
    repeated numbers number (kind_if kinds Kind.Insert ++ (kind_if kinds Kind.Update ++ kind_if kinds Kind.Delete))
needed numbers number false true update delete =
    let kinds : Kinds = record { read = false; insert = true; update = update; delete = delete } in
    repeated numbers number (kind_if kinds Kind.Update ++ kind_if kinds Kind.Delete)
needed numbers number false false true delete =
    let kinds : Kinds = record { read = false; insert = false; update = true; delete = delete } in
    repeated numbers number (kind_if kinds Kind.Delete)
needed numbers number false false false true = refl
needed numbers number false false false false = refl

tables-of-access : (access : Access) (kinds : List Kind) → map (λ (need : Need). need.table) (map (need_of access) kinds) ≡ map (λ _. access.key.table) kinds
tables-of-access access [] = refl
tables-of-access access (kind ∷ kinds) = ap (λ rest. access.key.table ∷ rest) (tables-of-access access kinds)

tables-of-option : (table : ℕ) (kinds : List Kind) → map (λ (need : Need). need.table) (map (option_on table) kinds) ≡ map (λ _. table) kinds
tables-of-option table [] = refl
tables-of-option table (kind ∷ kinds) = ap (λ rest. table ∷ rest) (tables-of-option table kinds)

-- the tables of the needs of an access and of later ones
pub access_needs : (numbers : List ℕ) (access : Access) (later : List Access) → with_numbers numbers (map (λ (need : Need). need.table) (flat_map needs_of_access (access ∷ later))) ≡ with_numbers (cond (has_need access) (with_number numbers access.key.table) numbers) (map (λ (need : Need). need.table) (flat_map needs_of_access later))
access_needs numbers access later =
    ap (with_numbers numbers) (map-append (λ (need : Need). need.table) (needs_of_access access) (flat_map needs_of_access later))
    ∙ fold-append with_number numbers (map (λ (need : Need). need.table) (needs_of_access access)) (map (λ (need : Need). need.table) (flat_map needs_of_access later))
    ∙ ap (λ so_far. with_numbers so_far (map (λ (need : Need). need.table) (flat_map needs_of_access later)))
    (ap (with_numbers numbers) (tables-of-access access (kinds_in access.kinds)) ∙ needed numbers access.key.table access.kinds.read access.kinds.insert access.kinds.update access.kinds.delete)

-- two filters, one after the other, are a third
twice : (first second both : ℕ → Bool) → ((x : ℕ) → both x ≡ (first x && second x)) → (numbers : List ℕ) → filter second (filter first numbers) ≡ filter both numbers
twice first second both same [] = refl
twice first second both same (x ∷ numbers) =
    let rest = twice first second both same numbers in
    by_cases (first x)
    (λ passes. rw (same x, passes)
    (by_cases (second x) (λ also. rw also (ap (λ more. x ∷ more) rest)) (λ fails. rw fails rest)))
    (λ fails. rw (same x, fails) rest)

kept-all : (numbers : List ℕ) → filter (λ x. true) numbers ≡ numbers
kept-all [] = refl
kept-all (x ∷ numbers) = ap (λ rest. x ∷ rest) (kept-all numbers)

abbrev is_new : List ℕ → ℕ → Bool
is_new numbers number = not (is_there numbers number)

-- a number that is there adds nothing to the test
old-one : (numbers : List ℕ) (number : ℕ) → is_there numbers number ≡ true → (x : ℕ) → is_new numbers x ≡ (not (x == number) && is_new numbers x)
old-one numbers number is x =
    by_cases (x == number)
    (λ same. let e : x ≡ number = grind (arith, nat_tests) in rw (same, e, is) refl)
    (λ other. rw other refl)

pub or-false : (b : Bool) → (b || false) ≡ b
or-false true = refl
or-false false = refl

-- one that isn't there adds itself
new-one : (numbers : List ℕ) (number : ℕ) → (x : ℕ) → is_new (numbers ++ number ∷ []) x ≡ (not (x == number) && is_new numbers x)
new-one numbers number x =
    ap not (list_any-append (λ other. other == x) numbers (number ∷ []))
    ∙ by_cases (x == number)
    (λ same. let turned : (number == x) ≡ true = grind (arith, nat_tests) in rw (same, turned) (ap not (or-true (is_there numbers x))))
    (λ other. let turned : (number == x) ≡ false = grind (arith, nat_tests) in rw (other, turned) (ap not (or-false (is_there numbers x))))

-- the numbers appended to others are those that aren't there, each once
pub put_once : (numbers more : List ℕ) → with_numbers numbers more ≡ numbers ++ filter (is_new numbers) (each_once more)
put_once numbers [] = sym (append-nil numbers)
put_once numbers (number ∷ more) =
    let later = each_once more in
    let others : ℕ → Bool = λ other. not (other == number) in
    by_cases (is_there numbers number)
    (λ found. rw found
    (put_once numbers more
    ∙ ap (λ rest. numbers ++ rest) (sym (twice others (is_new numbers) (is_new numbers) (old-one numbers number found) later))))
    (λ new. rw new
    (put_once (numbers ++ number ∷ []) more
    ∙ append_assoc numbers (number ∷ []) (filter (is_new (numbers ++ number ∷ [])) later)
    ∙ ap (λ rest. numbers ++ number ∷ rest) (sym (twice others (is_new numbers) (is_new (numbers ++ number ∷ [])) (new-one numbers number) later))))

-- with nothing there before, they are the numbers, each once
pub once : (numbers : List ℕ) → with_numbers [] numbers ≡ each_once numbers
once numbers = put_once [] numbers ∙ kept-all (each_once numbers)

abbrev tables-needed : Form → List ℕ
tables-needed form = map (λ (need : Need). need.table) (flat_map needs_of_access (accesses_of form))

-- after some kinds on a table, the table is there at the latest by itself
after-kinds : (numbers : List ℕ) (table : ℕ) (kinds : List Kind) → with_number (by_kinds numbers table kinds) table ≡ with_number numbers table
after-kinds numbers table [] = refl
after-kinds numbers table (kind ∷ kinds) =
    ap (λ found. with_number found table) (repeated numbers table kinds) ∙ again numbers table

deed-tables : (numbers : List ℕ) (deed : DeedForm) → with_numbers numbers (map (λ (need : Need). need.table) (needs_of_deed deed) ++ table_of deed ∷ []) ≡ with_number numbers (table_of deed)
deed-tables numbers (DeedForm.Grant kinds table grantees option) =
    ap (λ needed. with_numbers numbers (needed ++ table ∷ [])) (tables-of-option table (kinds_in kinds))
    ∙ fold-append with_number numbers (map (λ _. table) (kinds_in kinds)) (table ∷ [])
    ∙ after-kinds numbers table (kinds_in kinds)
deed-tables numbers (DeedForm.Revoke kinds table grantees) = refl

with_deed : (form : Form) → with_numbers (with_numbers [] (tables-needed form)) (deed_tables form) ≡ with_numbers [] (map (λ (need : Need). need.table) (needs form) ++ deed_tables form)
with_deed (Form.Create table columns) = refl
with_deed (Form.Deed deed) = sym (deed-tables [] deed)
with_deed (Form.Run accesses steps None) =
    let all = flat_map needs_of_access accesses in
    let table : Need → ℕ = λ (need : Need). need.table in
    sym (ap (with_numbers []) (append-nil (map table (all ++ [])) ∙ ap (map table) (append-nil all)))
with_deed (Form.Run accesses steps (Some deed)) =
    let all = flat_map needs_of_access accesses in
    let table : Need → ℕ = λ (need : Need). need.table in
    sym (ap (λ tables. with_numbers [] (tables ++ table_of deed ∷ [])) (map-append table all (needs_of_deed deed))
    ∙ ap (with_numbers []) (append_assoc (map table all) (map table (needs_of_deed deed)) (table_of deed ∷ []))
    ∙ fold-append with_number [] (map table all) (map table (needs_of_deed deed) ++ table_of deed ∷ [])
    ∙ deed-tables (with_numbers [] (map table all)) deed)

-- the tables of the needs, and then the deed's, put where they aren't there yet
pub tables_found : (form : Form) → with_numbers (with_numbers [] (tables-needed form)) (deed_tables form) ≡ tables_of form
tables_found form = with_deed form ∙ once (map (λ (need : Need). need.table) (needs form) ++ deed_tables form)
