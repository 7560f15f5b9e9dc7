-- A body changes no row that it does not declare to write.
use Rattle.std.proofs.Common.{◌≡◌, ℕ, zero, suc, ◌+◌, ℤ, pos, ◌||◌, ◌&&◌, Bool, true, false, Option, Some, None, List, [], ◌∷◌, length, map, take, refl, sym, ◌∙◌, ap, arith, cond, subst}
use Rattle.std.specs.List.{find, list_any}
use Rattle.std.proofs.lemmas.Bool.{true≢false}
use Rattle.std.specs.Option.{is_some}
use Rattle.model_base.specs.declared.deed.Kind.{Kind}
use Rattle.model_base.specs.declared.deed.Kind.TheVariants.{Read, Update, Insert, Delete}
use Rattle.model_base.specs.declared.outcome.Reason.TheVariants.{Overflow, Check as CheckReason}
use Rattle.model_base.specs.declared.statement.Access.{Access}
use Rattle.model_base.specs.declared.statement.Form.{Form}
use Rattle.model_base.specs.declared.statement.Step.{Step}
use Rattle.model_base.specs.Outcomes.{body}
use Rattle.model_base.specs.References.{is_write_to}
use Rattle.model_base.specs.Versions.{accesses_of, is_writing}
use Rattle.model_base.specs.declared.statement.Step.TheVariants.{Const, Compute, Has, Load, Store, Insert as InsertStep, Delete as DeleteStep, Check, Skip, Out}
use Rattle.model_base.specs.Rows.{Rows, with_row}
use Rattle.model_base.specs.Privileges.{has_kind}
use Rattle.model_base.specs.Body.{Machine, Effect, goes_on, aborts, is_undeclared, Ending, completed, aborted, undeclared, of_kind, declared, is_of, is_zero, computed, fits_64_bits, put, flag, read_register, touch_declared, load_column, store_column, insert_row, delete_row, perform, after_step, run_steps, row_number}
use Rattle.body.specs.Shown.{with_rows}
use Rattle.body.specs.Laws.{IsOther, LeavesOthers, LeavesUnwritten, ShowsRows, KeepsOthers}
use Rattle.body.specs.Room.{same_key}
use Rattle.body.proofs.Rows.{same_key-true, same_key-own, is_of-of, is_of-true}
use Rattle.model_base.proofs.Replay.{by_cases}

-- an access to another row has another key
pub apart : (t n : ℕ) (access : Access) → is_of t (pos n) access ≡ false → same_key access.key.table access.key.row t n ≡ false
apart t n access miss =
    by_cases (same_key access.key.table access.key.row t n)
    (λ same. let keys : (access.key.table ≡ t) × (access.key.row ≡ n) = same_key-true access.key.table access.key.row t n same in let also : is_of t (pos n) access ≡ true = is_of-of t (pos n) access keys.0 (ap pos keys.1) in let no : true ≡ false = sym also ∙ miss in cc)
    (λ other. other)

pub head_misses : (test : Access → Bool) (access : Access) (accesses : List Access) → find test (access ∷ accesses) ≡ None → (test access ≡ false) × (find test accesses ≡ None)
head_misses test access accesses none =
    by_cases (test access)
    (λ hit. let e : Some access ≡ None = sym (ap (λ b. cond b (Some access) (find test accesses)) hit) ∙ none in cc)
    (λ miss. (miss, sym (ap (λ b. cond b (Some access) (find test accesses)) miss) ∙ none))

pub keeps_others : KeepsOthers
keeps_others [] contents rows t n other = refl
keeps_others (access ∷ accesses) [] rows t n other = refl
keeps_others (access ∷ accesses) (content ∷ contents) rows t n other =
    let misses : (is_of t (pos n) access ≡ false) × (find (is_of t (pos n)) accesses ≡ None) = head_misses (is_of t (pos n)) access accesses other in
    rw (apart t n access misses.0) (keeps_others accesses contents rows t n misses.1)

-- keys turned round
turned : (access b : Access) → is_of access.key.table (pos access.key.row) b ≡ false → same_key access.key.table access.key.row b.key.table b.key.row ≡ false
turned access b miss =
    by_cases (same_key access.key.table access.key.row b.key.table b.key.row)
    (λ same. let keys : (access.key.table ≡ b.key.table) × (access.key.row ≡ b.key.row) = same_key-true access.key.table access.key.row b.key.table b.key.row same in let also : is_of access.key.table (pos access.key.row) b ≡ true = is_of-of access.key.table (pos access.key.row) b (sym keys.0) (ap pos (sym keys.1)) in let no : true ≡ false = sym also ∙ miss in cc)
    (λ other. other)

others_kept : (rows : Rows) (access : Access) (content : Option (List ℤ)) (accesses : List Access) → IsOther accesses access.key.table access.key.row → map (λ (b : Access). with_row rows access.key.table access.key.row content b.key.table b.key.row) accesses ≡ map (λ (b : Access). rows b.key.table b.key.row) accesses
others_kept rows access content [] other = refl
others_kept rows access content (b ∷ accesses) other =
    let misses : (is_of access.key.table (pos access.key.row) b ≡ false) × (find (is_of access.key.table (pos access.key.row)) accesses ≡ None) = head_misses (is_of access.key.table (pos access.key.row)) b accesses other in
    let rest = others_kept rows access content accesses misses.1 in
    rw (turned access b misses.0) (ap (λ xs. rows b.key.table b.key.row ∷ xs) rest)

pub shows_rows : ShowsRows
shows_rows [] contents rows distinct long = refl
shows_rows (access ∷ accesses) [] rows distinct long = absurd (omega arith)
shows_rows (access ∷ accesses) (content ∷ contents) rows distinct long =
    let rest : take (length accesses) contents ≡ map (λ (b : Access). with_rows accesses contents rows b.key.table b.key.row) accesses = shows_rows accesses contents rows distinct.1 (omega arith) in
    rw (same_key-own access.key.table access.key.row)
    (ap (λ xs. content ∷ xs) (rest ∙ sym (others_kept (with_rows accesses contents rows) access content accesses distinct.0)))

-- the kinds that change rows
abbrev Changes : Kind → Type 0
Changes Read = ⊥
Changes Insert = Unit {0}
Changes Update = Unit {0}
Changes Delete = Unit {0}

-- the row after an effect, and after the end
abbrev pub Kept : ℕ → ℕ → Option (List ℤ) → Effect → Type 0
Kept t n before (goes_on m passed) = m.rows t n ≡ before
Kept t n before (aborts reason) = Unit {0}
Kept t n before is_undeclared = Unit {0}

abbrev pub KeptEnd : ℕ → ℕ → Option (List ℤ) → Ending → Type 0
KeptEnd t n before (completed rows outputs) = rows t n ≡ before
KeptEnd t n before (aborted step reason) = Unit {0}
KeptEnd t n before (undeclared step) = Unit {0}

-- neither of two fails alone
neither : (a b : Bool) → (a || b) ≡ false → (a ≡ false) × (b ≡ false)
neither true b e = absurd (true≢false e)
neither false b e = (refl, e)

-- a conjunct that holds can be left out
second : (a b : Bool) → a ≡ true → (a && b) ≡ false → b ≡ false
second true b holds e = e
second false b holds e = absurd (true≢false (sym holds))

-- what is found passes its own test, and fails one that all fail
found_fails : (test hits : Access → Bool) (accesses : List Access) (found : Access) → find hits accesses ≡ Some found → list_any test accesses ≡ false → (test found ≡ false) × (hits found ≡ true)
found_fails test hits [] found some none = cc
found_fails test hits (access ∷ accesses) found some none =
    let fails : (test access ≡ false) × (list_any test accesses ≡ false) = neither (test access) (list_any test accesses) none in
    by_cases (hits access)
    (λ hit. let e : Some access ≡ Some found = sym (ap (λ b. cond b (Some access) (find hits accesses)) hit) ∙ some in let same : access ≡ found = cc in (sym (ap test same) ∙ fails.0, sym (ap hits same) ∙ hit))
    (λ miss. found_fails test hits accesses found (sym (ap (λ b. cond b (Some access) (find hits accesses)) miss) ∙ some) fails.1)

-- the access that declares a kind is found, and has the kind
declared_found : (kind : Kind) (found : Option Access) (access : Access) → of_kind kind found ≡ Some access → (found ≡ Some access) × (has_kind access.kinds kind ≡ true)
declared_found kind None access at = cc
declared_found kind (Some other) access at =
    by_cases (has_kind other.kinds kind)
    (λ yes. let e : Some other ≡ Some access = sym (ap (λ b. cond b (Some other) None) yes) ∙ at in let same : other ≡ access = cc in (e, sym (ap (λ (a : Access). has_kind a.kinds kind) same) ∙ yes))
    (λ no. let e : cond false (Some other) None ≡ Some access = sym (ap (λ b. cond b (Some other) None) no) ∙ at in cc)

-- an access that declares a kind that changes rows is a writing one
writes_by : (kind : Kind) (access : Access) → Changes kind → has_kind access.kinds kind ≡ true → is_writing access ≡ true
writes_by Read access changes has = absurd changes
writes_by Insert access changes has = rw has refl
writes_by Update access changes has = either access.kinds.insert access.kinds.update access.kinds.delete has
  where
    either : (a b c : Bool) → b ≡ true → (a || b || c) ≡ true
    either true b c e = refl
    either false b c e = rw e refl
writes_by Delete access changes has = either access.kinds.insert access.kinds.update access.kinds.delete has
  where
    either : (a b c : Bool) → c ≡ true → (a || b || c) ≡ true
    either true b c e = refl
    either false true c e = refl
    either false false c e = e

-- where no access is to a row, none writes it
unwritten_by_others : (t n : ℕ) (accesses : List Access) → IsOther accesses t n → list_any (is_write_to t n) accesses ≡ false
unwritten_by_others t n [] other = refl
unwritten_by_others t n (access ∷ accesses) other =
    let misses : (is_of t (pos n) access ≡ false) × (find (is_of t (pos n)) accesses ≡ None) = head_misses (is_of t (pos n)) access accesses other in
    let differs : same_key access.key.table access.key.row t n ≡ false = apart t n access misses.0 in
    let rest : list_any (is_write_to t n) accesses ≡ false = unwritten_by_others t n accesses misses.1 in
    rw (differs, rest) (none (is_writing access))
  where
    none : (a : Bool) → ((a && false) || false) ≡ false
    none true = refl
    none false = refl

module _ (accesses : List Access) (t n : ℕ) (unwritten : list_any (is_write_to t n) accesses ≡ false) (before : Option (List ℤ)) where
  -- an access that declares a kind that changes rows is to another row
  elsewhere : (kind : Kind) (u : ℕ) (number : ℤ) (access : Access) → Changes kind → declared accesses kind u number ≡ Some access → same_key u access.key.row t n ≡ false
  elsewhere kind u number access changes at =
      let found : (find (is_of u number) accesses ≡ Some access) × (has_kind access.kinds kind ≡ true) = declared_found kind (find (is_of u number) accesses) access at in
      let tests : (is_write_to t n access ≡ false) × (is_of u number access ≡ true) = found_fails (is_write_to t n) (is_of u number) accesses access found.0 unwritten in
      let keys : (access.key.table ≡ u) × (pos access.key.row ≡ number) = is_of-true u number access tests.1 in
      ap (λ k. same_key k access.key.row t n) (sym keys.0)
      ∙ second (is_writing access) (same_key access.key.table access.key.row t n) (writes_by kind access changes found.1) tests.0

  -- a touch keeps the row if its effect does at each row that is declared
  touched : (m : Machine) (kind : Kind) (u : ℕ) (number : ℤ) (effect : ℕ → Option (List ℤ) → Effect) → ((access : Access) (content : Option (List ℤ)) → declared accesses kind u number ≡ Some access → Kept t n before (effect access.key.row content)) → Kept t n before (touch_declared m u (declared accesses kind u number) effect)
  touched m kind u number effect keeps = by_declared (declared accesses kind u number) refl
    where
      by_declared : (found : Option Access) → declared accesses kind u number ≡ found → Kept t n before (touch_declared m u found effect)
      by_declared None at = tt
      by_declared (Some access) at = keeps access (m.rows u access.key.row) at

  cond_kept : (test : Bool) (a b : Effect) → Kept t n before a → Kept t n before b → Kept t n before (cond test a b)
  cond_kept true a b p q = p
  cond_kept false a b p q = q

  written : (rows : Rows) (u row : ℕ) (content : Option (List ℤ)) → rows t n ≡ before → same_key u row t n ≡ false → with_row rows u row content t n ≡ before
  written rows u row content kept differs = rw differs kept

  stored : (m : Machine) (u column from row : ℕ) (content : Option (List ℤ)) → m.rows t n ≡ before → same_key u row t n ≡ false → Kept t n before (store_column m u column from row content)
  stored m u column from row None kept differs = tt
  stored m u column from row (Some columns) kept differs = written m.rows u row _ kept differs

  inserted : (m : Machine) (u : ℕ) (from : List ℕ) (row : ℕ) (content : Option (List ℤ)) → m.rows t n ≡ before → same_key u row t n ≡ false → Kept t n before (insert_row m u from row content)
  inserted m u from row None kept differs = written m.rows u row _ kept differs
  inserted m u from row (Some columns) kept differs = tt

  deleted : (m : Machine) (u row : ℕ) (content : Option (List ℤ)) → m.rows t n ≡ before → same_key u row t n ≡ false → Kept t n before (delete_row m u row content)
  deleted m u row None kept differs = tt
  deleted m u row (Some columns) kept differs = written m.rows u row _ kept differs

  loaded : (m : Machine) (to column : ℕ) (content : Option (List ℤ)) → m.rows t n ≡ before → Kept t n before (load_column m to column content)
  loaded m to column None kept = tt
  loaded m to column (Some columns) kept = kept

  performed : (step : Step) (m : Machine) → m.rows t n ≡ before → Kept t n before (perform accesses step m)
  performed (Const to value) m kept = kept
  performed (Compute operation to left right) m kept =
      let value = computed operation (read_register m left) (read_register m right) in
      cond_kept (fits_64_bits value) (put m to value) (aborts Overflow) kept tt
  performed (Has to u row) m kept = touched m Read u (row_number m.registers row) (λ _ found. put m to (flag (is_some found))) (λ access content at. kept)
  performed (Load to u row column) m kept = touched m Read u (row_number m.registers row) (λ _ found. load_column m to column found) (λ access content at. loaded m to column content kept)
  performed (Store u row column from) m kept =
      let number = row_number m.registers row in
      touched m Update u number (λ of found. store_column m u column from of found) (λ access content at. stored m u column from access.key.row content kept (elsewhere Update u number access tt at))
  performed (InsertStep u row from) m kept =
      let number = row_number m.registers row in
      touched m Insert u number (λ of found. insert_row m u from of found) (λ access content at. inserted m u from access.key.row content kept (elsewhere Insert u number access tt at))
  performed (DeleteStep u row) m kept =
      let number = row_number m.registers row in
      touched m Delete u number (λ of found. delete_row m u of found) (λ access content at. deleted m u access.key.row content kept (elsewhere Delete u number access tt at))
  performed (Check of) m kept = cond_kept (is_zero (read_register m of)) (aborts CheckReason) (goes_on m 0) tt kept
  performed (Skip of steps) m kept = kept
  performed (Out of) m kept = kept

  after_kept : (number : ℕ) (steps : List Step) (effect : Effect) → Kept t n before effect → ((passed : ℕ) (next : Machine) → next.rows t n ≡ before → KeptEnd t n before (run_steps accesses steps (number + 1) passed next)) → KeptEnd t n before (after_step number effect (λ next passed. run_steps accesses steps (number + 1) passed next))
  after_kept number steps (goes_on next passed) at rest = rest passed next at
  after_kept number steps (aborts reason) at rest = tt
  after_kept number steps is_undeclared at rest = tt

  run_kept : (steps : List Step) (number passed : ℕ) (m : Machine) → m.rows t n ≡ before → KeptEnd t n before (run_steps accesses steps number passed m)
  run_kept [] number passed m kept = kept
  run_kept (step ∷ steps) number (suc passed) m kept = run_kept steps (number + 1) passed m kept
  run_kept (step ∷ steps) number zero m kept =
      after_kept number steps (perform accesses step m) (performed step m kept)
      (λ passed next at. run_kept steps (number + 1) passed next at)

-- a completed body leaves a row alone that no access of its form writes
form_kept : (form : Form) (rows : Rows) (t n : ℕ) → list_any (is_write_to t n) (accesses_of form) ≡ false → KeptEnd t n (rows t n) (body rows form)
form_kept (Form.Create table columns) rows t n unwritten = refl
form_kept (Form.Run accesses steps deed) rows t n unwritten = run_kept accesses t n unwritten (rows t n) steps 0 0 _ refl
form_kept (Form.Deed deed) rows t n unwritten = refl

pub leaves_unwritten : LeavesUnwritten
leaves_unwritten statement rows after outputs t n ends unwritten =
    let P : Ending → Type 0 = KeptEnd t n (rows t n) in
    subst P ends (form_kept statement.form rows t n unwritten)

pub leaves_others : LeavesOthers
leaves_others form rows after outputs t n ends other =
    let P : Ending → Type 0 = KeptEnd t n (rows t n) in
    subst P ends (form_kept form rows t n (unwritten_by_others t n (accesses_of form) other))
