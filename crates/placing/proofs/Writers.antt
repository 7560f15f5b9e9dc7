-- What is kept of the last writers, and how a statement changes it.
use Rattle.std.proofs.Common.{◌≡◌, ℕ, zero, suc, drop, ◌+◌, ◌≤◌, Bool, true, false, ◌&&◌, ◌||◌, cond, Some, List, [], ◌∷◌, refl, sym, ◌∙◌, ap, arith, eqb, ltb, ◌==◌, slice_get}
use Rattle.std.specs.List.{list_any}
use Rattle.std.specs.BTreeMap.{get, is_at}
use Rattle.std.specs.Map.{lookup}
use Rattle.std.specs.Ordering.{is_eq, nat_cmp, ordering_then}
use Rattle.std.specs.declared.cmp.Ordering.{Ordering}
use Rattle.std.specs.declared.cmp.Ordering.TheVariants.{Less, Equal, Greater}
use Rattle.std.proofs.lemmas.Bool.{and_parts, and_right, eqb-true}
use Rattle.std.proofs.lemmas.Bool.Decides.{nat_tests}
use Rattle.model_base.proofs.Replay.{by_cases}
use Rattle.model_base.specs.declared.reference.Reference.{Reference}
use Rattle.model_base.specs.declared.reference.Reference.TheVariants.{Base, At}
use Rattle.model_base.specs.declared.row.Key.{Key}
use Rattle.model_base.specs.declared.statement.Access.{Access}
use Rattle.model_base.specs.declared.statement.Statement.{Statement}
use Rattle.model_base.specs.References.{declares_write, has_deed_on, is_write_to, last_before}
use Rattle.model_base.specs.Versions.{is_writing}
use Rattle.placing.proofs.Last.{last_before-next}
use Rattle.placing.specs.declared.latest.Latest.{Latest}
use Rattle.placing.specs.Latest.{IsLatest, ChangesOnly, Notes, is_own_row, is_own_table, key_cmp, prior_in, reference_to, writer_in}

is_eq-nat_cmp : (x y : ℕ) → is_eq (nat_cmp x y) ≡ eqb x y
is_eq-nat_cmp x y =
    by_cases (ltb x y)
    (λ less. let other : eqb x y ≡ false = grind (arith, nat_tests) in rw (less, other) refl)
    (λ same. rw same (by_cases (eqb x y) (λ e. rw e refl) (λ e. rw e refl)))

is_eq-ordering_then : (o p : Ordering) → is_eq (ordering_then o p) ≡ (is_eq o && is_eq p)
is_eq-ordering_then Less p = refl
is_eq-ordering_then Equal p = refl
is_eq-ordering_then Greater p = refl

abbrev key : ℕ → ℕ → Key
key t r = record { table = t; row = r }

-- only a key itself is equal to it
at_key : (t r u s : ℕ) → is_at (key_cmp (key t r)) (key u s) ≡ ((t == u) && (r == s))
at_key t r u s =
    is_eq-ordering_then (nat_cmp t u) (nat_cmp r s)
    ∙ ap (λ b. b && is_eq (nat_cmp r s)) (is_eq-nat_cmp t u)
    ∙ ap (λ b. eqb t u && b) (is_eq-nat_cmp r s)

-- an access writes to its own row alone, so which rows are meant needs to be known of that one
pub at_own_row : (own : ℕ → ℕ → Bool) (access : Access) (b : Bool) → own access.key.table access.key.row ≡ b
    → (t r : ℕ) → (own t r && is_write_to t r access) ≡ (b && is_write_to t r access)
at_own_row own access b known t r =
    by_cases (is_write_to t r access)
    (λ writes.
    let same = (and_parts (access.key.table == t) (access.key.row == r) (and_parts (is_writing access) ((access.key.table == t) && (access.key.row == r)) writes).1) in
    let here : own t r ≡ b = ap (λ x. own x r) (sym (eqb-true access.key.table t same.0)) ∙ ap (λ y. own access.key.table y) (sym (eqb-true access.key.row r same.1)) ∙ known in
    ap (λ own. own && is_write_to t r access) here)
    (λ reads. and_right (own t r) (is_write_to t r access) reads ∙ sym (and_right b (is_write_to t r access) reads))

-- and a deed is on its own table alone
pub on_own_table : (own : ℕ → Bool) (of_deed : ℕ) → own of_deed ≡ true → (t : ℕ) → (of_deed == t) ≡ (own t && list_any (λ deed. deed == t) (of_deed ∷ []))
on_own_table own of_deed mine t =
    by_cases (of_deed == t)
    (λ same. let here : own t ≡ true = ap own (sym (eqb-true of_deed t same)) ∙ mine in rw (here, same) refl)
    (λ other. rw other (sym (and_right (own t) false refl)))

module _ (place : ℕ) where
  -- one access changes the last writer of a row of the partition, and then the rest
  passed : (own writes later : Bool) (before : Reference) → cond (own && later) (At place) (cond (own && writes) (At place) before) ≡ cond (own && (writes || later)) (At place) before
  passed false writes later before = refl
  passed true true true before = refl
  passed true true false before = refl
  passed true false later before = refl

  -- a place more
  one_more : (own writes : Bool) (before : Reference) → cond (own && writes) (At place) (cond own before Base) ≡ cond own (cond writes (At place) before) Base
  one_more false writes before = refl
  one_more true writes before = refl

  -- the place of an access is put into the map
  pub writer_put : (old new : Latest) (access : Access) → is_writing access ≡ true
      → ((q : Key) → get key_cmp new.writers q ≡ cond (is_at (key_cmp access.key) q) (Some place) (get key_cmp old.writers q))
      → (t r : ℕ) → writer_in new t r ≡ cond (is_write_to t r access) (At place) (writer_in old t r)
  writer_put old new access writing puts t r =
      ap reference_to (puts (key t r) ∙ ap (λ b. cond b (Some place) (get key_cmp old.writers (key t r))) (at_key access.key.table access.key.row t r))
      ∙ rw writing (by_cases ((access.key.table == t) && (access.key.row == r)) (λ yes. rw yes refl) (λ no. rw no refl))

  -- the place of a deed is put into the map
  pub prior_put : (old new : Latest) (of_deed : ℕ)
      → ((q : ℕ) → get nat_cmp new.deeds q ≡ cond (is_at (nat_cmp of_deed) q) (Some place) (get nat_cmp old.deeds q))
      → (t : ℕ) → prior_in new t ≡ cond (of_deed == t) (At place) (prior_in old t)
  prior_put old new of_deed puts t =
      ap reference_to (puts t ∙ ap (λ b. cond b (Some place) (get nat_cmp old.deeds t)) (is_eq-nat_cmp of_deed t))
      ∙ by_cases (of_deed == t) (λ yes. rw yes refl) (λ no. rw no refl)

-- one access more, in the pass over the accesses of a place
pub pass_on : (place : ℕ) (own : Bool) (t r : ℕ) (access : Access) (later : List Access) (now next : Reference) → next ≡ cond (own && is_write_to t r access) (At place) now
    → cond (own && list_any (is_write_to t r) later) (At place) next ≡ cond (own && list_any (is_write_to t r) (access ∷ later)) (At place) now
pass_on place own t r access later now next is = rw is (passed place own (is_write_to t r access) (list_any (is_write_to t r) later) now)

-- before the first place of the batch the map of the last writers is empty
pub no_writer : (latest : Latest) → latest.writers.entries ≡ [] → (t r : ℕ) → writer_in latest t r ≡ Base
no_writer latest empty t r = ap (λ entries. reference_to (lookup (is_at (key_cmp (key t r))) entries)) empty

pub no_prior : (latest : Latest) → latest.deeds.entries ≡ [] → (t : ℕ) → prior_in latest t ≡ Base
no_prior latest empty t = ap (λ entries. reference_to (lookup (is_at (nat_cmp t)) entries)) empty

-- nothing is kept, so nothing of another partition
pub none_kept : (own : Bool) (kept before : Reference) → kept ≡ Base → before ≡ Base → kept ≡ cond own before Base
none_kept true kept before nothing none = nothing ∙ sym none
none_kept false kept before nothing none = nothing

-- who has all places below one, and of that one maybe a part, has all of it once it is noted again
pub noted_again : (exact old new : Latest) (statement : Statement) (place : ℕ) → ChangesOnly exact old statement → Notes old new statement place → Notes exact new statement place
noted_again exact old new statement place others notes = record {
  partition = notes.partition ∙ others.partition;
  partitions = notes.partitions ∙ others.partitions;
  writers = λ t r.
      let own : is_own_row old t r ≡ is_own_row exact t r = rw (others.partition, others.partitions) refl in
      notes.writers t r ∙ ap (λ b. cond (b && declares_write t r statement) (At place) (writer_in old t r)) own
      ∙ by_cases (is_own_row exact t r && declares_write t r statement)
      (λ here. rw here refl)
      (λ not_here. rw not_here (others.writers t r not_here));
  deeds = λ t.
      let own : is_own_table old t ≡ is_own_table exact t = rw (others.partition, others.partitions) refl in
      notes.deeds t ∙ ap (λ b. cond (b && has_deed_on t statement) (At place) (prior_in old t)) own
      ∙ by_cases (is_own_table exact t && has_deed_on t statement)
      (λ here. rw here refl)
      (λ not_here. rw not_here (others.deeds t not_here));
}

pub left_again : (exact old new : Latest) (statement : Statement) → ChangesOnly exact old statement → ChangesOnly old new statement → ChangesOnly exact new statement
left_again exact old new statement others more = record {
  partition = more.partition ∙ others.partition;
  partitions = more.partitions ∙ others.partitions;
  writers = λ t r not_here.
      let own : is_own_row old t r ≡ is_own_row exact t r = rw (others.partition, others.partitions) refl in
      more.writers t r (ap (λ b. b && declares_write t r statement) own ∙ not_here) ∙ others.writers t r not_here;
  deeds = λ t not_here.
      let own : is_own_table old t ≡ is_own_table exact t = rw (others.partition, others.partitions) refl in
      more.deeds t (ap (λ b. b && has_deed_on t statement) own ∙ not_here) ∙ others.deeds t not_here;
}

-- a row that none of all accesses writes to stands, however many of them are left
pub still_other : (place : ℕ) (own later all : Bool) (now before : Reference) → (all ≡ false → later ≡ false) → (own && all) ≡ false
    → cond (own && later) (At place) now ≡ cond (own && all) (At place) before → now ≡ before
still_other place false later all now before fewer out is = is
still_other place true later all now before fewer out is = let none = fewer out in rw (none, out) at is

-- of the rest of a list none passes where none of the whole does
pub none_later : {A : Type 0} (test : A → Bool) (xs : List A) (n : ℕ) → list_any test xs ≡ false → list_any test (drop n xs) ≡ false
none_later test [] zero none = none
none_later test [] (suc n) none = none
none_later test (x ∷ xs) zero none = none
none_later test (x ∷ xs) (suc n) none =
    none_later test xs n (by_cases (test x) (λ here. let both : true ≡ false = sym (rw here refl) ∙ none in absurd (cc)) (λ not_here. rw not_here at none))

-- what is noted of a place makes what is kept the last places below the next
pub latest_next : (old new : Latest) (log : List Statement) (first place : ℕ) (statement : Statement) → first ≤ place → slice_get log place ≡ Some statement → IsLatest old log first place → Notes old new statement place → IsLatest new log first (place + 1)
latest_next old new log first place statement above at latest notes = record {
  writers = λ t r.
      let own : is_own_row old t r ≡ is_own_row new t r = rw (notes.partition, notes.partitions) refl in
      notes.writers t r
      ∙ ap (λ before. cond (is_own_row old t r && declares_write t r statement) (At place) before) (latest.writers t r)
      ∙ one_more place (is_own_row old t r) (declares_write t r statement) (last_before (declares_write t r) log first place)
      ∙ ap (λ last. cond (is_own_row old t r) last Base) (sym (last_before-next (declares_write t r) log first place statement above at))
      ∙ ap (λ b. cond b (last_before (declares_write t r) log first (place + 1)) Base) own;
  deeds = λ t.
      let own : is_own_table old t ≡ is_own_table new t = rw (notes.partition, notes.partitions) refl in
      notes.deeds t
      ∙ ap (λ before. cond (is_own_table old t && has_deed_on t statement) (At place) before) (latest.deeds t)
      ∙ one_more place (is_own_table old t) (has_deed_on t statement) (last_before (has_deed_on t) log first place)
      ∙ ap (λ last. cond (is_own_table old t) last Base) (sym (last_before-next (has_deed_on t) log first place statement above at))
      ∙ ap (λ b. cond b (last_before (has_deed_on t) log first (place + 1)) Base) own;
}
