-- Needs that were found held stay so until a revocation.
use Rattle.std.proofs.Common.{◌≡◌, ◌≤◌, ◌||◌, ◌++◌, ◌∷◌, [], ℕ, zero, suc, Bool, true, false, List, None, Result, Ok, Err, OnErr, OnOk, is_none, length, map, take, refl, ap, sym, ◌∙◌, subst, arith, inl, inr}
use Rattle.std.specs.Prelude.{◌==◌, All, IsTrue, not, slice_get}
use Rattle.std.specs.List.{find, flat_map, list_any}
use Rattle.std.specs.Option.{option_map_or}
use Rattle.std.proofs.lemmas.Bool.{or_cases, or_right, true≢false}
use Rattle.std.proofs.lemmas.List.Elements.{All-append, All-cons, All-drop, All-head, All-map, All-nil, All-tail, All-take, All-weaker}
use Rattle.std.proofs.lemmas.List.Folds.{list_any-append}
use Rattle.std.proofs.Math.Seq.{drop-append_seam, take-append_seam}
use Rattle.model_base.specs.declared.deed.Deed.{Deed}
use Rattle.model_base.specs.declared.deed.Grant.{Grant}
use Rattle.model_base.specs.declared.deed.Kind.{Kind}
use Rattle.model_base.specs.declared.deed.Kinds.{Kinds}
use Rattle.model_base.specs.declared.deed.Need.{Need}
use Rattle.model_base.specs.declared.deed.Record.{Record}
use Rattle.model_base.specs.declared.statement.Access.{Access}
use Rattle.model_base.specs.Outcomes.{kind_if, kinds_in, need_of, needs_of_access}
use Rattle.model_base.specs.Privileges.{gives, has_kind, holds}
use Rattle.model_base.specs.Records.{in_force}
use Rattle.model_base.proofs.Replay.{by_cases}
use Rattle.checker.specs.Missing.{Covers}
use Rattle.grants_base.specs.Book.{Entries, IsLater, owners_of, unended, view_of, with_grant, with_table}
use Rattle.grants_base.specs.View.{ShowsDeeds, covers, has_by, holds_in}
use Rattle.grants_base.specs.declared.entries.Creation.{Creation}
use Rattle.grants.proofs.Asked.{or_first}
use Rattle.grants.proofs.GrantLaws.{view-later}
use Rattle.grants.proofs.ViewLaws.{held_after}
use Rattle.engine.specs.Held.{AreHeld, HasAll, IsHeld, Memory, has_now, use_of}

-- one more grant is in force
in_force-push : (records : List Record) (grant : Grant) → in_force (records ++ unended grant ∷ []) ≡ in_force records ++ grant ∷ []
in_force-push [] grant = refl
in_force-push (entry ∷ records) grant =
    let rest = in_force-push records grant in
    by_cases (is_none entry.end) (λ stands. rw (stands, rest) refl) (λ ended. rw (ended, rest) refl)

-- who owns a table owns it when there are more
owned_more : (test : ℕ → Bool) (owners more : List ℕ) (table : ℕ) → option_map_or test (slice_get owners table) false ≡ true
    → option_map_or test (slice_get (owners ++ more) table) false ≡ true
owned_more test [] more table is = absurd (true≢false (sym is))
owned_more test (owner ∷ owners) more zero is = is
owned_more test (owner ∷ owners) more (suc table) is = owned_more test owners more table is

owners-push : (tables : List Creation) (creation : Creation) → owners_of (tables ++ creation ∷ []) ≡ owners_of tables ++ creation.owner ∷ []
owners-push [] creation = refl
owners-push (first ∷ tables) creation = ap (λ os. first.owner ∷ os) (owners-push tables creation)

-- what is had, is had with one more grant, and with one more table
has_granted : (book : Entries) (grant : Grant) (user : ℕ) (need : Need) → has_now book user need ≡ true → has_now (with_grant book grant) user need ≡ true
unfolding has_by
has_granted book grant user need has =
    let test = λ (one : Grant). gives one user need in
    let owned : Bool = option_map_or (λ owner. owner == user) (slice_get (owners_of book.tables) need.table) false in
    let grants : List Grant = in_force book.records in
    rw (in_force-push book.records grant, list_any-append test grants (grant ∷ []))
    (elim (or_cases owned (list_any test grants) has) [
      | inl owns ↦ or_first owned (list_any test grants || list_any test (grant ∷ [])) owns
      | inr given ↦ or_right owned (list_any test grants || list_any test (grant ∷ [])) (or_first (list_any test grants) (list_any test (grant ∷ [])) given)
    ])

has_created : (book : Entries) (creation : Creation) (user : ℕ) (need : Need) → has_now book user need ≡ true → has_now (with_table book creation) user need ≡ true
unfolding has_by
has_created book creation user need has =
    let test = λ (one : Grant). gives one user need in
    let owns = λ (owner : ℕ). owner == user in
    let grants : List Grant = in_force book.records in
    let owners : List ℕ = owners_of book.tables in
    let later : Bool = option_map_or owns (slice_get (owners ++ creation.owner ∷ []) need.table) false in
    rw (owners-push book.tables creation)
    (elim (or_cases (option_map_or owns (slice_get owners need.table) false) (list_any test grants) has) [
      | inl is ↦ or_first later (list_any test grants) (owned_more owns owners (creation.owner ∷ []) need.table is)
      | inr given ↦ or_right later (list_any test grants) given
    ])

-- so what is remembered stays held
pub held_granted : {T E : Type 0} (result : Result T E) (old new : Entries) (memory : Memory) (grant : Grant) → OnOk result (new ≡ with_grant old grant)
    → OnErr result (new ≡ old) → AreHeld old memory → AreHeld new memory
held_granted (Err error) old new memory grant ok err are = subst (λ (book : Entries). AreHeld book memory) (sym err) are
held_granted (Ok value) old new memory grant ok err are =
    subst (λ (book : Entries). AreHeld book memory) (sym ok)
    (All-weaker (IsHeld old memory.revocations) (IsHeld (with_grant old grant) memory.revocations)
    (λ pair held same kind has. has_granted old grant pair.user (use_of pair.table kind) (held same kind has)) memory.pairs are)

pub held_created : {T E : Type 0} (result : Result T E) (old new : Entries) (memory : Memory) (creation : Creation) → OnOk result (new ≡ with_table old creation)
    → OnErr result (new ≡ old) → AreHeld old memory → AreHeld new memory
held_created (Err error) old new memory creation ok err are = subst (λ (book : Entries). AreHeld book memory) (sym err) are
held_created (Ok value) old new memory creation ok err are =
    subst (λ (book : Entries). AreHeld book memory) (sym ok)
    (All-weaker (IsHeld old memory.revocations) (IsHeld (with_table old creation) memory.revocations)
    (λ pair held same kind has. has_created old creation pair.user (use_of pair.table kind) (held same kind has)) memory.pairs are)

-- two lists of which all hold, and one of which all do
module _ {X : Type 0} (P : X → Type 0) where
  first_part : (xs ys : List X) → All P (xs ++ ys) → All P xs
  first_part xs ys all = subst (All P) (take-append_seam xs ys) (All-take P (length xs) (xs ++ ys) all)

  last_part : (xs ys : List X) → All P (xs ++ ys) → All P ys
  last_part xs ys all = subst (All P) (drop-append_seam xs ys) (All-drop P (length xs) (xs ++ ys) all)

  pub taken_whole : (n : ℕ) (xs : List X) → length xs ≤ n → All P (take n xs) → All P xs
  taken_whole n [] less all = All-nil P
  taken_whole zero (x ∷ xs) less all = absurd (omega arith)
  taken_whole (suc n) (x ∷ xs) less all = All-cons P x xs (All-head P x (take n xs) all) (taken_whole n xs (omega arith) (All-tail P x (take n xs) all))

  unmapped : {Y : Type 0} (f : Y → X) (ys : List Y) → All P (map f ys) → All (λ y. P (f y)) ys
  unmapped f [] all = All-nil (λ y. P (f y))
  unmapped f (y ∷ ys) all = All-cons (λ one. P (f one)) y ys (All-head P (f y) (map f ys) all) (unmapped f ys (All-tail P (f y) (map f ys) all))

-- what holds of each of some kinds holds of all that are listed, and the other way
module _ (P : Kind → Type 0) (kinds : Kinds) where
  listed_if : (kind : Kind) → (has_kind kinds kind ≡ true → P kind) → All P (kind_if kinds kind)
  listed_if kind each = by_cases (has_kind kinds kind) (λ is. rw is (All-cons P kind [] (each is) (All-nil P))) (λ not. rw not (All-nil P))

  listed : ((kind : Kind) → has_kind kinds kind ≡ true → P kind) → All P (kinds_in kinds)
  listed each =
      All-append P (kind_if kinds Kind.Read) (kind_if kinds Kind.Insert ++ (kind_if kinds Kind.Update ++ kind_if kinds Kind.Delete)) (listed_if Kind.Read (each Kind.Read))
      (All-append P (kind_if kinds Kind.Insert) (kind_if kinds Kind.Update ++ kind_if kinds Kind.Delete) (listed_if Kind.Insert (each Kind.Insert))
      (All-append P (kind_if kinds Kind.Update) (kind_if kinds Kind.Delete) (listed_if Kind.Update (each Kind.Update)) (listed_if Kind.Delete (each Kind.Delete))))

  each_if : (kind : Kind) → All P (kind_if kinds kind) → has_kind kinds kind ≡ true → P kind
  each_if kind all is = All-head P kind [] (rw is at all)

  each : All P (kinds_in kinds) → (kind : Kind) → has_kind kinds kind ≡ true → P kind
  each all Kind.Read is = each_if Kind.Read (first_part P (kind_if kinds Kind.Read) (kind_if kinds Kind.Insert ++ (kind_if kinds Kind.Update ++ kind_if kinds Kind.Delete)) all) is
  each all kind is =
      let three = last_part P (kind_if kinds Kind.Read) (kind_if kinds Kind.Insert ++ (kind_if kinds Kind.Update ++ kind_if kinds Kind.Delete)) all in
      let two = last_part P (kind_if kinds Kind.Insert) (kind_if kinds Kind.Update ++ kind_if kinds Kind.Delete) three in
      later kind is three two
    where
      later : (kind : Kind) → has_kind kinds kind ≡ true → All P (kind_if kinds Kind.Insert ++ (kind_if kinds Kind.Update ++ kind_if kinds Kind.Delete))
          → All P (kind_if kinds Kind.Update ++ kind_if kinds Kind.Delete) → P kind
      later Kind.Read is three two = each_if Kind.Read (first_part P (kind_if kinds Kind.Read) (kind_if kinds Kind.Insert ++ (kind_if kinds Kind.Update ++ kind_if kinds Kind.Delete)) all) is
      later Kind.Insert is three two = each_if Kind.Insert (first_part P (kind_if kinds Kind.Insert) (kind_if kinds Kind.Update ++ kind_if kinds Kind.Delete) three) is
      later Kind.Update is three two = each_if Kind.Update (first_part P (kind_if kinds Kind.Update) (kind_if kinds Kind.Delete) two) is
      later Kind.Delete is three two = each_if Kind.Delete (last_part P (kind_if kinds Kind.Update) (kind_if kinds Kind.Delete) two) is

module _ (book : Entries) (user : ℕ) where
  abbrev Had : Need → Type 0
  Had need = has_now book user need ≡ true

  -- the needs of an access are those of its kinds
  pub has_access : (access : Access) → ((kind : Kind) → has_kind access.kinds kind ≡ true → Had (use_of access.key.table kind)) → HasAll book user (needs_of_access access)
  has_access access held = All-map Had (need_of access) (kinds_in access.kinds) (listed (λ kind. Had (use_of access.key.table kind)) access.kinds held)

  pub has_kinds : (access : Access) → HasAll book user (needs_of_access access) → (kind : Kind) → has_kind access.kinds kind ≡ true → Had (use_of access.key.table kind)
  has_kinds access all = each (λ kind. Had (use_of access.key.table kind)) access.kinds (unmapped Had (need_of access) (kinds_in access.kinds) all)

  -- those of some accesses are those of each
  pub has_accesses : (accesses : List Access) → All (λ (access : Access). HasAll book user (needs_of_access access)) accesses → HasAll book user (flat_map needs_of_access accesses)
  has_accesses [] all = All-nil Had
  has_accesses (access ∷ accesses) all =
      let P : Access → Type 0 = λ one. HasAll book user (needs_of_access one) in
      All-append Had (needs_of_access access) (flat_map needs_of_access accesses) (All-head P access accesses all) (has_accesses accesses (All-tail P access accesses all))

  pub has_each_access : (accesses : List Access) → HasAll book user (flat_map needs_of_access accesses) → All (λ (access : Access). HasAll book user (needs_of_access access)) accesses
  has_each_access [] all = All-nil (λ (access : Access). HasAll book user (needs_of_access access))
  has_each_access (access ∷ accesses) all =
      All-cons (λ (one : Access). HasAll book user (needs_of_access one)) access accesses
      (first_part Had (needs_of_access access) (flat_map needs_of_access accesses) all)
      (has_each_access accesses (last_part Had (needs_of_access access) (flat_map needs_of_access accesses) all))

-- what the book has now, it tells at each later place
pub seen_later : (book : Entries) (place user : ℕ) (need : Need) → IsLater book place → holds_in (view_of book place) user need ≡ has_now book user need
seen_later book place user need later = ap (λ (records : List Record). has_by (slice_get (owners_of book.tables)) (in_force records) user need) (view-later book place later)

-- where all needs are had, none is missing
pub none_missing : (book : Entries) (place : ℕ) (owners : List ℕ) (deeds : List Deed) (user : ℕ) (needed : List Need) → IsLater book place
    → ShowsDeeds (view_of book place) owners deeds → Covers (view_of book place) needed → HasAll book user needed
    → find (λ need. not (holds owners deeds user need)) needed ≡ None
none_missing book place owners deeds user [] later shows covered all = refl
none_missing book place owners deeds user (need ∷ needed) later shows covered all =
    let Had : Need → Type 0 = λ one. has_now book user one ≡ true in
    let Covered : Need → Type 0 = λ one. IsTrue (covers (view_of book place) one.table) in
    let held : holds owners deeds user need ≡ true =
    sym (held_after (view_of book place) owners deeds user need shows (All-head Covered need needed covered))
    ∙ seen_later book place user need later ∙ All-head Had need needed all in
    rw held (none_missing book place owners deeds user needed later shows (All-tail Covered need needed covered) (All-tail Had need needed all))

-- what an admission found held, the book has
pub has_found : (book : Entries) (place user : ℕ) (needed : List Need) → IsLater book place
    → All (λ need. holds_in (view_of book place) user need ≡ true) needed → HasAll book user needed
has_found book place user needed later all =
    All-weaker (λ need. holds_in (view_of book place) user need ≡ true) (λ need. has_now book user need ≡ true)
    (λ need held. sym (seen_later book place user need later) ∙ held) needed all
