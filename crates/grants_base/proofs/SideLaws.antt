-- The slots of the grants that pass, in order.
use Rattle.std.proofs.Common.{◌≡◌, ℕ, zero, suc, ◌<◌, ◌+◌, ◌-◌, ◌&&◌, Bool, true, false, List, [], ◌∷◌, ◌++◌, Option, Some, length, take, refl, sym, ◌∙◌, ap, arith, subst, length-append, eq-eqb}
use Rattle.std.specs.Prelude.{◌==◌, All, Err, Ok, OnErr, Result, if◌then◌else◌, unwrap_or}
use Rattle.std.proofs.lemmas.Bool.{and_parts, eqb-true, ne_eqb, true≢false}
use Rattle.std.proofs.lemmas.List.{map-append}
use Rattle.std.proofs.lemmas.List.Elements.{All-cons, All-nil}
use Rattle.model_base.specs.declared.deed.Grant.{Grant}
use Rattle.model_base.specs.declared.deed.Grantee.{Grantee}
use Rattle.model_base.specs.declared.deed.Grantee.TheVariants.{Public, User}
use Rattle.model_base.specs.declared.deed.Kind.{Kind}
use Rattle.model_base.specs.declared.deed.Record.{Record}
use Rattle.model_base.specs.Privileges.{same_grantee, same_kind}
use Rattle.model_base.specs.Records.{recorded}
use Rattle.model_base.proofs.Replay.{by_cases}
use Rattle.grants_base.specs.Index.{is_about, is_one_of, IsFirst, IsNext, is_to, passes_at}
use Rattle.grants_base.specs.Sides.{AreAscending, Indexes, IsPopped, IsPushed, by_side, holder_code, is_made_by, same_side, side_of, slots_from, to_side}
use Rattle.model_base.specs.Ranks.{kind_code}
use Rattle.grants_base.specs.declared.index.HolderKey.{HolderKey}
use Rattle.grants_base.proofs.Indexing.{code-same, first_as, other_order}
use Rattle.grants_base.proofs.Walks.{length-recorded}

about_side : (user : Bool) (kind : Kind) (table : ℕ) (grant : Grant)
    → (user && ((grant.table == table) && (kind_code grant.kind == kind_code kind))) ≡ (user && is_about kind table grant)
about_side user kind table grant =
    ap (λ b. user && (b && (kind_code grant.kind == kind_code kind))) (other_order grant.table table)
    ∙ ap (λ b. user && ((table == grant.table) && b)) (code-same grant.kind kind)
    ∙ ap (λ b. user && b) (swapped (table == grant.table) (same_kind kind grant.kind))
  where
    swapped : (a b : Bool) → (a && b) ≡ (b && a)
    swapped true true = refl
    swapped true false = refl
    swapped false true = refl
    swapped false false = refl

-- the codes of two grantees are the same exactly if they are
pub holder_code-same : (a b : Grantee) → (holder_code a == holder_code b) ≡ same_grantee a b
holder_code-same (User a) (User b) =
    by_cases (a == b)
    (λ same. let one : a ≡ b = eqb-true a b same in eq-eqb (a + 1) (b + 1) (omega (arith, one)) ∙ sym same)
    (λ apart. ne_eqb (a + 1) (b + 1) (λ one. let same : a ≡ b = omega arith in true≢false (sym (eq-eqb a b same) ∙ apart)) ∙ sym apart)
holder_code-same (User a) Public = ne_eqb (a + 1) 0 (λ one. omega arith)
holder_code-same Public (User b) = ne_eqb 0 (b + 1) (λ one. omega arith)
holder_code-same Public Public = refl

about_holder : (a holder : Grantee) (kind : Kind) (table : ℕ) (grant : Grant)
    → ((holder_code a == holder_code holder) && ((grant.table == table) && (kind_code grant.kind == kind_code kind)))
    ≡ (same_grantee a holder && is_about kind table grant)
about_holder a holder kind table grant =
    ap (λ b. b && ((grant.table == table) && (kind_code grant.kind == kind_code kind))) (holder_code-same a holder)
    ∙ about_side (same_grantee a holder) kind table grant

-- a grant stands under the side of another exactly if it passes for that
pub to_side-same : (holder : Grantee) (kind : Kind) (table : ℕ) (grant : Grant) → same_side (to_side grant) (side_of holder kind table) ≡ is_to holder kind table grant
to_side-same holder kind table grant = about_holder grant.grantee holder kind table grant

pub by_side-same : (holder : Grantee) (kind : Kind) (table : ℕ) (grant : Grant) → same_side (by_side grant) (side_of holder kind table) ≡ is_made_by holder kind table grant
by_side-same holder kind table grant = about_holder (User grant.grantor) holder kind table grant

module _ (passes : Grant → Bool) where
  -- no slot lies below the first
  above : (start : ℕ) (grants : List Grant) (low : ℕ) → low < start → All (λ later. low < later) (slots_from passes start grants)
  above start [] low less = All-nil (λ later. low < later)
  above start (grant ∷ grants) low less =
      let rest = above (start + 1) grants low (omega arith) in
      by_cases (passes grant) (λ yes. rw yes (All-cons (λ later. low < later) start (slots_from passes (start + 1) grants) less rest)) (λ no. rw no rest)

  pub rising : (start : ℕ) (grants : List Grant) → AreAscending (slots_from passes start grants)
  rising start [] = tt
  rising start (grant ∷ grants) =
      by_cases (passes grant) (λ yes. rw yes (above (start + 1) grants start (omega arith), rising (start + 1) grants)) (λ no. rw no (rising (start + 1) grants))

  none_below : (start : ℕ) (grants : List Grant) (k : ℕ) → k < start → is_one_of (slots_from passes start grants) k ≡ false
  none_below start [] k less = refl
  none_below start (grant ∷ grants) k less =
      let rest = none_below (start + 1) grants k (omega arith) in
      let apart : (start == k) ≡ false = ne_eqb start k (λ same. omega arith) in
      by_cases (passes grant) (λ yes. rw (yes, apart) rest) (λ no. rw no rest)

  -- a slot is among them exactly if its grant passes
  among_from : (start : ℕ) (grants : List Grant) (k slot : ℕ) → slot ≡ start + k → is_one_of (slots_from passes start grants) slot ≡ passes_at passes grants k
  among_from start [] k slot is = refl
  among_from start (grant ∷ grants) zero slot is =
      let here : (start == slot) ≡ true = eq-eqb start slot (omega arith) in
      let later : is_one_of (slots_from passes (start + 1) grants) slot ≡ false = none_below (start + 1) grants slot (omega arith) in
      by_cases (passes grant) (λ yes. rw (yes, here) refl) (λ no. rw no later)
  among_from start (grant ∷ grants) (suc k) slot is =
      let rest = among_from (start + 1) grants k slot (omega arith) in
      let apart : (start == slot) ≡ false = ne_eqb start slot (λ same. omega arith) in
      by_cases (passes grant) (λ yes. rw (yes, apart) rest) (λ no. rw no rest)

  pub among : (grants : List Grant) (slot : ℕ) → is_one_of (slots_from passes 0 grants) slot ≡ passes_at passes grants slot
  among grants slot = among_from 0 grants slot slot (omega arith)

  -- with one grant more
  more_from : (start : ℕ) (grants : List Grant) (grant : Grant) (last : ℕ) → last ≡ start + length grants
      → slots_from passes start (grants ++ grant ∷ []) ≡ (if passes grant then slots_from passes start grants ++ last ∷ [] else slots_from passes start grants)
  more_from start [] grant last is =
      let here : start ≡ last = omega arith in
      by_cases (passes grant) (λ yes. rw yes (ap (λ (n : ℕ). n ∷ []) here)) (λ no. rw no refl)
  more_from start (first ∷ grants) grant last is =
      let rest = more_from (start + 1) grants grant last (omega arith) in
      by_cases (passes first)
      (λ yes. by_cases (passes grant)
      (λ one. rw (yes, one) (ap (λ slots. start ∷ slots) (rest ∙ rw one refl)))
      (λ none. rw (yes, none) (ap (λ slots. start ∷ slots) (rest ∙ rw none refl))))
      (λ no. by_cases (passes grant)
      (λ one. rw (no, one) (rest ∙ rw one refl))
      (λ none. rw (no, none) (rest ∙ rw none refl)))

  pub more : (entries : List Record) (entry : Record) (last : ℕ) → last ≡ length entries
      → slots_from passes 0 (recorded (entries ++ entry ∷ [])) ≡ (if passes entry.grant then slots_from passes 0 (recorded entries) ++ last ∷ [] else slots_from passes 0 (recorded entries))
  more entries entry last is =
      ap (slots_from passes 0) (map-append (λ (e : Record). e.grant) entries (entry ∷ []))
      ∙ more_from 0 (recorded entries) entry.grant last (omega (arith, length-recorded entries))

-- what is before the last
pub front : {X : Type 0} (xs : List X) (x : X) → take (length (xs ++ x ∷ []) - 1) (xs ++ x ∷ []) ≡ xs
front {X} xs x =
    let long : length (xs ++ x ∷ []) - 1 ≡ length xs = omega (arith, length-append xs (x ∷ [])) in
    ap (λ n. take n (xs ++ x ∷ [])) long ∙ whole xs
  where
    whole : (ys : List X) → take (length ys) (ys ++ x ∷ []) ≡ ys
    whole [] = refl
    whole (y ∷ ys) = ap (λ r. y ∷ r) (whole ys)

-- an index that was told of one slot more, and of one less
module _ (passes : Grantee → Kind → ℕ → Grant → Bool) (side : Grant → HolderKey)
    (same : (holder : Grantee) (kind : Kind) (table : ℕ) (grant : Grant) → same_side (side grant) (side_of holder kind table) ≡ passes holder kind table grant) where
  pub indexes_more : (old new : HolderKey → List ℕ) (entries : List Record) (entry : Record) (slot : ℕ) → slot ≡ length entries → Indexes passes old entries
      → IsPushed (side entry.grant) slot old new → Indexes passes new (entries ++ entry ∷ [])
  indexes_more old new entries entry slot last indexes told = λ user kind table.
      let at = side_of user kind table in
      told at
      ∙ ap (λ b. if b then old at ++ slot ∷ [] else old at) (same user kind table entry.grant)
      ∙ ap (λ (slots : List ℕ). if passes user kind table entry.grant then slots ++ slot ∷ [] else slots) (indexes user kind table)
      ∙ sym (more (passes user kind table) entries entry slot last)

  pub indexes_less : (old new : HolderKey → List ℕ) (entries : List Record) (entry : Record) → Indexes passes old (entries ++ entry ∷ [])
      → IsPopped (side entry.grant) old new → Indexes passes new entries
  indexes_less old new entries entry indexes told = λ user kind table.
      let at = side_of user kind table in
      let was = slots_from (passes user kind table) 0 (recorded entries) in
      let here = indexes user kind table ∙ more (passes user kind table) entries entry (length entries) refl in
      told at
      ∙ ap (λ b. if b then take (length (old at) - 1) (old at) else old at) (same user kind table entry.grant)
      ∙ ap (λ (slots : List ℕ). if passes user kind table entry.grant then take (length slots - 1) slots else slots) here
      ∙ by_cases (passes user kind table entry.grant) (λ yes. rw yes (front was (length entries))) (λ no. rw no refl)

-- with the same grants
pub indexes_as : (passes : Grantee → Kind → ℕ → Grant → Bool) (index : HolderKey → List ℕ) (entries now : List Record) → recorded now ≡ recorded entries → Indexes passes index entries → Indexes passes index now
indexes_as passes index entries now grants indexes = λ user kind table. indexes user kind table ∙ ap (slots_from (passes user kind table) 0) (sym grants)

-- the slots of an index rise, and what it finds is found among the grants
module _ (passes : Grantee → Kind → ℕ → Grant → Bool) (index : HolderKey → List ℕ) (entries : List Record) (user : Grantee) (kind : Kind) (table : ℕ) (indexes : Indexes passes index entries) where
  pub slots_rise : AreAscending (index (side_of user kind table))
  slots_rise = subst AreAscending (sym (indexes user kind table)) (rising (passes user kind table) 0 (recorded entries))

  pub next_found : (from : ℕ) (found : Option ℕ) → IsFirst (is_one_of (index (side_of user kind table))) from found → IsNext (passes user kind table) (recorded entries) from found
  next_found from found is =
      first_as (is_one_of (index (side_of user kind table))) (passes_at (passes user kind table) (recorded entries))
      (λ k. ap (λ slots. is_one_of slots k) (indexes user kind table) ∙ among (passes user kind table) (recorded entries) k) from found is

-- one slot more, and then one less
pub slots_back : (same : Bool) (was told now : List ℕ) (slot : ℕ) → told ≡ (if same then was ++ slot ∷ [] else was) → now ≡ (if same then take (length told - 1) told else told) → now ≡ was
slots_back true was told now slot more less = less ∙ ap (λ (slots : List ℕ). take (length slots - 1) slots) more ∙ front was slot
slots_back false was told now slot more less = less ∙ more

abbrev make : ℕ → ℕ → ℕ → HolderKey
make u t k = record { holder = u; table = t; kind = k }

pub side_true : (a b : HolderKey) → same_side a b ≡ true → a ≡ b
side_true a b is =
    let one = and_parts (a.holder == b.holder) ((a.table == b.table) && (a.kind == b.kind)) is in
    let two = and_parts (a.table == b.table) (a.kind == b.kind) one.1 in
    ap (λ u. make u a.table a.kind) (eqb-true a.holder b.holder one.0) ∙ ap (λ t. make b.holder t a.kind) (eqb-true a.table b.table two.0) ∙ ap (λ k. make b.holder b.table k) (eqb-true a.kind b.kind two.1)

-- slots that are changed under one side
pub put_by : (side other : HolderKey) (change : List ℕ → List ℕ) (value : List ℕ) (at was now : Option (List ℕ)) → value ≡ change (unwrap_or at []) → (same_side side other ≡ true → at ≡ was)
    → now ≡ (if same_side side other then Some value else was) → unwrap_or now [] ≡ (if same_side side other then change (unwrap_or was []) else unwrap_or was [])
put_by side other change value at was now is same told =
    by_cases (same_side side other)
    (λ here. let one : at ≡ was = same here in rw (told, here, is, one) refl)
    (λ apart. rw (told, apart) refl)

-- or aren't
pub put_same : (side other : HolderKey) (value : List ℕ) (at was now : Option (List ℕ)) → value ≡ unwrap_or at [] → (same_side side other ≡ true → at ≡ was)
    → now ≡ (if same_side side other then Some value else was) → unwrap_or now [] ≡ unwrap_or was []
put_same side other value at was now is same told =
    by_cases (same_side side other)
    (λ here. let one : at ≡ was = same here in rw (told, here, is, one) refl)
    (λ apart. rw (told, apart) refl)

-- what holds where there is an error gives what follows from it
pub on_err_from : {A E : Type 0} (result : Result A E) (P Q : Type 0) → (P → Q) → OnErr result P → OnErr result Q
on_err_from (Ok value) P Q gives holds = tt
on_err_from (Err error) P Q gives holds = gives holds
