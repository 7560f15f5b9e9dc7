-- How the slots of grants that are looked for are passed, one after another.
use Rattle.std.proofs.Common.{◌≡◌, ℕ, ◌+◌, ◌&&◌, ◌||◌, ◌<◌, ◌≤◌, not, Bool, true, false, Option, Some, None, eqb, is_none, length, refl, sym, ◌∙◌, ap, subst, arith, inl, inr}
use Rattle.std.specs.Prelude.{is_some, max, nat_lt, slice_get}
use Rattle.std.specs.Option.{option_map_or}
use Rattle.std.proofs.lemmas.Bool.{and_parts, cases_lt, eqb-true, le-ltb, lt-ltb, ltb-true, or_cases, or_right, true≢false}
use Rattle.std.proofs.lemmas.Option.{slice_get_past}
use Rattle.model_base.specs.declared.deed.Grant.{Grant}
use Rattle.model_base.specs.declared.deed.Record.{Record}
use Rattle.model_base.specs.Privileges.{same_grantee, same_kind}
use Rattle.model_base.proofs.Replay.{by_cases}
use Rattle.grants_base.specs.Force.{greatest_end, is_in_force, later_of}
use Rattle.grants_base.specs.Index.{IsFirst, IsNext, is_about, is_to, passes_at}
use Rattle.grants_base.specs.View.{View, end_in, grant_in, slot_at}
use Rattle.bohm_core_base.specs.Batch.{Batch, batch_slots, is_listed}
use Rattle.log_batch.specs.Earlier.{earlier_count, records_before}
use Rattle.log_batch.specs.Laws.{IsOfLog}
use Rattle.log_batch.specs.Supplied.{LogRange, batch_of, range_of}
use Rattle.log_batch.proofs.NoneBetween.{NoneBetween, one-passed, one-found, none-found}
use Rattle.evaluation.specs.Seen.{seen_at, seen_view}
use Rattle.evaluation.specs.Sought.{IsLastEnd, is_sought, is_up_to, is_wanted, open_grant, slot_end, sought_end}
use Rattle.evaluation.specs.declared.in_force.Sought.{Sought}
use Rattle.evaluation.proofs.Asked.{asked_seen}
use Rattle.evaluation.proofs.InForce.{ended-at, in-force-low, out-at, shown-at}
use Rattle.evaluation.proofs.LastEnds.{last-more, records-latest, records-there}

-- what a slot shows, by its grant and its end
open-parts : (passes : Grant → Bool) (slot : Option Record) → open_grant passes (grant_in slot) (end_in slot) ≡ is_in_force passes slot
open-parts passes None = refl
open-parts passes (Some entry) = refl

end-parts : (passes : Grant → Bool) (slot : Option Record) → sought_end passes (grant_in slot) (end_in slot) ≡ slot_end passes slot
end-parts passes None = refl
end-parts passes (Some entry) = refl

pub open-shown : (passes : Grant → Bool) (slot : Option Record) (grant : Option Grant) (end : Option ℕ) → grant ≡ grant_in slot → end ≡ end_in slot
    → open_grant passes grant end ≡ is_in_force passes slot
open-shown passes slot grant end given ended = rw (given, ended) (open-parts passes slot)

pub end-shown : (passes : Grant → Bool) (slot : Option Record) (grant : Option Grant) (end : Option ℕ) → grant ≡ grant_in slot → end ≡ end_in slot
    → sought_end passes grant end ≡ slot_end passes slot
end-shown passes slot grant end given ended = rw (given, ended) (end-parts passes slot)

-- a place that is looked at is one that was looked at before
pub last-same : (passes : Grant → Bool) (view : View) (looked more : ℕ → Bool) (last : Option ℕ) → IsLastEnd passes view looked last
    → ((k : ℕ) → more k ≡ true → looked k ≡ true) → IsLastEnd passes view more last
last-same passes view looked more last is only = record { there = is.there; latest = λ k place seen found. is.latest k place (only k seen) found }

-- whether a slot shows a grant in force that passes, also one from before the batch; and whether one was in force there
abbrev pub force_in : LogRange → ℕ → (Grant → Bool) → ℕ → Bool
force_in ranged index passes k = is_in_force passes (slot_at (seen_view (seen_at ranged index)) k)

abbrev pub early_in : LogRange → ℕ → (Grant → Bool) → ℕ → Bool
early_in ranged index passes k = nat_lt k (earlier_count (batch_of ranged)) && force_in ranged index passes k

abbrev pub was_in : LogRange → (Grant → Bool) → ℕ → Bool
was_in ranged passes k = is_in_force passes (slice_get (records_before (batch_of ranged)) k)

-- whether a slot from before the batch lies below one, or had no such grant in force
abbrev pub looked_in : LogRange → (Grant → Bool) → ℕ → ℕ → Bool
looked_in ranged passes from k = nat_lt k (earlier_count (batch_of ranged)) && (nat_lt k from || not (was_in ranged passes k))

module _ (ranged : LogRange) (of_log : IsOfLog (range_of ranged)) (index : ℕ) where
  abbrev batch : Batch
  batch = batch_of ranged

  abbrev view : View
  view = seen_view (seen_at ranged index)

  module _ (passes : Grant → Bool) where
    abbrev shows_force : ℕ → Bool
    shows_force = force_in ranged index passes

    abbrev shows_early : ℕ → Bool
    shows_early = early_in ranged index passes

    abbrev was_force : ℕ → Bool
    was_force = was_in ranged passes

    -- what wasn't in force as the batch began isn't
    early-out : (k : ℕ) → was_force k ≡ false → shows_early k ≡ false
    early-out k out =
        elim (cases_lt k (earlier_count batch)) [
          | inl less ↦ rw (lt-ltb k (earlier_count batch) less) (out-at ranged of_log index passes k less out)
          | inr over ↦ rw (le-ltb k (earlier_count batch) over) refl
        ]

    early-in : (k : ℕ) → k < earlier_count batch → (b : Bool) → shows_force k ≡ b → shows_early k ≡ b
    early-in k less b is = rw (lt-ltb k (earlier_count batch) less) is

    pub early-passed : (start from slot : ℕ) → NoneBetween shows_early start from → IsFirst was_force from (Some slot) → shows_force slot ≡ false
        → NoneBetween shows_early start (slot + 1)
    early-passed start from slot so_far first here =
        one-passed shows_early start from so_far slot (λ k low high. early-out k (first.2 k low high))
        (early-in slot (in-force-low ranged of_log index passes slot first.1) false here)

    pub early-found : (start from slot : ℕ) → start ≤ from → NoneBetween shows_early start from → IsFirst was_force from (Some slot) → shows_force slot ≡ true
        → IsFirst shows_early start (Some slot)
    early-found start from slot above so_far first here =
        one-found shows_early start from so_far slot above first.0 (λ k low high. early-out k (first.2 k low high))
        (early-in slot (in-force-low ranged of_log index passes slot first.1) true here)

    pub early-none : (start from : ℕ) → NoneBetween shows_early start from → IsFirst was_force from None → IsFirst shows_early start None
    early-none start from so_far first = none-found shows_early start from so_far (λ k low. early-out k (first k low))

    pub early-all : (start from : ℕ) → NoneBetween shows_early start from → earlier_count batch ≤ from → IsFirst shows_early start None
    early-all start from so_far over =
        none-found shows_early start from so_far (λ k low. (let past : earlier_count batch ≤ k = omega arith in rw (le-ltb k (earlier_count batch) past) refl))

    -- one from before the batch is the first of all, and where there is none the first of the others is
    first-early : (from slot : ℕ) → IsFirst shows_early from (Some slot) → IsFirst shows_force from (Some slot)
    first-early from slot first =
        let here = and_parts (nat_lt slot (earlier_count batch)) (shows_force slot) first.1 in
        let low = ltb-true slot (earlier_count batch) here.0 in (
          first.0,
          here.1,
          λ k above less.
              let within : k < earlier_count batch = omega arith in
              sym (ap (λ b. b && shows_force k) (lt-ltb k (earlier_count batch) within)) ∙ first.2 k above less,
        )

    none-early : (from : ℕ) → IsFirst shows_early from None → (k : ℕ) → from ≤ k → k < earlier_count batch → shows_force k ≡ false
    none-early from none k low less = sym (ap (λ b. b && shows_force k) (lt-ltb k (earlier_count batch) less)) ∙ none k low

    first-own : (from own : ℕ) (found : Option ℕ) → own ≡ max from (earlier_count batch) → IsFirst shows_early from None → IsFirst shows_force own found
        → IsFirst shows_force from found
    first-own from own None is none first = λ k low.
        elim (cases_lt k (earlier_count batch)) [
          | inl less ↦ none-early from none k low less
          | inr over ↦ first k (omega arith)
        ]
    first-own from own (Some slot) is none first = (
      (let low = first.0 in omega arith),
      first.1,
      λ k low less. elim (cases_lt k (earlier_count batch)) [
        | inl early ↦ none-early from none k low early
        | inr over ↦ first.2 k (omega arith) less
      ],
    )

    pub first-there : (from : ℕ) (found : Option ℕ) → IsFirst shows_early from found → is_some found ≡ true → IsFirst shows_force from found
    first-there from None first some = absurd (true≢false (sym some))
    first-there from (Some slot) first some = first-early from slot first

    pub first-after : (from own : ℕ) (early found : Option ℕ) → own ≡ max from (earlier_count batch) → IsFirst shows_early from early → is_some early ≡ false
        → IsFirst shows_force own found → IsFirst shows_force from found
    first-after from own None found is first none next = first-own from own found is first next
    first-after from own (Some slot) found is first none next = absurd (true≢false none)

    -- the ends: what was looked at of the slots before the batch, where some are passed
    abbrev looked_early : ℕ → ℕ → Bool
    looked_early = looked_in ranged passes

    pub last-start : ((grant : Grant) → passes grant ≡ true → is_listed (batch.tables index) grant.table ≡ true)
        → (last : Option ℕ) → last ≡ greatest_end passes (records_before batch) → IsLastEnd passes view (looked_early 0) last
    last-start on last is = record {
      there = λ place found.
          let made = records-there passes (records_before batch) place (sym is ∙ found) in
          (made.0, shown-at ranged of_log index passes on made.0 place made.1);
      latest = λ k place looked found.
          let parts = and_parts (nat_lt k (earlier_count batch)) (nat_lt k 0 || not (was_force k)) looked in
          let low = ltb-true k (earlier_count batch) parts.0 in
          let none : nat_lt k 0 ≡ false = le-ltb k 0 (omega arith) in
          let out : was_force k ≡ false = not_true (was_force k) (sym (ap (λ b. b || not (was_force k)) none) ∙ parts.1) in
          ap (λ end. is_up_to end place) is
          ∙ records-latest passes (records_before batch) k place (ended-at ranged of_log index passes k place low out found);
    }
      where
        not_true : (b : Bool) → not b ≡ true → b ≡ false
        not_true true is = absurd (true≢false (sym is))
        not_true false is = refl

    pub last-early : (from slot : ℕ) (last end : Option ℕ) → IsLastEnd passes view (looked_early from) last → IsFirst was_force from (Some slot)
        → end ≡ slot_end passes (slot_at view slot) → IsLastEnd passes view (looked_early (slot + 1)) (later_of last end)
    last-early from slot last end is first at =
        last-more passes view (looked_early from) (looked_early (slot + 1)) last end slot is at
        (λ k place looked found.
        let parts = and_parts (nat_lt k (earlier_count batch)) (nat_lt k (slot + 1) || not (was_force k)) looked in
        elim (cases_lt k from) [
          | inl before ↦ inl (rw (parts.0, lt-ltb k from before) refl)
          | inr after ↦ elim (cases_lt k slot) [
            | inl less ↦ inl (rw (parts.0, first.2 k after less) (or_right (nat_lt k from) true refl))
            | inr over ↦ elim (or_cases (nat_lt k (slot + 1)) (not (was_force k)) parts.1) [
              | inl here ↦ (let most = ltb-true k (slot + 1) here in inr (omega arith))
              | inr out ↦ inl (rw (parts.0, out) (or_right (nat_lt k from) true refl))
            ]
          ]
        ])

    pub last-early-none : (from : ℕ) (last : Option ℕ) → IsLastEnd passes view (looked_early from) last → IsFirst was_force from None
        → IsLastEnd passes view (λ k. nat_lt k (earlier_count batch)) last
    last-early-none from last is first =
        last-same passes view (looked_early from) (λ k. nat_lt k (earlier_count batch)) last is
        (λ k low. elim (cases_lt k from) [
          | inl before ↦ rw (low, lt-ltb k from before) refl
          | inr after ↦ rw (low, first k after) (or_right (nat_lt k from) true refl)
        ])

    pub last-early-all : (from : ℕ) (last : Option ℕ) → IsLastEnd passes view (looked_early from) last → earlier_count batch ≤ from
        → IsLastEnd passes view (λ k. nat_lt k (earlier_count batch)) last
    last-early-all from last is over =
        last-same passes view (looked_early from) (λ k. nat_lt k (earlier_count batch)) last is
        (λ k low. (let less = ltb-true k (earlier_count batch) low in let before : k < from = omega arith in rw (low, lt-ltb k from before) refl))

  module _ (sought : Sought) where
    abbrev asks : Grant → Bool
    asks = is_to sought.holder.grantee sought.holder.kind sought.holder.table

    -- such a grant is on the table that is looked for
    pub sought-on : is_listed (batch.tables index) sought.holder.table ≡ true → (grant : Grant) → is_sought sought grant ≡ true
        → is_listed (batch.tables index) grant.table ≡ true
    sought-on listed grant is =
        let to = (and_parts (asks grant) (is_wanted sought.wanted grant) is).0 in
        let about = (and_parts (same_grantee grant.grantee sought.holder.grantee) (is_about sought.holder.kind sought.holder.table grant) to).1 in
        let same : sought.holder.table ≡ grant.table = eqb-true sought.holder.table grant.table (and_parts (same_kind sought.holder.kind grant.kind) (eqb sought.holder.table grant.table) about).1 in
        subst (λ table. is_listed (batch.tables index) table ≡ true) same listed

    -- a slot that shows such a grant asks for one
    asks-at : (k : ℕ) (grant : Grant) → grant_in (slot_at view k) ≡ Some grant → is_sought sought grant ≡ true → passes_at asks (batch_slots batch) k ≡ true
    asks-at k grant shown sought_it =
        ap (λ found. option_map_or asks found false) ((asked_seen ranged index of_log).each k grant shown)
        ∙ (and_parts (asks grant) (is_wanted sought.wanted grant) sought_it).0

    unasked : (k : ℕ) → passes_at asks (batch_slots batch) k ≡ false → (slot : Option Record) → slot_at view k ≡ slot
        → (is_in_force (is_sought sought) slot ≡ false) × (slot_end (is_sought sought) slot ≡ None)
    unasked k never None is = (refl, refl)
    unasked k never (Some entry) is =
        by_cases (is_sought sought entry.grant)
        (λ yes. absurd (true≢false (sym (asks-at k entry.grant (ap grant_in is) yes) ∙ never)))
        (λ no. (rw no (and-none (is_none entry.end)), rw no refl))
      where
        and-none : (a : Bool) → (a && false) ≡ false
        and-none true = refl
        and-none false = refl

    past-asked : (k : ℕ) → length (batch_slots batch) ≤ k → passes_at asks (batch_slots batch) k ≡ false
    past-asked k over = ap (λ found. option_map_or asks found false) (slice_get_past (batch_slots batch) k over)

    pub own-out : (k : ℕ) → passes_at asks (batch_slots batch) k ≡ false → force_in ranged index (is_sought sought) k ≡ false
    own-out k never = (unasked k never (slot_at view k) refl).0

    pub own-end : (k : ℕ) → passes_at asks (batch_slots batch) k ≡ false → slot_end (is_sought sought) (slot_at view k) ≡ None
    own-end k never = (unasked k never (slot_at view k) refl).1

    pub own-passed : (start from slot : ℕ) → NoneBetween (force_in ranged index (is_sought sought)) start from → IsNext asks (batch_slots batch) from (Some slot)
        → force_in ranged index (is_sought sought) slot ≡ false → NoneBetween (force_in ranged index (is_sought sought)) start (slot + 1)
    own-passed start from slot so_far next here =
        one-passed (force_in ranged index (is_sought sought)) start from so_far slot (λ k low high. own-out k (next.2 k low high)) here

    pub own-found : (start from slot : ℕ) → start ≤ from → NoneBetween (force_in ranged index (is_sought sought)) start from
        → IsNext asks (batch_slots batch) from (Some slot) → force_in ranged index (is_sought sought) slot ≡ true
        → IsFirst (force_in ranged index (is_sought sought)) start (Some slot)
    own-found start from slot above so_far next here =
        one-found (force_in ranged index (is_sought sought)) start from so_far slot above next.0 (λ k low high. own-out k (next.2 k low high)) here

    pub own-none : (start from : ℕ) → NoneBetween (force_in ranged index (is_sought sought)) start from → IsNext asks (batch_slots batch) from None
        → IsFirst (force_in ranged index (is_sought sought)) start None
    own-none start from so_far next = none-found (force_in ranged index (is_sought sought)) start from so_far (λ k low. own-out k (next k low))

    pub own-all : (start from : ℕ) → NoneBetween (force_in ranged index (is_sought sought)) start from → length (batch_slots batch) ≤ from
        → IsFirst (force_in ranged index (is_sought sought)) start None
    own-all start from so_far over =
        none-found (force_in ranged index (is_sought sought)) start from so_far (λ k low. own-out k (past-asked k (omega arith)))

    -- the ends of all slots below one
    pub last-own : (from slot : ℕ) (last end : Option ℕ) → IsLastEnd (is_sought sought) view (λ k. nat_lt k from) last
        → IsNext asks (batch_slots batch) from (Some slot) → end ≡ slot_end (is_sought sought) (slot_at view slot)
        → IsLastEnd (is_sought sought) view (λ k. nat_lt k (slot + 1)) (later_of last end)
    last-own from slot last end is next at =
        last-more (is_sought sought) view (λ k. nat_lt k from) (λ k. nat_lt k (slot + 1)) last end slot is at
        (λ k place looked found.
        let most = ltb-true k (slot + 1) looked in
        elim (cases_lt k from) [
          | inl before ↦ inl (lt-ltb k from before)
          | inr after ↦ elim (cases_lt k slot) [
            | inl less ↦ absurd (let never : None ≡ Some place = sym (own-end k (next.2 k after less)) ∙ found in cc)
            | inr over ↦ inr (omega arith)
          ]
        ])

    all-walked : (from : ℕ) (last : Option ℕ) → IsLastEnd (is_sought sought) view (λ k. nat_lt k from) last
        → ((k : ℕ) → from ≤ k → slot_end (is_sought sought) (slot_at view k) ≡ None) → IsLastEnd (is_sought sought) view (λ _. true) last
    all-walked from last is never = record {
      there = is.there;
      latest = λ k place looked found. elim (cases_lt k from) [
        | inl before ↦ is.latest k place (lt-ltb k from before) found
        | inr after ↦ absurd (let none : None ≡ Some place = sym (never k after) ∙ found in cc)
      ];
    }

    pub last-own-none : (from : ℕ) (last : Option ℕ) → IsLastEnd (is_sought sought) view (λ k. nat_lt k from) last
        → IsNext asks (batch_slots batch) from None → IsLastEnd (is_sought sought) view (λ _. true) last
    last-own-none from last is next = all-walked from last is (λ k low. own-end k (next k low))

    pub last-own-all : (from : ℕ) (last : Option ℕ) → IsLastEnd (is_sought sought) view (λ k. nat_lt k from) last
        → length (batch_slots batch) ≤ from → IsLastEnd (is_sought sought) view (λ _. true) last
    last-own-all from last is over = all-walked from last is (λ k low. own-end k (past-asked k (omega arith)))
