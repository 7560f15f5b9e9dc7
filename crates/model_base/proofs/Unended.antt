-- A record has no end exactly if its grant is in force, and what is held by records is seen at each of them.
use Rattle.std.proofs.Common.{◌≡◌, ℕ, ◌||◌, ◌&&◌, Bool, true, false, List, [], ◌∷◌, refl, sym, ◌∙◌, ap, eq-eqb, Option, Some, None, is_none}
use Rattle.std.specs.Prelude.{All, Contains, ◌==◌}
use Rattle.std.specs.List.{list_any}
use Rattle.std.proofs.lemmas.Bool.{or_right, true≢false}
use Rattle.std.proofs.lemmas.List.Elements.{All-nil, All-cons, All-map, All-weaker, All-contains_itself}
use Rattle.model_base.specs.declared.deed.Grant.{Grant}
use Rattle.model_base.specs.declared.deed.Record.{Record}
use Rattle.model_base.specs.declared.deed.Need.{Need}
use Rattle.model_base.specs.declared.deed.Deed.{Deed}
use Rattle.model_base.specs.Ranks.{rank}
use Rattle.model_base.specs.Privileges.{owns, gives, has, kept, is_among, IsProper}
use Rattle.model_base.specs.Records.{grants_of, end_after, record_of, records, in_force, holds_by}
use Rattle.model_base.proofs.Replay.{by_cases}
use Rattle.model_base.proofs.Records.{in_force-records}
use Rattle.model_base.proofs.Recorded.{All-both}
use Rattle.model_base.proofs.Ends.{end-out}

-- the grant of a record without an end is among those in force by the records
among-unended : (entries : List Record) → All (λ entry. is_none entry.end ≡ true → is_among (rank entry.grant) (in_force entries) ≡ true) entries
among-unended [] = All-nil (λ entry. is_none entry.end ≡ true → is_among (rank entry.grant) [] ≡ true)
among-unended (entry ∷ entries) =
    let Found : Record → Type 0 = λ x. is_none x.end ≡ true → is_among (rank x.grant) (in_force (entry ∷ entries)) ≡ true in
    All-cons Found entry entries (λ unended. rw (unended, eq-eqb (rank entry.grant) (rank entry.grant) refl) refl)
    (All-weaker (λ x. is_none x.end ≡ true → is_among (rank x.grant) (in_force entries) ≡ true) Found (λ x found unended. later x (found unended)) entries
    (among-unended entries))
  where
    later : (x : Record) → is_among (rank x.grant) (in_force entries) ≡ true → is_among (rank x.grant) (in_force (entry ∷ entries)) ≡ true
    later x found =
        by_cases (is_none entry.end)
        (λ unended. rw unended (or_right (rank entry.grant == rank x.grant) (is_among (rank x.grant) (in_force entries)) found))
        (λ ended. rw ended found)

module _ (owners : List ℕ) where
  -- the grant of a record with an end isn't in force
  ended-out : (deeds : List Deed) → IsProper owners deeds
      → All (λ entry. is_none entry.end ≡ false → is_among (rank entry.grant) (kept owners deeds) ≡ false) (records owners deeds)
  ended-out deeds proper =
      All-map (λ entry. is_none entry.end ≡ false → is_among (rank entry.grant) (kept owners deeds) ≡ false) (record_of owners deeds) (grants_of deeds)
      (All-weaker (Contains (grants_of deeds)) (λ grant. is_none (end_after owners [] deeds (rank grant)) ≡ false → is_among (rank grant) (kept owners deeds) ≡ false)
      (λ grant here ended. by_end grant (end_after owners [] deeds (rank grant)) refl ended) (grants_of deeds) (All-contains_itself (grants_of deeds)))
    where
      by_end : (grant : Grant) (end : Option ℕ) → end_after owners [] deeds (rank grant) ≡ end → is_none end ≡ false → is_among (rank grant) (kept owners deeds) ≡ false
      by_end grant None is ended = absurd (true≢false ended)
      by_end grant (Some end) is ended = end-out owners [] deeds (rank grant) end proper is

  -- a record has no end exactly if its grant is in force
  pub records-unended : (deeds : List Deed) → IsProper owners deeds
      → All (λ entry. is_none entry.end ≡ is_among (rank entry.grant) (kept owners deeds)) (records owners deeds)
  records-unended deeds proper =
      let Stands : Record → Type 0 = λ entry. is_none entry.end ≡ true → is_among (rank entry.grant) (in_force (records owners deeds)) ≡ true in
      let Fell : Record → Type 0 = λ entry. is_none entry.end ≡ false → is_among (rank entry.grant) (kept owners deeds) ≡ false in
      All-weaker (λ entry. Stands entry × Fell entry) (λ entry. is_none entry.end ≡ is_among (rank entry.grant) (kept owners deeds))
      (λ entry both. by_cases (is_none entry.end)
      (λ unended. unended ∙ sym (rw (in_force-records owners deeds proper) at (both.0 unended)))
      (λ ended. ended ∙ sym (both.1 ended)))
      (records owners deeds) (All-both Stands Fell (records owners deeds) (among-unended (records owners deeds)) (ended-out deeds proper))

  -- a test on the grants in force is one on the records
  any-in_force : (test : Grant → Bool) (entries : List Record)
      → list_any test (in_force entries) ≡ list_any (λ (entry : Record). is_none entry.end && test entry.grant) entries
  any-in_force test [] = refl
  any-in_force test (entry ∷ entries) =
      by_cases (is_none entry.end)
      (λ unended. rw (unended, any-in_force test entries) refl)
      (λ ended. rw (ended, any-in_force test entries) refl)

  -- the user holds what is needed by the records as the table's owner, or one of them without an end gives it
  pub holds_by-each : (entries : List Record) (user : ℕ) (need : Need)
      → holds_by owners entries user need ≡ (owns owners user need.table || list_any (λ (entry : Record). is_none entry.end && gives entry.grant user need) entries)
  unfolding has
  holds_by-each entries user need = ap (λ b. owns owners user need.table || b) (any-in_force (λ grant. gives grant user need) entries)
