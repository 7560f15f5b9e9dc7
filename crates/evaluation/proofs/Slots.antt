-- What a place is shown: its slots one by one, and that they have the records of the deeds before it.
use Rattle.std.proofs.Common.{◌≡◌, ◌==◌, ◌&&◌, ◌<◌, ◌≤◌, ◌+◌, ◌-◌, ℕ, zero, suc, Bool, true, false, Option, Some, None, List, [], ◌∷◌, get_or, length, filter, refl, sym, ◌∙◌, ap, subst, arith}
use Rattle.std.specs.Prelude.{All, IsSome, nat_lt, slice_get, slice_index_or}
use Rattle.std.specs.List.{flat_map}
use Rattle.std.specs.Option.{option_to_list}
use Rattle.std.proofs.lemmas.List.{get_or-map, length-map}
use Rattle.std.proofs.lemmas.Option.{get_or_from_slice_get, slice_get-get_or, slice_get_within}
use Rattle.std.proofs.lemmas.Bool.{eq-eqb, le-ltb, lt-ltb}
use Rattle.std.proofs.lemmas.List.Folds.{list_any_at}
use Rattle.std.proofs.lemmas.List.Elements.{All-get_or, All-head, All-map, All-tail, All-weaker}
use Rattle.model_base.specs.declared.deed.Deed.{Deed}
use Rattle.model_base.specs.declared.deed.Grant.{Grant}
use Rattle.model_base.specs.declared.deed.Record.{Record}
use Rattle.model_base.specs.declared.statement.Statement.{Statement}
use Rattle.model_base.specs.Ranks.{rank}
use Rattle.model_base.specs.Outcomes.{deeds_before, owners}
use Rattle.model_base.specs.Records.{covered, end_below, grants_of, record_of, records}
use Rattle.model_base.specs.References.{tables_of}
use Rattle.model_base.proofs.Covered.{contrary}
use Rattle.model_base.proofs.Growth.{deeds_before-stands}
use Rattle.model_base.proofs.MoreOwners.{tables-proper}
use Rattle.model_base.proofs.Replay.{by_cases}
use Rattle.grants_base.specs.View.{IsLawful, ShowsDeeds, covers, end_in, flatten, grant_in, slot_at}
use Rattle.grants.proofs.LawfulViews.{lawful_shown}
use Rattle.sequencer.specs.Log.{Accepted}
use Rattle.sequencer.specs.Whole.{IsAccepted, IsWhole}
use Rattle.bohm_core_base.specs.Batch.{Batch, place_has_deed_on, is_listed, rank_at, records_shown, batch_slots, table_at, was_done}
use Rattle.bohm_core_base.specs.Deeds.{is_made}
use Rattle.bohm_core_base.specs.Serial.{serial_words, whole_end}
use Rattle.bohm_core_base.proofs.View.{shown-same}
use Rattle.bohm_core_base.proofs.Whole.{no_grant, place_at, slots-deed, slots-right}
use Rattle.log_batch.specs.Laws.{IsOfLog}
use Rattle.log_batch.specs.Supplied.{LogRange, batch_of, range_of}
use Rattle.log_batch.proofs.SerialRuns.{serial_runs_agree}
use Rattle.log_batch.proofs.Sound.{batches_are_sound}
use Rattle.evaluation.specs.Seen.{Seen, seen_at, seen_view, slot_seen, slots_seen}
use Rattle.evaluation.specs.ReadSource.{IsDeedBefore, end_whole, ends_whole, made_whole}
use Rattle.evaluation.proofs.Listed.{listed-holds}

module _ (tables : List ℕ) (place : ℕ) (made : ℕ → Bool) where
  -- a slot that has a grant and an end is that of the two
  slot_at_seen : (grants : List Grant) (ends : List (Option ℕ)) (slot : ℕ) (grant : Grant)
      → slot < length (slots_seen tables place made grants ends) → slice_get grants slot ≡ Some grant
      → slice_get (slots_seen tables place made grants ends) slot ≡ Some (slot_seen tables place made grant (slice_index_or ends slot None))
  slot_at_seen [] ends slot grant within at = absurd (omega arith)
  slot_at_seen (first ∷ grants) [] slot grant within at = absurd (omega arith)
  slot_at_seen (first ∷ grants) (end ∷ ends) zero grant within at = cc
  slot_at_seen (first ∷ grants) (end ∷ ends) (suc slot) grant within at = slot_at_seen grants ends slot grant (omega arith) at

  -- there are as many as there are grants, if each has an end
  slots_count : (grants : List Grant) (ends : List (Option ℕ)) → length ends ≡ length grants → length (slots_seen tables place made grants ends) ≡ length grants
  slots_count [] ends same = refl
  slots_count (grant ∷ grants) [] same = cc
  slots_count (grant ∷ grants) (end ∷ ends) same = ap suc (slots_count grants ends (omega arith))

  -- the records in the slots are those that the place is shown
  slots-records : (grants : List Grant) (ends : List (Option ℕ))
      → flat_map option_to_list (slots_seen tables place made grants ends) ≡ records_shown tables place made grants ends
  slots-records [] ends = refl
  slots-records (grant ∷ grants) [] = refl
  slots-records (grant ∷ grants) (end ∷ ends) =
      let rest = slots-records grants ends in
      by_cases (is_listed tables grant.table && (nat_lt grant.place place && made grant.place))
      (λ shown. rw (shown, rest) refl)
      (λ other. rw (other, rest) refl)

-- records that pass one test exactly if they pass another
filter-same : (first second : Record → Bool) (entries : List Record) → All (λ entry. first entry ≡ second entry) entries → filter first entries ≡ filter second entries
filter-same first second [] all = refl
filter-same first second (entry ∷ entries) all =
    let rest = filter-same first second entries (All-tail (λ x. first x ≡ second x) entry entries all) in
    rw (All-head (λ x. first x ≡ second x) entry entries all, rest) refl

-- a table that there is has an owner exactly if it is listed
listed-owned : (seen : Seen) (table : ℕ) → (is_listed seen.tables table ≡ true → table < length seen.owners) → is_listed seen.tables table ≡ covers (seen_view seen) table
listed-owned seen table there =
    by_cases (is_listed seen.tables table)
    (λ listed. rw (listed, slice_get-get_or seen.owners table 0 (there listed)) refl)
    (λ other. rw other refl)

module _ (ranged : LogRange) (of_log : IsOfLog (range_of ranged)) where
  abbrev batch : Batch
  batch = batch_of ranged

  abbrev log : List Statement
  log = ranged.log.statements

  -- there is a slot for each grant
  pub slots-all : (index : ℕ) → length (seen_at ranged index).slots ≡ length (batch_slots batch)
  slots-all index =
      slots_count (batch.tables index) (ranged.first + index) (made_whole batch) (batch_slots batch) (ends_whole batch)
      (length-map (batch_slots batch) (λ (grant : Grant). end_whole batch (rank grant)))

  -- what an index is shown has the records of the deeds before its place
  pub shows_seen : (index : ℕ) → index ≤ ranged.size
      → ShowsDeeds (seen_view (seen_at ranged index)) (owners log) (deeds_before log (ranged.first + index))
  shows_seen index within =
      let place = ranged.first + index in
      let deeds = deeds_before log place in
      let tables = batch.tables index in
      let seen = seen_at ranged index in
      let grants = batch_slots batch in
      let ends = ends_whole batch in
      let sound = batches_are_sound (range_of ranged) of_log in
      let stands = deeds_before-stands log place in
      let on : All (λ (entry : Record). is_listed tables entry.grant.table ≡ covers (seen_view seen) entry.grant.table) (records (owners log) deeds) =
      All-map (λ (entry : Record). is_listed tables entry.grant.table ≡ covers (seen_view seen) entry.grant.table) (record_of (owners log) deeds) (grants_of deeds)
      (All-weaker (λ (grant : Grant). grant.table < length (owners log)) (λ (grant : Grant). is_listed tables grant.table ≡ covers (seen_view seen) grant.table)
      (λ grant there. listed-owned seen grant.table (λ listed. there)) (grants_of deeds) (tables-proper (owners log) deeds stands.proper)) in
      record {
        proper = stands.proper;
        below = stands.below;
        owned = λ table told.
            by_cases (is_listed tables table)
            (λ yes. rw yes refl)
            (λ no. contrary (covers (seen_view seen) table) told (rw no refl));
        same =
            slots-records tables place (made_whole batch) grants ends
            ∙ shown-same tables place (made_whole batch) (made_whole batch) (end_whole batch) grants ends (length-map grants (λ (grant : Grant). end_whole batch (rank grant)))
            (λ k below listed. (
              ap (end_below place)
                  (get_or-map (λ (grant : Grant). end_whole batch (rank grant)) grants k no_grant None below
                  ∙ ap (end_whole batch) (sym (get_or-map rank grants k no_grant 0 below))),
              refl,
            ))
            ∙ ap (covered (is_listed tables)) (slots-right batch sound index within)
            ∙ ap (λ (made : List Deed). covered (is_listed tables) (records (owners log) made)) (serial_runs_agree (range_of ranged) of_log index).deeds
            ∙ filter-same (λ (entry : Record). is_listed tables entry.grant.table) (λ (entry : Record). covers (seen_view seen) entry.grant.table) (records (owners log) deeds) on;
      }

  -- so it is lawful
  pub lawful_seen : (index : ℕ) → index ≤ ranged.size → IsLawful (seen_view (seen_at ranged index))
  lawful_seen index within = lawful_shown (seen_view (seen_at ranged index)) (owners log) (deeds_before log (ranged.first + index)) (shows_seen index within)

  -- deeds before the batch were made
  pub made-early : (place : ℕ) → place < ranged.first → made_whole batch place ≡ true
  unfolding is_made
  made-early place early = rw (lt-ltb place ranged.first early) refl

  -- and in it those of places that were done
  pub made-late : (place : ℕ) → ranged.first ≤ place → made_whole batch place ≡ was_done (serial_words batch (place - ranged.first))
  unfolding is_made
  made-late place late = rw (le-ltb place ranged.first late) refl

  -- a slot of what an index is shown
  module _ (index slot : ℕ) (grant : Grant) (at : slice_get (batch_slots batch) slot ≡ Some grant) where
    within : slot < length (batch_slots batch)
    within = slice_get_within (batch_slots batch) slot grant at

    here : get_or (batch_slots batch) slot no_grant ≡ grant
    here = let same : Some (get_or (batch_slots batch) slot no_grant) ≡ Some grant = sym (slice_get-get_or (batch_slots batch) slot no_grant within) ∙ at in cc

    -- its rank, its place and its table are those of its grant
    pub slot-rank : rank_at batch slot ≡ rank grant
    slot-rank = get_or-map rank (batch_slots batch) slot no_grant 0 within ∙ ap rank here

    slot-place : place_at batch slot ≡ grant.place
    slot-place = get_or-map (λ (one : Grant). one.place) (batch_slots batch) slot no_grant 0 within ∙ ap (λ (one : Grant). one.place) here

    pub slot-table : table_at batch slot ≡ grant.table
    slot-table = get_or-map (λ (one : Grant). one.table) (batch_slots batch) slot no_grant 0 within ∙ ap (λ (one : Grant). one.table) here

    -- its record has the grant, and the end after the serial run
    pub slot-shown : slot_at (seen_view (seen_at ranged index)) slot ≡ slot_seen (batch.tables index) (ranged.first + index) (made_whole batch) grant (whole_end batch slot)
    unfolding whole_end
    slot-shown =
        let count = slots-all index in
        let end : get_or (ends_whole batch) slot None ≡ end_whole batch (rank_at batch slot) =
        get_or-map (λ (one : Grant). end_whole batch (rank one)) (batch_slots batch) slot no_grant None within
        ∙ ap (λ (one : Grant). end_whole batch (rank one)) here ∙ ap (end_whole batch) (sym slot-rank) in
        ap flatten (slot_at_seen (batch.tables index) (ranged.first + index) (made_whole batch) (batch_slots batch) (ends_whole batch) slot grant (rw count within) at)
        ∙ ap (slot_seen (batch.tables index) (ranged.first + index) (made_whole batch) grant) end

    abbrev is_seen : Bool
    is_seen = is_listed (batch.tables index) grant.table && (nat_lt grant.place (ranged.first + index) && made_whole batch grant.place)

    -- so the grant is shown or not
    pub grant-some : is_seen ≡ true → Some grant ≡ grant_in (slot_at (seen_view (seen_at ranged index)) slot)
    grant-some seen = rw (slot-shown, seen) refl

    pub grant-none : is_seen ≡ false → None ≡ grant_in (slot_at (seen_view (seen_at ranged index)) slot)
    grant-none seen = rw (slot-shown, seen) refl

    -- and of a shown grant the end below the place
    pub end-some : (found : Grant) → Some found ≡ grant_in (slot_at (seen_view (seen_at ranged index)) slot)
        → (is_listed (batch.tables index) (table_at batch slot) ≡ true) × (end_below (ranged.first + index) (whole_end batch slot) ≡ end_in (slot_at (seen_view (seen_at ranged index)) slot))
    end-some found is =
        by_cases is_seen
        (λ seen. (
          ap (is_listed (batch.tables index)) slot-table ∙ and_left (is_listed (batch.tables index) grant.table) _ seen,
          rw (slot-shown, seen) refl,
        ))
        (λ other. let none : Some found ≡ None = is ∙ sym (grant-none other) in cc)
      where
        and_left : (a b : Bool) → (a && b) ≡ true → a ≡ true
        and_left true b both = refl
        and_left false b both = both

    pub end-none : None ≡ grant_in (slot_at (seen_view (seen_at ranged index)) slot) → None ≡ end_in (slot_at (seen_view (seen_at ranged index)) slot)
    end-none is =
        by_cases is_seen
        (λ seen. let some : None ≡ Some grant = is ∙ sym (grant-some seen) in cc)
        (λ other. rw (slot-shown, other) refl)

    -- where the grant's place is in the batch and before the index, on a table of the index, it has a deed there
    pub slot-deed : (is_listed (batch.tables index) grant.table ≡ true) → ranged.first ≤ grant.place → grant.place < ranged.first + index
        → IsDeedBefore (record { batch = batch; index = index }) (grant.place - ranged.first)
    slot-deed listed from below =
        let low : ranged.first ≤ place_at batch slot = rw slot-place from in
        let deed = slots-deed batch (batches_are_sound (range_of ranged) of_log) slot within low in
        record {
          before = omega arith;
          table = grant.table;
          listed = listed;
          deed = ap (λ at. place_has_deed_on batch (at - ranged.first) grant.table) (sym slot-place) ∙ ap (place_has_deed_on batch (place_at batch slot - ranged.first)) (sym slot-table) ∙ deed;
        }

-- the tables of a statement of a log have owners
pub owners_of_tables : (log : Accepted) (place : ℕ) (statement : Statement) → IsWhole log → slice_get log.statements place ≡ Some statement
    → All (λ table. table < length (owners log.statements)) (tables_of statement.form)
owners_of_tables log place statement whole at =
    let within = slice_get_within log.statements place statement at in
    let here = get_or_from_slice_get log.statements place statement statement at in
    let taken : IsAccepted log.names statement = subst (λ (found : Statement). IsAccepted log.names found) here (All-get_or (IsAccepted log.names) log.statements place statement within whole.taken) in
    let count : length log.names.tables ≡ length (owners log.statements) = sym whole.owned ∙ ap (λ (users : List ℕ). length users) whole.owners in
    All-weaker (λ table. table < length log.names.tables) (λ table. table < length (owners log.statements)) (λ table less. omega arith) (tables_of statement.form) taken.tables

module _ (ranged : LogRange) (whole : IsWhole ranged.log) (index : ℕ) (statement : Statement) (at : slice_get ranged.log.statements (ranged.first + index) ≡ Some statement) where
  pub listed : (batch_of ranged).tables index ≡ tables_of statement.form
  listed = rw at refl

  -- a table that is listed has an owner
  pub listed-there : (table : ℕ) → is_listed ((batch_of ranged).tables index) table ≡ true → table < length (owners ranged.log.statements)
  listed-there table on =
      listed-holds (λ number. number < length (owners ranged.log.statements)) (tables_of statement.form) table
      (owners_of_tables ranged.log (ranged.first + index) statement whole at) (sym (ap (λ tables. is_listed tables table) listed) ∙ on)

  -- the view covers the tables of the statement
  pub covers-listed : (table : ℕ) → is_listed (tables_of statement.form) table ≡ covers (seen_view (seen_at ranged index)) table
  covers-listed table = ap (λ tables. is_listed tables table) (sym listed) ∙ listed-owned (seen_at ranged index) table (listed-there table)

  -- an owner that it shows is that of the log
  pub owner-shown : (table : ℕ) → IsSome ((seen_view (seen_at ranged index)).owner table)
      → (table < length ranged.log.names.tables) × ((seen_view (seen_at ranged index)).owner table ≡ slice_get ranged.log.names.owners table)
  owner-shown table some =
      let count : length ranged.log.names.tables ≡ length (owners ranged.log.statements) = sym whole.owned ∙ ap (λ (users : List ℕ). length users) whole.owners in
      by_cases (is_listed ((batch_of ranged).tables index) table)
      (λ yes. let there = listed-there table yes in (omega arith, rw yes (ap (λ users. slice_get users table) (sym whole.owners))))
      (λ no. contrary (covers (seen_view (seen_at ranged index)) table) some (rw no refl))

  -- it covers each of them
  pub all-covered : All (λ table. IsSome ((seen_view (seen_at ranged index)).owner table)) (tables_of statement.form)
  all-covered k d within =
      let table = slice_index_or (tables_of statement.form) k d in
      sym (covers-listed table) ∙ here
    where
      here : is_listed (tables_of statement.form) (slice_index_or (tables_of statement.form) k d) ≡ true
      here = list_any_at (λ one. one == slice_index_or (tables_of statement.form) k d) (tables_of statement.form) k d within (eq-eqb (slice_index_or (tables_of statement.form) k d) (slice_index_or (tables_of statement.form) k d) refl)
