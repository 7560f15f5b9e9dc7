-- The versions of a log's places tell the rows before each place.
use Rattle.std.proofs.Common.{◌≡◌, ℕ, zero, suc, ◌+◌, ◌-◌, ◌<◌, ◌≤◌, Option, Some, None, List, ◌++◌, refl, sym, ◌∙◌, ap, arith, inl, inr}
use Rattle.std.specs.Prelude.{slice_get}
use Rattle.std.specs.List.{flat_map, range_with_len}
use Rattle.std.proofs.lemmas.List.Sums.{fold-append}
use Rattle.std.proofs.lemmas.Bool.{cases_lt}
use Rattle.model_base.specs.declared.row.Key.{Key}
use Rattle.model_base.specs.declared.statement.Statement.{Statement}
use Rattle.model_base.specs.Outcomes.{rows_before}
use Rattle.model_base.specs.References.{declares_write}
use Rattle.model_base.specs.Versions.{accesses_of}
use Rattle.chains.specs.declared.version.Version.{Version}
use Rattle.chains.specs.Store.{AreBetween, Gains, IsRight, Store, newest_or, of_key, row_in, versions_at, versions_between}
use Rattle.chains.proofs.Order.{between-range}
use Rattle.chains.proofs.Keyed.{newest-late, newest-of_key, newest-one, newest-past, stepped}
use Rattle.chains.proofs.Serial.{rows_before-unwritten}
use Rattle.model_base.proofs.Replay.{by_cases}

-- the row before a place and the place's versions give the row after it
at-one : (log : List Statement) (at place : ℕ) (key : Key) → at < place
    → newest_or (rows_before log at key.table key.row) (versions_at log at) place key ≡ rows_before log (at + 1) key.table key.row
at-one log at place key less = by_statement (slice_get log at) refl
  where
    by_statement : (found : Option Statement) → slice_get log at ≡ found
        → newest_or (rows_before log at key.table key.row) (versions_at log at) place key ≡ rows_before log (at + 1) key.table key.row
    by_statement None is = rw is (sym (rows_before-unwritten log at key.table key.row (rw is refl)))
    by_statement (Some statement) is =
        rw is
        (newest-one (rows_before log at key.table key.row) (rows_before log (at + 1)) at place key (accesses_of statement.form) less
        ∙ by_cases (declares_write key.table key.row statement) (λ writes. rw writes refl)
        (λ reads. rw reads (sym (rows_before-unwritten log at key.table key.row (rw is reads)))))

-- the row before the first place and the versions of some places give the row before each place up to their end
range-right : (log : List Statement) (first count place : ℕ) (key : Key) → first ≤ place → place ≤ first + count
    → newest_or (rows_before log first key.table key.row) (flat_map (versions_at log) (range_with_len first count)) place key
    ≡ rows_before log place key.table key.row
range-right log first zero place key low high =
    let same : first ≡ place = omega arith in ap (λ (at : ℕ). rows_before log at key.table key.row) same
range-right log first (suc count) place key low high =
    let rest = flat_map (versions_at log) (range_with_len (first + 1) count) in
    let before = rows_before log first key.table key.row in
    elim (cases_lt first place) [
      | inl late ↦
          fold-append (stepped place key) before (versions_at log first) rest
          ∙ ap (λ row. newest_or row rest place key) (at-one log first place key late)
          ∙ range-right log (first + 1) count place key (omega arith) (omega arith)
      | inr early ↦
          let same : first ≡ place = omega arith in
          newest-late before first (first + suc count) place key (versions_at log first ++ rest) (between-range log first (suc count)) (omega arith)
          ∙ ap (λ (at : ℕ). rows_before log at key.table key.row) same
    ]

-- versions of each key after its others are what a store gains
pub append-gains : (store : Store) (new more : List Version) (new_end : ℕ)
    → ((key : Key) → AreBetween 0 store.end (of_key key store.versions)) → AreBetween store.end new_end more
    → ((key : Key) → of_key key new ≡ of_key key (store.versions ++ more))
    → Gains store (record { versions = new; mark = store.mark; end = new_end }) more new_end
append-gains store new more new_end before after added = record {
  mark = refl;
  end = refl;
  kept = λ place key low high.
      both place key ∙ newest-late (row_in store place key) store.end new_end place key more after high;
  gained = λ place key low high.
      both place key ∙ ap (λ row. newest_or row more place key) (newest-past store.end place key store.versions (before key) low);
}
  where
    both : (place : ℕ) (key : Key) → newest_or None new place key ≡ newest_or (row_in store place key) more place key
    both place key =
        newest-of_key None place key new
        ∙ ap (λ (versions : List Version). newest_or None versions place key) (added key)
        ∙ sym (newest-of_key None place key (store.versions ++ more))
        ∙ fold-append (stepped place key) None store.versions more

-- a store that is right for a log stays so when it gains the versions of the log's further places
pub gains-right : (log : List Statement) (old new : Store) (cells : List Version) (new_end : ℕ) → old.mark ≤ old.end → old.end ≤ new_end
    → Gains old new cells new_end → IsRight log old → cells ≡ versions_between log old.end new_end → IsRight log new
gains-right log old new cells new_end known further gains right are place key low high =
    let from : old.mark ≤ place = omega (arith, low, gains.mark) in
    elim (cases_lt old.end place) [
      | inl late ↦
          gains.gained place key (omega arith) (omega (arith, high, gains.end))
          ∙ ap (λ row. newest_or row cells place key) (right old.end key known (omega arith))
          ∙ ap (λ (vs : List Version). newest_or (rows_before log old.end key.table key.row) vs place key) are
          ∙ range-right log old.end (new_end - old.end) place key (omega arith) (omega (arith, high, gains.end))
      | inr early ↦ gains.kept place key from early ∙ right place key from early
    ]
