-- What is before a place of a log is there when more is appended to the log.
use Rattle.std.proofs.Common.{◌≡◌, ◌≤◌, ◌+◌, ◌++◌, ℕ, zero, suc, List, [], ◌∷◌, length, map, take, refl, ap, sym, ◌∙◌, subst, arith, append_assoc}
use Rattle.std.specs.List.{range_with_len}
use Rattle.std.proofs.lemmas.List.{length-append}
use Rattle.model_base.specs.declared.deed.Deed.{Deed}
use Rattle.model_base.specs.declared.outcome.Outcome.{Outcome}
use Rattle.model_base.specs.declared.statement.Statement.{Statement}
use Rattle.model_base.specs.Outcomes.{World, creator, deeds_before, outcome, owners, rows_before}
use Rattle.model_base.specs.Rows.{Rows}
use Rattle.model_base.proofs.MoreOwners.{all_same-more, proper-more, tables-proper}
use Rattle.model_base.proofs.Owners.{records-owners}
use Rattle.chains.specs.Store.{Store}
use Rattle.grants_base.specs.Book.{Entries, ShowsBook, owners_of}
use Rattle.model_base.specs.Growing.{NeedsOwnTables}
use Rattle.model_base.proofs.Growing.{outcome-stands, world-stands, owners-append}
use Rattle.engine.specs.Known.{AreKnown, AreKnownFrom, IsKnown}
use Rattle.engine.specs.RunState.{IsRunState}
use Rattle.filling.specs.Finished.{AreOutcomes}

take-front : {X : Type 0} (n : ℕ) (xs ys : List X) → n ≤ length xs → take n (xs ++ ys) ≡ take n xs
take-front zero xs ys less = refl
take-front (suc n) [] ys less = absurd (omega arith)
take-front (suc n) (x ∷ xs) ys less = ap (λ r. x ∷ r) (take-front n xs ys (omega arith))

module _ (log more : List Statement) (own : NeedsOwnTables log) where
  module _ (place : ℕ) (less : place ≤ length log) where
    rows-same : (at : ℕ) → at ≤ place → rows_before (log ++ more) at ≡ rows_before log at
    rows-same at low = ap (λ (w : World). w.rows) (world-stands log more at own (omega (arith, low, less)))

    deeds-same : deeds_before (log ++ more) place ≡ deeds_before log place
    deeds-same = ap (λ (w : World). w.deeds) (world-stands log more place own less)

    shown_grown : (book : Entries) → ShowsBook book (owners log) (deeds_before log place) → ShowsBook book (owners (log ++ more)) (deeds_before (log ++ more) place)
    shown_grown book shown =
        let deeds = deeds_before log place in
        let on = tables-proper (owners log) deeds shown.proper in
        let wider : ShowsBook book (owners log ++ owners more) deeds =
        record {
          more = shown.more ++ owners more;
          begins = ap (λ os. os ++ owners more) shown.begins ∙ append_assoc (owners_of book.tables) shown.more (owners more);
          proper = (proper-more (owners log) (owners more) deeds on).1 shown.proper;
          told = shown.told;
          same = shown.same ∙ sym (records-owners (owners log ++ owners more) (owners log) deeds (all_same-more (owners log) (owners more) _ on));
        } in
        subst (λ (os : List ℕ). ShowsBook book os (deeds_before (log ++ more) place)) (sym (owners-append log more))
        (subst (λ (ds : List Deed). ShowsBook book (owners log ++ owners more) ds) (sym deeds-same) wider)

    pub stands_grown : (store : Store) (book : Entries) → IsRunState log place store book → IsRunState (log ++ more) place store book
    stands_grown store book stands = record {
      ends = stands.ends;
      right = λ at key low high.
          stands.right at key low high
          ∙ sym (ap (λ (rows : Rows). rows key.table key.row) (rows-same at (omega (arith, high, stands.ends))));
      booked = record {
        shown = shown_grown book stands.booked.shown;
        later = stands.booked.later;
        owned = stands.booked.owned ∙ ap owners (sym (take-front place log more less));
      };
    }

  outcomes-same : (first count : ℕ) → first + count ≤ length log → map (outcome log) (range_with_len first count) ≡ map (outcome (log ++ more)) (range_with_len first count)
  outcomes-same first zero less = refl
  outcomes-same first (suc count) less =
      ap (λ o. o ∷ map (outcome log) (range_with_len (first + 1) count)) (sym (outcome-stands log more first own (omega (arith, less))))
      ∙ ap (λ os. outcome (log ++ more) first ∷ os) (outcomes-same (first + 1) count (omega (arith, less)))

  pub outcomes_grown : (first count : ℕ) (outcomes : List Outcome) → first + count ≤ length log → AreOutcomes log first count outcomes → AreOutcomes (log ++ more) first count outcomes
  outcomes_grown first count outcomes less are = are ∙ outcomes-same first count less

-- one known statement more
known-more : (tables : ℕ) (log : List Statement) (statement : Statement) → AreKnownFrom tables log → IsKnown (tables + length (owners log)) statement.form → AreKnownFrom tables (log ++ statement ∷ [])
known-more tables [] statement known here =
    let none : tables + 0 ≡ tables = omega arith in
    (subst (λ (n : ℕ). IsKnown n statement.form) none here, tt)
known-more tables (first ∷ log) statement known here =
    let made = creator first.user first.form in
    let count : tables + length (made ++ owners log) ≡ (tables + length made) + length (owners log) = omega (arith, length-append made (owners log)) in
    (known.0, known-more (tables + length made) log statement known.1 (subst (λ (n : ℕ). IsKnown n statement.form) count here))

pub known_grown : (log : List Statement) (statement : Statement) → AreKnown log → IsKnown (length (owners log)) statement.form → AreKnown (log ++ statement ∷ [])
known_grown log statement known here =
    let same : length (owners log) ≡ 0 + length (owners log) = omega arith in
    known-more 0 log statement known (subst (λ (n : ℕ). IsKnown n statement.form) same here)
