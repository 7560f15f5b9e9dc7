-- A statement that the log takes names tables that are there.
use Rattle.std.proofs.Common.{◌≡◌, ◌<◌, ◌≤◌, ◌+◌, ℕ, zero, suc, Bool, true, false, not, List, [], ◌∷◌, ◌++◌, Option, Some, None, length, take, refl, sym, ◌∙◌, ap, subst, arith, inl, inr}
use Rattle.std.specs.Prelude.{All, ◌||◌, nat_lt, slice_get}
use Rattle.std.proofs.lemmas.Bool.{ltb-true, or_cases, true≢false}
use Rattle.std.proofs.lemmas.List.{length-append, length-map}
use Rattle.std.proofs.lemmas.List.Elements.{All-cons, All-nil, All-weaker}
use Rattle.model_base.specs.declared.deed.Need.{Need}
use Rattle.model_base.specs.declared.statement.Form.{Form}
use Rattle.model_base.specs.declared.statement.Statement.{Statement}
use Rattle.model_base.specs.Growing.{NeedsWithin}
use Rattle.model_base.specs.Outcomes.{creator, needs, owners}
use Rattle.model_base.specs.References.{deed_tables}
use Rattle.log_text.specs.Statement.{Sentence}
use Rattle.log_text.specs.declared.statement.RawDeed.{RawDeed}
use Rattle.log_text.specs.declared.statement.RawForm.{RawForm}
use Rattle.sequencer.specs.Names.{is_known, with_name}
use Rattle.sequencer.specs.Catalog.{Names, deed_in, numbered, numbered_deed, numbered_form, with_grantees}
use Rattle.sequencer.specs.Refusal.{accesses_refusal, create_refusal, deed_refusal, form_refusal, name_refusal, refusal, steps_refusal, table_refusal, refuse_unless}
use Rattle.sequencer.specs.declared.refused.Refused.{Refused}
use Rattle.sequencer.proofs.Passed.{both_none, known-table, passes}
use Rattle.grants_base.specs.declared.entries.Creation.{Creation}
use Rattle.engine.specs.Known.{AreNamed, AreNamedFrom, IsKnown}
use Rattle.engine.specs.Engine.{IsRun, Run, finished}

not_true : (b : Bool) → not b ≡ true → b ≡ false
not_true true is = absurd (true≢false (sym is))
not_true false is = refl

room : (names : Names) (table : List ℕ) (columns : ℕ) → create_refusal names table columns ≡ None → name_refusal names.tables table ≡ None → length names.tables < 65536
room names table columns new few =
    let unknown = not_true (is_known names.tables table) (passes (not (is_known names.tables table)) Refused.TableExists (both_none (refuse_unless (not (is_known names.tables table)) Refused.TableExists) _ new).0) in
    elim (or_cases (nat_lt (length names.tables) 65536) (is_known names.tables table) (passes (nat_lt (length names.tables) 65536 || is_known names.tables table) Refused.TooManyNames few)) [
      | inl less ↦ ltb-true (length names.tables) 65536 less
      | inr known ↦ absurd (true≢false (sym known ∙ unknown))
    ]

known-deed : (names : Names) (users : List (List ℕ)) (deed : RawDeed) → deed_refusal names (Some deed) ≡ None
    → All (λ table. table < length names.tables) (deed_tables (Form.Deed (numbered_deed (record names { users = users }) deed)))
known-deed names users (RawDeed.Grant kind table grantee option) e =
    All-cons (λ t. t < length names.tables) _ [] (known-table names table e) (All-nil (λ t. t < length names.tables))
known-deed names users (RawDeed.Revoke kind table grantee) e =
    All-cons (λ t. t < length names.tables) _ [] (known-table names table e) (All-nil (λ t. t < length names.tables))

known-run : (names : Names) (users : List (List ℕ)) (accesses : List _) (steps : List _) (deed : Option RawDeed) → deed_refusal names deed ≡ None
    → IsKnown (length names.tables) (numbered_form (record names { users = users }) (RawForm.Run accesses steps deed))
known-run names users accesses steps None e = All-nil (λ t. t < length names.tables)
known-run names users accesses steps (Some deed) e = known-deed names users deed e

known-form : (names : Names) (users : List (List ℕ)) (form : RawForm) → form_refusal names form ≡ None → table_refusal names form ≡ None
    → IsKnown (length names.tables) (numbered_form (record names { users = users }) form)
known-form names users (RawForm.Create table columns) e few = room names table columns e few
known-form names users (RawForm.Run accesses steps deed) e few =
    let first = both_none (accesses_refusal names [] accesses) _ e in
    let rest = both_none (steps_refusal names steps) (deed_refusal names deed) first.1 in
    known-run names users accesses steps deed rest.1
known-form names users (RawForm.Deed deed) e few = known-deed names users deed e

-- so each that passes the tests
pub known_new : (names : Names) (sentence : Sentence) → refusal names sentence ≡ None → IsKnown (length names.tables) (numbered names sentence).form
known_new names sentence e =
    let rest = both_none _ _ e in
    let form = both_none _ _ rest.1 in
    let few = both_none _ _ form.1 in
    known-form names (with_grantees (with_name names.users sentence.user) (deed_in sentence.form)) sentence.form form.0 few.1

-- one named statement more
named-more : (tables : ℕ) (log : List Statement) (statement : Statement) → AreNamedFrom tables log → NeedsWithin (tables + length (owners log)) statement
    → AreNamedFrom tables (log ++ statement ∷ [])
named-more tables [] statement named here =
    let none : tables + 0 ≡ tables = omega arith in
    (subst (λ (n : ℕ). NeedsWithin n statement) none here, tt)
named-more tables (first ∷ log) statement named here =
    let made = creator first.user first.form in
    let count : tables + length (made ++ owners log) ≡ (tables + length made) + length (owners log) = omega (arith, length-append made (owners log)) in
    (named.0, named-more (tables + length made) log statement named.1 (subst (λ (n : ℕ). NeedsWithin n statement) count here))

pub named_grown : (log : List Statement) (statement : Statement) → AreNamed log → NeedsWithin (length (owners log)) statement → AreNamed (log ++ statement ∷ [])
named_grown log statement named here =
    let same : length (owners log) ≡ 0 + length (owners log) = omega arith in
    named-more 0 log statement named (subst (λ (n : ℕ). NeedsWithin n statement) same here)

-- what a statement needs is on the tables of any beginning of the log that goes past it
wider : (few many : ℕ) (statement : Statement) → few ≤ many → NeedsWithin few statement → NeedsWithin many statement
wider few many statement less =
    All-weaker (λ (need : Need). need.table < few) (λ (need : Need). need.table < many) (λ need low. omega (arith, low, less)) (needs statement.form)

named-at : (tables : ℕ) (log : List Statement) (place end : ℕ) (statement : Statement) → AreNamedFrom tables log → slice_get log place ≡ Some statement → place < end
    → NeedsWithin (tables + length (owners (take end log))) statement
named-at tables [] place end statement named here less = absurd (cc)
named-at tables (first ∷ log) place zero statement named here less = absurd (omega arith)
named-at tables (first ∷ log) zero (suc end) statement named here less =
    let same : first ≡ statement = cc in
    wider tables _ statement (omega arith) (subst (NeedsWithin tables) same named.0)
named-at tables (first ∷ log) (suc place) (suc end) statement named here less =
    let made = creator first.user first.form in
    let rest = owners (take end log) in
    let count : (tables + length made) + length rest ≡ tables + length (made ++ rest) = omega (arith, length-append made rest) in
    subst (λ (n : ℕ). NeedsWithin n statement) count (named-at (tables + length made) log place end statement named.1 here (omega arith))

-- so what a statement of a finished place needs is on the tables of the book
pub named_in : (run : Run) → IsRun run → (place : ℕ) (statement : Statement) → slice_get run.log.statements place ≡ Some statement → place < finished run
    → NeedsWithin (length run.book.tables) statement
named_in run is place statement here less =
    let count : 0 + length (owners (take (finished run) run.log.statements)) ≡ length run.book.tables =
    omega (arith, ap length is.stands.booked.owned, length-map run.book.tables (λ (creation : Creation). creation.owner)) in
    subst (λ (n : ℕ). NeedsWithin n statement) count (named-at 0 run.log.statements place (finished run) statement is.named here less)
