-- A place has few references: one for each access, one for the table of each, and one for that of its deed.
use Rattle.std.proofs.Common.{◌≡◌, ◌≤◌, ◌+◌, ◌*◌, ◌==◌, ◌∷◌, ℕ, Option, Some, None, List, [], length, length-append, map, refl, ap, subst, arith}
use Rattle.std.specs.Prelude.{slice_get}
use Rattle.std.specs.List.{flat_map, list_any}
use Rattle.std.proofs.lemmas.List.Elements.{All-get_or}
use Rattle.std.proofs.lemmas.Option.{get_or_from_slice_get, slice_get_within}
use Rattle.model_base.proofs.Replay.{by_cases}
use Rattle.model_base.specs.declared.deed.Need.{Need}
use Rattle.model_base.specs.declared.statement.Access.{Access}
use Rattle.model_base.specs.declared.statement.Form.{Form}
use Rattle.model_base.specs.declared.statement.Statement.{Statement}
use Rattle.model_base.specs.Outcomes.{needs_of_access}
use Rattle.model_base.specs.References.{deed_tables, references, table_of, tables_of}
use Rattle.model_base.specs.Versions.{accesses_of}
use Rattle.sequencer.specs.Log.{Accepted}
use Rattle.sequencer.specs.Whole.{IsWhole}
use Rattle.placing.specs.Tables.{has_need, with_number, with_numbers}
use Rattle.placing.proofs.Few.{few_accesses}
use Rattle.placing.proofs.Once.{access_needs, tables_found}
use Rattle.log_batch.proofs.AtHand.{reference-length}

one-more : (numbers : List ℕ) (number : ℕ) → length (with_number numbers number) ≤ length numbers + 1
one-more numbers number =
    by_cases (list_any (λ other. other == number) numbers)
    (λ there. rw there (omega arith))
    (λ new. rw new (omega (arith, length-append numbers (number ∷ []))))

abbrev tables-needed : List Access → List ℕ
tables-needed accesses = map (λ (need : Need). need.table) (flat_map needs_of_access accesses)

needed : (numbers : List ℕ) (accesses : List Access) → length (with_numbers numbers (tables-needed accesses)) ≤ length numbers + length accesses
needed numbers [] = omega arith
needed numbers (access ∷ accesses) =
    rw (access_needs numbers access accesses)
    (by_cases (has_need access)
    (λ some. rw some (omega (arith, one-more numbers access.key.table, needed (with_number numbers access.key.table) accesses)))
    (λ none. rw none (omega (arith, needed numbers accesses))))

with-deed : (form : Form) (numbers : List ℕ) → length (with_numbers numbers (deed_tables form)) ≤ length numbers + 1
with-deed (Form.Create table columns) numbers = omega arith
with-deed (Form.Run accesses steps None) numbers = omega arith
with-deed (Form.Run accesses steps (Some deed)) numbers = one-more numbers (table_of deed)
with-deed (Form.Deed deed) numbers = one-more numbers (table_of deed)

few-tables : (form : Form) → length (tables_of form) ≤ length (accesses_of form) + 1
few-tables form =
    let found = with_numbers [] (tables-needed (accesses_of form)) in
    let same = ap (λ (tables : List ℕ). length tables) (tables_found form) in
    omega (arith, same, needed [] (accesses_of form), with-deed form found)

pub few-references : (log : Accepted) (first place : ℕ) → IsWhole log → length (references log.statements first place) ≤ 2 * 16 + 1
few-references log first place whole = by_statement (slice_get log.statements place) refl
  where
    by_statement : (found : Option Statement) → slice_get log.statements place ≡ found → length (references log.statements first place) ≤ 2 * 16 + 1
    by_statement None is = rw is (omega arith)
    by_statement (Some statement) is =
        let count = reference-length log.statements first place statement is in
        let here = get_or_from_slice_get log.statements place statement statement is in
        let accesses : length (accesses_of statement.form) ≤ 16 =
        subst (λ (s : Statement). length (accesses_of s.form) ≤ 16) here
        (All-get_or (λ (s : Statement). length (accesses_of s.form) ≤ 16) log.statements place statement (slice_get_within log.statements place statement is) (few_accesses log whole)) in
        omega (arith, count, accesses, few-tables statement.form)
