-- What a statement that the log takes names is of tables that are known.
use Rattle.std.proofs.Common.{◌≡◌, ℕ, ◌<◌, ◌++◌, Bool, not, List, [], ◌∷◌, length, map, Option, Some, None}
use Rattle.std.specs.Prelude.{All, ◌==◌, filter}
use Rattle.std.specs.List.{flat_map}
use Rattle.std.specs.Option.{option_map, option_map_or}
use Rattle.std.proofs.lemmas.List.Elements.{All-append, All-cons, All-filter, All-head, All-map, All-nil, All-tail}
use Rattle.model_base.specs.declared.deed.Need.{Need}
use Rattle.model_base.specs.declared.statement.Access.{Access}
use Rattle.model_base.specs.declared.statement.Form.{Form}
use Rattle.model_base.specs.Outcomes.{kinds_in, need_of, needs, needs_of_access, needs_of_deed, option_on}
use Rattle.model_base.specs.References.{deed_tables, each_once, table_of, tables_of}
use Rattle.model_base.specs.Versions.{accesses_of}
use Rattle.log_text.specs.Statement.{Sentence}
use Rattle.line_words.specs.declared.access.RawAccess.{RawAccess}
use Rattle.log_text.specs.declared.statement.RawDeed.{RawDeed}
use Rattle.log_text.specs.declared.statement.RawForm.{RawForm}
use Rattle.sequencer.specs.Names.{number_of}
use Rattle.sequencer.specs.Catalog.{Names, deed_in, numbered, numbered_access, numbered_deed, numbered_form, with_users}
use Rattle.sequencer.specs.Refusal.{access_refusal, accesses_refusal, deed_refusal, form_refusal, refusal, steps_refusal}
use Rattle.sequencer.proofs.Passed.{both_none, form_passes, known-table}

-- the needs, the accesses and the tables are of no table but the first this many
abbrev pub AreNeedsBelow : ℕ → List Need → Type 0
AreNeedsBelow tables needed = All (λ (need : Need). need.table < tables) needed

abbrev pub AreAccessesBelow : ℕ → List Access → Type 0
AreAccessesBelow tables accesses = All (λ (access : Access). access.key.table < tables) accesses

abbrev pub AreBelow : ℕ → List ℕ → Type 0
AreBelow tables numbers = All (λ table. table < tables) numbers

-- what an access to a table needs is of that table
accesses-needs : (tables : ℕ) (accesses : List Access) → AreAccessesBelow tables accesses → AreNeedsBelow tables (flat_map needs_of_access accesses)
accesses-needs tables [] low = All-nil (λ (need : Need). need.table < tables)
accesses-needs tables (access ∷ accesses) low =
    let P : Access → Type 0 = λ a. a.key.table < tables in
    All-append (λ (need : Need). need.table < tables) (needs_of_access access) (flat_map needs_of_access accesses)
    (All-map (λ (need : Need). need.table < tables) (need_of access) (kinds_in access.kinds) (λ k d in_list. All-head P access accesses low))
    (accesses-needs tables accesses (All-tail P access accesses low))

-- the tables stay below where each is kept once
once-below : (tables : ℕ) (numbers : List ℕ) → AreBelow tables numbers → AreBelow tables (each_once numbers)
once-below tables [] low = low
once-below tables (number ∷ numbers) low =
    let P : ℕ → Type 0 = λ table. table < tables in
    let test : ℕ → Bool = λ other. not (other == number) in
    All-cons P number (filter test (each_once numbers)) (All-head P number numbers low)
    (All-filter test P (each_once numbers) (once-below tables numbers (All-tail P number numbers low)))

-- what a form names
pub record NamesBelow (count : ℕ) (form : Form) : Type 0 where
  pub needs : AreNeedsBelow count (needs form)
  pub accesses : AreAccessesBelow count (accesses_of form)
  pub tables : AreBelow count (tables_of form)

-- it is of tables below where its needs, its accesses and its deed's table are
names-below : (count : ℕ) (form : Form) → AreNeedsBelow count (needs form) → AreAccessesBelow count (accesses_of form) → AreBelow count (deed_tables form)
    → NamesBelow count form
names-below count form needed accesses deeds =
    let P : ℕ → Type 0 = λ table. table < count in
    let of_needs : List ℕ = map (λ (need : Need). need.table) (needs form) in
    let all = All-append P of_needs (deed_tables form) (All-map P (λ (need : Need). need.table) (needs form) needed) deeds in
    record { needs = needed; accesses = accesses; tables = once-below count (of_needs ++ deed_tables form) all }

module _ (names : Names) (users : List (List ℕ)) where
  abbrev named : Names
  named = record names { users = users }

  abbrev count : ℕ
  count = length names.tables

  -- whoever the users are, the accesses that the log takes are to its tables
  accesses-below : (earlier accesses : List RawAccess) → accesses_refusal names earlier accesses ≡ None → AreAccessesBelow count (map (numbered_access named) accesses)
  accesses-below earlier [] e = All-nil (λ (access : Access). access.key.table < count)
  accesses-below earlier (access ∷ accesses) e =
      let parts = both_none (access_refusal names earlier access) _ e in
      All-cons (λ (a : Access). a.key.table < count) (numbered_access named access) (map (numbered_access named) accesses)
      (known-table names access.table (both_none _ _ parts.0).0) (accesses-below (earlier ++ access ∷ []) accesses parts.1)

  one-below : (table : ℕ) → table < count → AreBelow count (table ∷ [])
  one-below table low = All-cons (λ n. n < count) table [] low (All-nil (λ n. n < count))

  -- so is what a deed needs, and its table
  deed-below : (deed : Option RawDeed) → deed_refusal names deed ≡ None → AreNeedsBelow count (option_map_or needs_of_deed (option_map (numbered_deed named) deed) [])
      × AreBelow count (option_map_or (λ made. table_of made ∷ []) (option_map (numbered_deed named) deed) [])
  deed-below None e = (All-nil (λ (need : Need). need.table < count), All-nil (λ table. table < count))
  deed-below (Some (RawDeed.Grant kinds table grantees option)) e =
      let P : Need → Type 0 = λ need. need.table < count in
      let low = known-table names table e in
      let number = number_of names.tables table in
      (All-map P (option_on number) (kinds_in kinds) (λ k d in_list. low), one-below number low)
  deed-below (Some (RawDeed.Revoke kinds table grantees)) e =
      (All-nil (λ (need : Need). need.table < count), one-below (number_of names.tables table) (known-table names table e))

  form_below : (form : RawForm) → form_refusal names form ≡ None → NamesBelow count (numbered_form named form)
  form_below (RawForm.Create table columns) e =
      names-below count (Form.Create _ columns) (All-nil (λ (need : Need). need.table < count)) (All-nil (λ (access : Access). access.key.table < count)) (All-nil (λ n. n < count))
  form_below (RawForm.Run accesses steps deed) e =
      let first = both_none (accesses_refusal names [] accesses) _ e in
      let low = accesses-below [] accesses first.0 in
      let last = deed-below deed (both_none (steps_refusal names steps) _ first.1).1 in
      names-below count (numbered_form named (RawForm.Run accesses steps deed))
      (All-append (λ (need : Need). need.table < count) _ _ (accesses-needs count (map (numbered_access named) accesses) low) last.0) low last.1
  form_below (RawForm.Deed deed) e =
      let last = deed-below (Some deed) e in
      names-below count (Form.Deed (numbered_deed named deed)) last.0 (All-nil (λ (access : Access). access.key.table < count)) last.1

pub known_names : (names : Names) (sentence : Sentence) → refusal names sentence ≡ None → NamesBelow (length names.tables) (numbered names sentence).form
known_names names sentence e = form_below names (with_users names sentence.user (deed_in sentence.form)).users sentence.form (form_passes names sentence e)
