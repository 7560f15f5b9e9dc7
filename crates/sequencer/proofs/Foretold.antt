-- What is told of a sentence by the names of an earlier place holds at each later one.
use Rattle.std.proofs.Common.{◌≡◌, ℕ, ◌+◌, ◌<◌, true, List, [], ◌∷◌, ◌++◌, length, map, drop, Option, Some, None, refl, ap, sym, ◌∙◌, subst, arith}
use Rattle.std.specs.Prelude.{IfSome, OnSome, nat_lt, slice_index_or}
use Rattle.std.specs.List.{AllByRecursion}
use Rattle.std.specs.Option.{option_map}
use Rattle.std.proofs.Math.Bool.{or-true}
use Rattle.std.proofs.lemmas.Bool.{lt-ltb}
use Rattle.std.proofs.lemmas.List.{get_or_append_left}
use Rattle.model_base.specs.declared.limits.TheConstants.{MOST_PLACES}
use Rattle.model_base.specs.declared.deed.Grantee.{Grantee}
use Rattle.model_base.specs.declared.statement.DeedForm.{DeedForm}
use Rattle.model_base.specs.declared.statement.Form.{Form}
use Rattle.model_base.specs.declared.statement.Statement.{Statement}
use Rattle.model_base.specs.declared.statement.Step.{Step}
use Rattle.log_text.specs.Statement.{Sentence}
use Rattle.log_text.specs.declared.grantees.RawGrantee.{RawGrantee}
use Rattle.line_words.specs.declared.access.RawAccess.{RawAccess}
use Rattle.log_text.specs.declared.statement.RawDeed.{RawDeed}
use Rattle.log_text.specs.declared.statement.RawForm.{RawForm}
use Rattle.log_text.specs.declared.statement.RawStep.{RawStep}
use Rattle.sequencer.specs.Names.{is_known, number_of, with_name}
use Rattle.sequencer.specs.Catalog.{Names, deed_in, raw_grantees, named_table_of, numbered_access, numbered_deed, numbered_form, numbered_grantee, numbered_step, with_all_named, with_form, with_grantees, with_named, with_statement, with_users}
use Rattle.sequencer.specs.Foretelling.{Begins, Foretells, Knows, KnowsDeed, KnowsDeedIn, KnowsForm, is_known_grantee, with_one_place}
use Rattle.sequencer.specs.Refusal.{access_refusal, accesses_refusal, column_refusal, columns_of, form_refusal, grantees_refusal, known_refusal, name_refusal, named_refusal, named_refusals, refusal, step_refusal, steps_refusal, table_refusal, users_refusal}
use Rattle.sequencer.specs.declared.refused.Refused.{Refused}
use Rattle.sequencer.proofs.Beginnings.{behind, known_later}
use Rattle.sequencer.proofs.Passed.{both_none, known-below, passes}

-- a known table is known later, with its number and its columns
record TableStays (names later : Names) (table : List ℕ) : Type 0 where
  known : is_known later.tables table ≡ true
  number : number_of later.tables table ≡ number_of names.tables table
  width : columns_of later table ≡ columns_of names table

module _ (names later : Names) (begins : Begins names later) (each : length names.columns ≡ length names.tables) where
  table_stays : (table : List ℕ) → known_refusal names table ≡ None → TableStays names later table
  table_stays table e =
      let known = passes (is_known names.tables table) Refused.UnknownTable e in
      let stays = known_later names.tables later.tables table begins.tables known in
      record {
        known = stays.0;
        number = stays.1;
        width =
            ap (λ (n : ℕ). slice_index_or later.columns n 0) stays.1
            ∙ ap (λ (all : List ℕ). slice_index_or all (number_of names.tables table) 0) (behind names.columns later.columns begins.columns)
            ∙ get_or_append_left names.columns (drop (length names.columns) later.columns) 0 (number_of names.tables table)
            (omega (arith, each, known-below names.tables table known));
      }

  -- the accesses pass, and have their numbers
  access_later : (earlier : List RawAccess) (access : RawAccess) → access_refusal names earlier access ≡ None
      → (access_refusal later earlier access ≡ None) × (numbered_access names access ≡ numbered_access later access)
  access_later earlier access e =
      let parts = both_none (known_refusal names access.table) _ e in
      let table = table_stays access.table parts.0 in
      rw (table.known, table.number) (parts.1, refl)

  accesses_later : (earlier accesses : List RawAccess) → accesses_refusal names earlier accesses ≡ None
      → (accesses_refusal later earlier accesses ≡ None) × (map (numbered_access names) accesses ≡ map (numbered_access later) accesses)
  accesses_later earlier [] e = (refl, refl)
  accesses_later earlier (access ∷ accesses) e =
      let parts = both_none (access_refusal names earlier access) _ e in
      let first = access_later earlier access parts.0 in
      let rest = accesses_later (earlier ++ access ∷ []) accesses parts.1 in
      (rw first.0 rest.0, λ i. first.1 i ∷ rest.1 i)

  -- so it is with a column of a table, and with the steps
  column_later : (table : List ℕ) (column : ℕ) → column_refusal names table column ≡ None
      → (column_refusal later table column ≡ None) × (number_of names.tables table ≡ number_of later.tables table)
  column_later table column e =
      let parts = both_none (known_refusal names table) _ e in
      let stays = table_stays table parts.0 in
      rw (stays.known, stays.width) (parts.1, sym stays.number)

  step_later : (count : ℕ) (step : RawStep) → step_refusal names count step ≡ None
      → (step_refusal later count step ≡ None) × (numbered_step names step ≡ numbered_step later step)
  step_later count (RawStep.Has to table row) e = let stays = table_stays table e in rw (stays.known, stays.number) (refl, refl)
  step_later count (RawStep.Delete table row) e = let stays = table_stays table e in rw (stays.known, stays.number) (refl, refl)
  step_later count (RawStep.Load to table row column) e =
      let stays = column_later table column e in (stays.0, ap (λ (n : ℕ). Step.Load to n row column) stays.1)
  step_later count (RawStep.Store table row column from) e =
      let stays = column_later table column e in (stays.0, ap (λ (n : ℕ). Step.Store n row column from) stays.1)
  step_later count (RawStep.Insert table row from) e =
      let parts = both_none (known_refusal names table) _ e in
      let stays = table_stays table parts.0 in
      rw (stays.known, stays.width, stays.number) (parts.1, refl)
  step_later count step e = (e, refl)

  steps_later : (steps : List RawStep) → steps_refusal names steps ≡ None
      → (steps_refusal later steps ≡ None) × (map (numbered_step names) steps ≡ map (numbered_step later) steps)
  steps_later [] e = (refl, refl)
  steps_later (step ∷ steps) e =
      let parts = both_none (step_refusal names (length steps) step) _ e in
      let first = step_later (length steps) step parts.0 in
      let rest = steps_later steps parts.1 in
      (rw first.0 rest.0, λ i. first.1 i ∷ rest.1 i)

  -- and with a grantee, a deed and a form
  grantee_later : (grantee : RawGrantee) → is_known_grantee names.users grantee ≡ true
      → (is_known_grantee later.users grantee ≡ true) × (numbered_grantee names.users grantee ≡ numbered_grantee later.users grantee)
  grantee_later (RawGrantee.Named name) known =
      let stays = known_later names.users later.users name begins.users known in (stays.0, ap (λ (n : ℕ). Grantee.User n) (sym stays.1))
  grantee_later RawGrantee.Public known = (refl, refl)

  grantees_later : (grantees : List RawGrantee) → AllByRecursion (λ grantee. is_known_grantee names.users grantee ≡ true) grantees
      → AllByRecursion (λ grantee. is_known_grantee later.users grantee ≡ true) grantees
      × (map (numbered_grantee names.users) grantees ≡ map (numbered_grantee later.users) grantees)
  grantees_later [] known = (tt, refl)
  grantees_later (grantee ∷ grantees) known =
      let first = grantee_later grantee known.0 in
      let rest = grantees_later grantees known.1 in
      ((first.0, rest.0), λ i. first.1 i ∷ rest.1 i)

  deed_later : (deed : RawDeed) → KnowsDeed names deed → KnowsDeed later deed × (numbered_deed names deed ≡ numbered_deed later deed)
  deed_later deed knows =
      let stays = table_stays (named_table_of deed) knows.table in
      let parties = grantees_later (raw_grantees deed) knows.grantees in
      (record { table = rw stays.known refl; grantees = parties.0 }, same deed (sym stays.number) parties.1)
    where
      same : (one : RawDeed) → number_of names.tables (named_table_of one) ≡ number_of later.tables (named_table_of one)
          → map (numbered_grantee names.users) (raw_grantees one) ≡ map (numbered_grantee later.users) (raw_grantees one)
          → numbered_deed names one ≡ numbered_deed later one
      same (RawDeed.Grant kinds table grantees option) number parties = λ i. DeedForm.Grant kinds (number i) (parties i) option
      same (RawDeed.Revoke kinds table grantees) number parties = λ i. DeedForm.Revoke kinds (number i) (parties i)

  deed_in_later : (deed : Option RawDeed) → KnowsDeedIn names deed
      → KnowsDeedIn later deed × (option_map (numbered_deed names) deed ≡ option_map (numbered_deed later) deed)
  deed_in_later None knows = (tt, refl)
  deed_in_later (Some deed) knows = let one = deed_later deed knows in (one.0, λ i. Some (one.1 i))

  form_later : (form : RawForm) → KnowsForm names form → KnowsForm later form × (numbered_form names form ≡ numbered_form later form)
  form_later (RawForm.Create table columns) knows = absurd knows
  form_later (RawForm.Run accesses steps deed) knows =
      let first = accesses_later [] accesses knows.0 in
      let body = steps_later steps knows.1 in
      let last = deed_in_later deed knows.2 in
      ((first.0, body.0, last.0), λ i. Form.Run (first.1 i) (body.1 i) (last.1 i))
  form_later (RawForm.Deed deed) knows = let one = deed_later deed knows in (one.0, λ i. Form.Deed (one.1 i))

-- known users are named as they are, and pass
user_known : (users : List (List ℕ)) (user : List ℕ) → is_known users user ≡ true → (with_name users user ≡ users) × (name_refusal users user ≡ None)
user_known users user known = rw (known, or-true (nat_lt (length users) 65536)) (refl, refl)

pub grantee_known : (users : List (List ℕ)) (grantee : RawGrantee) → is_known_grantee users grantee ≡ true
    → (with_named users grantee ≡ users) × (named_refusal users grantee ≡ None)
grantee_known users (RawGrantee.Named name) known = user_known users name known
grantee_known users RawGrantee.Public known = (refl, refl)

grantees_known : (users : List (List ℕ)) (grantees : List RawGrantee) → AllByRecursion (λ grantee. is_known_grantee users grantee ≡ true) grantees
    → (with_all_named users grantees ≡ users) × (named_refusals users grantees ≡ None)
grantees_known users [] known = (refl, refl)
grantees_known users (grantee ∷ grantees) known =
    let first = grantee_known users grantee known.0 in
    let rest = grantees_known users grantees known.1 in
    rw (first.0, first.1) rest

deed_known : (names : Names) (deed : Option RawDeed) → KnowsDeedIn names deed → (with_grantees names.users deed ≡ names.users) × (grantees_refusal names.users deed ≡ None)
deed_known names None knows = (refl, refl)
deed_known names (Some deed) knows = grantees_known names.users (raw_grantees deed) knows.grantees

users_known : (names : Names) (user : List ℕ) (deed : Option RawDeed) → is_known names.users user ≡ true → KnowsDeedIn names deed
    → ((with_users names user deed).users ≡ names.users) × (users_refusal names.users user deed ≡ None)
users_known names user deed known knows = rw (known, or-true (nat_lt (length names.users) 65536)) (deed_known names deed knows)

-- a form that is known passes, names no table, and its deed is known
record FormPasses (names : Names) (user : ℕ) (form : RawForm) : Type 0 where
  passes : form_refusal names form ≡ None
  table : table_refusal names form ≡ None
  deed : KnowsDeedIn names (deed_in form)
  same : with_form names user form ≡ names

known_form : (names : Names) (user : ℕ) (form : RawForm) → KnowsForm names form → FormPasses names user form
known_form names user (RawForm.Create table columns) knows = absurd knows
known_form names user (RawForm.Run accesses steps None) knows =
    record { passes = rw (knows.0, knows.1) refl; table = refl; deed = tt; same = refl }
known_form names user (RawForm.Run accesses steps (Some deed)) knows =
    record { passes = rw (knows.0, knows.1) knows.2.table; table = refl; deed = knows.2; same = refl }
known_form names user (RawForm.Deed deed) knows = record { passes = knows.table; table = refl; deed = knows; same = refl }

-- the log takes a sentence whose names are known while a place is left, and names nobody and nothing new
takes_known : (names : Names) (sentence : Sentence) → Knows names sentence → names.places < MOST_PLACES
    → (refusal names sentence ≡ None) × (with_statement names sentence ≡ with_one_place names)
takes_known names sentence knows place =
    let user : ℕ = number_of names.users sentence.user in
    let form = known_form names user sentence.form knows.form in
    let users = users_known names sentence.user (deed_in sentence.form) knows.user form.deed in (
      rw (lt-ltb names.places MOST_PLACES place, form.passes, users.1) form.table,
      λ i. record (form.same i) { users = users.0 i; places = names.places + 1 },
    )

-- a statement by number, all of whose names are known
abbrev by_number : Names → Sentence → Statement
by_number names sentence =
    record { user = number_of names.users sentence.user; form = numbered_form names sentence.form }

-- a sentence whose names are known is foretold
foretells : (names : Names) (sentence : Sentence) (statement : Statement) → length names.columns ≡ length names.tables
    → Knows names sentence → statement ≡ by_number names sentence → Foretells names sentence statement
foretells names sentence statement each knows is = λ later begins place.
    let user = known_later names.users later.users sentence.user begins.users knows.user in
    let form = form_later names later begins each sentence.form knows.form in
    let takes = takes_known later sentence (record { user = user.0; form = form.0 }) place in
    let deed = (known_form later (number_of later.users sentence.user) sentence.form form.0).deed in
    let named = (users_known later sentence.user (deed_in sentence.form) user.0 deed).0 in
    let With : List (List ℕ) → Statement = λ users. record {
      user = number_of later.users sentence.user;
      form = numbered_form (record later { users = users }) sentence.form;
    } in
    record { passes = takes.0; ok = is ∙ (λ i. record { user = sym user.1 i; form = form.1 i }) ∙ ap With (sym named); names = takes.1 }

-- so it is with the answer that numbers it
pub foretells_parts : (names : Names) (sentence : Sentence) (user : List ℕ) (form : RawForm) (result : Option Statement)
    → length names.columns ≡ length names.tables → user ≡ sentence.user → form ≡ sentence.form
    → OnSome result (Knows names (record { user = user; form = form }))
    → IfSome result (λ s. s ≡ record { user = number_of names.users user; form = numbered_form names form })
    → IfSome result (λ s. Foretells names sentence s)
foretells_parts names sentence user form None each users forms knows is = tt
foretells_parts names sentence user form (Some statement) each users forms knows is =
    let told : record { user = user; form = form } ≡ sentence = λ i. record { user = users i; form = forms i } in
    foretells names sentence statement each (subst (Knows names) told knows) (is ∙ ap (by_number names) told)
