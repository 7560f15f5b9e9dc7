-- What holds of each log stays so where a statement is taken.
use Rattle.std.proofs.Common.{◌≡◌, ℕ, ◌≤◌, Bool, true, List, [], ◌∷◌, ◌++◌, length, map, None, Some, refl, ap, sym, ◌∙◌, subst, arith, inl, inr, length-append}
use Rattle.std.specs.List.{AllByRecursion}
use Rattle.std.specs.Prelude.{All, OnOk, Result, Ok, Err, nat_le, ◌&&◌, not, slice_index_or}
use Rattle.std.proofs.lemmas.Bool.{and_parts, cases_lt, leb-true}
use Rattle.std.proofs.lemmas.Grind.{flat_map-append}
use Rattle.std.proofs.lemmas.List.{append-nil, get_or_append_left, get_or_past, length-map}
use Rattle.std.proofs.lemmas.List.Elements.{All-from_recursion, All-nil, All-push}
use Rattle.model_base.specs.declared.deed.Deed.TheVariants.{Granting}
use Rattle.model_base.specs.declared.deed.Grantee.{Grantee}
use Rattle.model_base.specs.declared.deed.Kind.{Kind}
use Rattle.model_base.specs.declared.statement.Form.{Form}
use Rattle.model_base.specs.declared.statement.Statement.{Statement}
use Rattle.model_base.specs.declared.statement.Step.{Step}
use Rattle.model_base.specs.Outcomes.{creator, deeds_at, grants_at, kinds_in, owners}
use Rattle.model_base.specs.RecordGrantees.{deed_grantees, grantees_in}
use Rattle.body.specs.Shape.{StepFits, FormFits}
use Rattle.log_text.specs.Statement.{IsDeed, IsFormInGrammar, IsInGrammar, Sentence}
use Rattle.log_text.specs.declared.grantees.RawGrantee.{RawGrantee}
use Rattle.log_text.specs.declared.statement.RawDeed.{RawDeed}
use Rattle.log_text.specs.declared.statement.RawForm.{RawForm}
use Rattle.log_text.specs.declared.version.Version.{Version}
use Rattle.sequencer.specs.Names.{is_known, number_of, with_name}
use Rattle.sequencer.specs.Catalog.{Names, deed_in, no_names, numbered, numbered_deed, numbered_form, numbered_grantee, with_all_named, with_form, with_statement, with_users}
use Rattle.sequencer.specs.Foretelling.{IsForetold, is_known_grantee, with_one_place}
use Rattle.sequencer.specs.Log.{Accepted, empty_log, in_version, with_accepted}
use Rattle.sequencer.specs.Refusal.{create_refusal, form_refusal, refusal, refuse_unless}
use Rattle.sequencer.specs.Whole.{HasFilledRows, IsFilled, IsKept, IsAccepted, IsKnownTo, MakesDeeds, columns_by}
use Rattle.sequencer.specs.declared.refused.Refused.{Refused}
use Rattle.sequencer.proofs.Apart.{apart_accesses}
use Rattle.sequencer.proofs.Beginnings.{users_longer}
use Rattle.sequencer.proofs.Bodies.{sound_body}
use Rattle.sequencer.proofs.KnownTables.{known_names}
use Rattle.sequencer.proofs.Parties.{all_known}
use Rattle.sequencer.proofs.Passed.{both_none, form_passes, known-below, passes}

-- the users and the tables with their columns stay, and others may come after them
pub record IsLonger (names more : Names) : Type 0 where
  pub users : length names.users ≤ length more.users
  pub tables : length names.tables ≤ length more.tables
  pub columns : (later : List ℕ) × (more.columns ≡ names.columns ++ later)

longer_form : (names : Names) (user : ℕ) (form : RawForm) → IsLonger names (with_form names user form)
longer_form names user (RawForm.Create table columns) =
    record { users = omega arith; tables = omega (arith, length-append names.tables (table ∷ [])); columns = (columns ∷ [], refl) }
longer_form names user form = record { users = omega arith; tables = omega arith; columns = ([], sym (append-nil names.columns)) }

-- a statement's users, and its table, come last
pub longer : (names : Names) (sentence : Sentence) → IsLonger names (with_statement names sentence)
longer names sentence =
    let form = longer_form names (number_of names.users sentence.user) sentence.form in
    record { users = users_longer names sentence.user (deed_in sentence.form); tables = form.tables; columns = form.columns }

longer_users : (names : Names) (sentence : Sentence) → IsLonger (with_users names sentence.user (deed_in sentence.form)) (with_statement names sentence)
longer_users names sentence =
    let form = longer_form names (number_of names.users sentence.user) sentence.form in
    record { users = omega arith; tables = form.tables; columns = form.columns }

-- nor does the version change them
longer_version : (names : Names) (version : Version) → IsLonger names (record names { version = version })
longer_version names version = record { users = omega arith; tables = omega arith; columns = ([], sym (append-nil names.columns)) }

-- a row that has a column and fits its table fits it with more tables after it
columns_stay : (columns later : List ℕ) (table width : ℕ) → 1 ≤ width → width ≡ slice_index_or columns table 0 → width ≡ slice_index_or (columns ++ later) table 0
columns_stay columns later table width filled is =
    elim (cases_lt table (length columns)) [
      | inl low ↦ is ∙ sym (get_or_append_left columns later 0 table low)
      | inr past ↦ absurd (omega (arith, filled, is, get_or_past columns table 0 past))
    ]

step_stays : (names more : Names) → IsLonger names more → (step : Step) → IsFilled step → StepFits (columns_by names) step → StepFits (columns_by more) step
step_stays names more longer (Step.Insert table row from) filled fits =
    let stay = columns_stay names.columns longer.columns.0 table (length from) filled fits in
    stay ∙ ap (λ (columns : List ℕ). slice_index_or columns table 0) (sym longer.columns.1)
step_stays names more longer step filled fits = fits

form_stays : (names more : Names) → IsLonger names more → (form : Form) → HasFilledRows form → FormFits (columns_by names) form → FormFits (columns_by more) form
form_stays names more longer (Form.Run accesses steps deed) filled fits =
    λ k d low. step_stays names more longer (slice_index_or steps k d) (filled k d low) (fits k d low)
form_stays names more longer form filled fits = tt

-- a known grantee is known among more users
known_stays : (users more : ℕ) → users ≤ more → (grantee : Grantee) → IsKnownTo users grantee → IsKnownTo more grantee
known_stays users more longer (Grantee.User user) known = omega (arith, longer, known)
known_stays users more longer Grantee.Public known = tt

-- what a statement is that was taken, it is with more users and tables
taken_stays : (names more : Names) → IsLonger names more → (statement : Statement) → HasFilledRows statement.form → IsAccepted names statement → IsAccepted more statement
taken_stays names more longer statement filled taken = record {
  runnable = taken.runnable;
  steps = taken.steps;
  fits = form_stays names more longer statement.form filled taken.fits;
  needs = λ k d low. omega (arith, taken.needs k d low, longer.tables);
  accesses = λ k d low. omega (arith, taken.accesses k d low, longer.tables);
  tables = λ k d low. omega (arith, taken.tables k d low, longer.tables);
  apart = taken.apart;
  deeds = taken.deeds;
  grantees = λ k d low.
      known_stays (length names.users) (length more.users) longer.users (slice_index_or (grantees_in statement.form) k d) (taken.grantees k d low);
}

pub filled_rows : (names : Names) (sentence : Sentence) → IsInGrammar sentence → refusal names sentence ≡ None → HasFilledRows (numbered names sentence).form
filled_rows names sentence h e = (sound_body names sentence h e).filled

-- there is a grant of some kinds to some grantees
grant_made : (place user table : ℕ) (option : Bool) (grantees : List Grantee) (kinds : List Kind) → 1 ≤ length grantees → 1 ≤ length kinds
    → 1 ≤ length (grants_at place user table option grantees kinds)
grant_made place user table option [] kinds some kind = absurd (omega (arith, some))
grant_made place user table option (grantee ∷ grantees) [] some kind = absurd (omega (arith, kind))
grant_made place user table option (grantee ∷ grantees) (first ∷ kinds) some kind = omega arith

-- a deed is made of each that is named
deed_made : (names : Names) (place user : ℕ) (deed : RawDeed) → IsDeed deed → 1 ≤ length (deeds_at place user (numbered_deed names deed))
deed_made names place user (RawDeed.Grant kinds table grantees option) h =
    let number = number_of names.tables table in
    let found = map (numbered_grantee names.users) grantees in
    let some : 1 ≤ length found = omega (arith, h.2, length-map grantees (numbered_grantee names.users)) in
    omega (arith, length-map (grants_at place user number option found (kinds_in kinds)) Granting, grant_made place user number option found (kinds_in kinds) some h.0)
deed_made names place user (RawDeed.Revoke kinds table grantees) h = omega arith

form_makes : (names : Names) (form : RawForm) → IsFormInGrammar form → MakesDeeds (numbered_form names form)
form_makes names (RawForm.Create table columns) h = λ place user. omega arith
form_makes names (RawForm.Run accesses steps None) h = λ place user. omega arith
form_makes names (RawForm.Run accesses steps (Some deed)) h = λ place user. omega (arith, deed_made names place user deed h.6)
form_makes names (RawForm.Deed deed) h = λ place user. omega (arith, deed_made names place user deed h)

-- the grantees of a deed are known once they are named
number_known : (users : List (List ℕ)) (grantee : RawGrantee) → is_known_grantee users grantee ≡ true → IsKnownTo (length users) (numbered_grantee users grantee)
number_known users (RawGrantee.Named name) known = known-below users name known
number_known users RawGrantee.Public known = tt

numbers_known : (users : List (List ℕ)) (grantees : List RawGrantee) → AllByRecursion (λ grantee. is_known_grantee users grantee ≡ true) grantees
    → AllByRecursion (IsKnownTo (length users)) (map (numbered_grantee users) grantees)
numbers_known users [] known = tt
numbers_known users (grantee ∷ grantees) known = (number_known users grantee known.0, numbers_known users grantees known.1)

of_grantees : (users : List (List ℕ)) (grantees : List RawGrantee)
    → All (IsKnownTo (length (with_all_named users grantees))) (map (numbered_grantee (with_all_named users grantees)) grantees)
of_grantees users grantees =
    let named = with_all_named users grantees in
    All-from_recursion (IsKnownTo (length named)) (map (numbered_grantee named) grantees) (numbers_known named grantees (all_known users grantees))

deed_known : (names : Names) (user : List ℕ) (deed : RawDeed)
    → let named : Names = with_users names user (Some deed) in All (IsKnownTo (length named.users)) (deed_grantees (numbered_deed named deed))
deed_known names user (RawDeed.Grant kinds table grantees option) = of_grantees (with_name names.users user) grantees
deed_known names user (RawDeed.Revoke kinds table grantees) = of_grantees (with_name names.users user) grantees

form_known : (names : Names) (user : List ℕ) (form : RawForm)
    → let named : Names = with_users names user (deed_in form) in All (IsKnownTo (length named.users)) (grantees_in (numbered_form named form))
form_known names user (RawForm.Create table columns) = All-nil (IsKnownTo (length (with_name names.users user)))
form_known names user (RawForm.Run accesses steps None) = All-nil (IsKnownTo (length (with_name names.users user)))
form_known names user (RawForm.Run accesses steps (Some deed)) = deed_known names user deed
form_known names user (RawForm.Deed deed) = deed_known names user deed

-- a statement is taken by the names before it, and so by those after it
pub taken_after : (names : Names) (sentence : Sentence) → IsInGrammar sentence → refusal names sentence ≡ None
    → IsAccepted (with_statement names sentence) (numbered names sentence)
taken_after names sentence h e =
    let body = sound_body names sentence h e in
    let known = known_names names sentence e in
    let named = with_users names sentence.user (deed_in sentence.form) in
    taken_stays named (with_statement names sentence) (longer_users names sentence) (numbered names sentence) body.filled (record {
      runnable = body.runnable;
      steps = body.steps;
      fits = body.fits;
      needs = known.needs;
      accesses = known.accesses;
      tables = known.tables;
      apart = apart_accesses names sentence e;
      deeds = form_makes named sentence.form h.form;
      grantees = form_known names sentence.user sentence.form;
    })

-- so it is with the answer that takes it
pub taken_parts : {X : Type 0} (names after : Names) (sentence : Sentence) (user : List ℕ) (form : RawForm) (result : Result X Refused) → IsInGrammar sentence
    → user ≡ sentence.user → form ≡ sentence.form → OnOk result (refusal names (record { user = user; form = form }) ≡ None)
    → OnOk result (after ≡ with_statement names (record { user = user; form = form }))
    → OnOk result (IsAccepted after (numbered names sentence)) × OnOk result (HasFilledRows (numbered names sentence).form)
taken_parts names after sentence user form (Ok value) h users forms e new =
    let told : record { user = user; form = form } ≡ sentence = λ i. record { user = users i; form = forms i } in
    let passes = subst (λ (s : Sentence). refusal names s ≡ None) told e in
    rw (subst (λ (s : Sentence). after ≡ with_statement names s) told new) (taken_after names sentence h passes, filled_rows names sentence h passes)
taken_parts names after sentence user form (Err refused) h users forms e new = (tt, tt)

-- a new table has at most eight columns
few_columns : (names : Names) (table : List ℕ) (columns : ℕ) → create_refusal names table columns ≡ None → columns ≤ 8
few_columns names table columns e =
    let range = passes (nat_le 1 columns && nat_le columns 8) Refused.BadColumns (both_none (refuse_unless (not (is_known names.tables table)) Refused.TableExists) _ e).1 in
    leb-true columns 8 (and_parts (nat_le 1 columns) (nat_le columns 8) range).1

pub narrow_create : (names : Names) (user table : List ℕ) (columns : ℕ) → refusal names (record { user = user; form = RawForm.Create table columns }) ≡ None → columns ≤ 8
narrow_create names user table columns e = few_columns names table columns (form_passes names (record { user = user; form = RawForm.Create table columns }) e)

-- each table after a statement has its owner, who is its user if it is new, and its number of columns
record StaysWhole (names after : Names) (made : List ℕ) : Type 0 where
  owners : after.owners ≡ names.owners ++ made
  owned : length after.owners ≡ length after.tables
  columns : length after.columns ≡ length after.tables
  narrow : All (λ count. count ≤ 8) after.columns

whole_form : (names : Names) (users : List (List ℕ)) (user : ℕ) (form : RawForm) → form_refusal names form ≡ None → length names.owners ≡ length names.tables
    → length names.columns ≡ length names.tables → All (λ count. count ≤ 8) names.columns
    → StaysWhole names (with_form names user form) (owners (record { user = user; form = numbered_form (record names { users = users }) form } ∷ []))
whole_form names users user (RawForm.Create table columns) e owned each narrow = record {
  owners = refl;
  owned = omega (arith, owned, length-append names.owners (user ∷ []), length-append names.tables (table ∷ []));
  columns = omega (arith, each, length-append names.columns (columns ∷ []), length-append names.tables (table ∷ []));
  narrow = All-push (λ count. count ≤ 8) names.columns columns narrow (few_columns names table columns e);
}
whole_form names users user form e owned each narrow = record { owners = sym (append-nil names.owners); owned = owned; columns = each; narrow = narrow }

-- a log that takes a statement
kept_with : (log : Accepted) (sentence : Sentence) → IsKept log → refusal log.names sentence ≡ None → IsAccepted (with_statement log.names sentence) (numbered log.names sentence)
    → HasFilledRows (numbered log.names sentence).form → IsKept (with_accepted log sentence)
kept_with log sentence kept e taken filled =
    let names : Names = log.names in
    let whole = kept.whole in
    let user : ℕ = number_of names.users sentence.user in
    let statement : Statement = numbered names sentence in
    let after : Names = with_statement names sentence in
    let form = whole_form names (with_users names sentence.user (deed_in sentence.form)).users user sentence.form (form_passes names sentence e) whole.owned whole.columns whole.narrow in
    record {
      whole = record {
        places = omega (arith, whole.places, length-append log.statements (statement ∷ []));
        owners = form.owners
            ∙ ap (λ (own : List ℕ). own ++ owners (statement ∷ [])) whole.owners
            ∙ sym (flat_map-append (λ (s : Statement). creator s.user s.form) log.statements (statement ∷ []));
        owned = form.owned;
        columns = form.columns;
        narrow = form.narrow;
        taken = All-push (IsAccepted after) log.statements statement
            (λ k d low. taken_stays names after (longer names sentence) (slice_index_or log.statements k d) (kept.filled k d low) (whole.taken k d low)) taken;
      };
      filled = All-push (λ (s : Statement). HasFilledRows s.form) log.statements statement kept.filled filled;
    }

pub kept_after : (log after : Accepted) (sentence : Sentence) (statement : Statement) → IsKept log → refusal log.names sentence ≡ None
    → after.names ≡ with_statement log.names sentence → statement ≡ numbered log.names sentence → after.statements ≡ log.statements ++ statement ∷ []
    → IsAccepted after.names statement → HasFilledRows statement.form → IsKept after
kept_after log after sentence statement kept e names is statements taken filled =
    let same : after ≡ with_accepted log sentence = λ i. record { names = names i; statements = (statements ∙ ap (λ (s : Statement). log.statements ++ s ∷ []) is) i } in
    rw same (kept_with log sentence kept e (subst (λ (ns : Names). IsAccepted ns (numbered log.names sentence)) names (rw is at taken)) (rw is at filled))

-- a log that takes a statement as it was foretold
module _ (log : Accepted) (sentence : Sentence) (statement : Statement) (is : IsForetold log.names sentence statement) where
  abbrev foretold : Accepted
  foretold = record { names = with_one_place log.names; statements = log.statements ++ statement ∷ [] }

  pub foretold_accepted : foretold ≡ with_accepted log sentence
  foretold_accepted = λ i. record { names = sym is.names i; statements = log.statements ++ is.ok i ∷ [] }

  pub kept_foretold : IsKept log → IsInGrammar sentence → IsKept foretold
  kept_foretold kept grammar =
      rw foretold_accepted
      (kept_with log sentence kept is.passes (taken_after log.names sentence grammar is.passes) (filled_rows log.names sentence grammar is.passes))

-- the log without statements
pub kept_empty : IsKept empty_log
kept_empty = record {
  whole = record {
    places = refl;
    owners = refl;
    owned = refl;
    columns = refl;
    narrow = All-nil (λ count. count ≤ 8);
    taken = All-nil (IsAccepted no_names);
  };
  filled = All-nil (λ (statement : Statement). HasFilledRows statement.form);
}

-- nor does it matter of which version the next lines are
pub kept_in_version : (log : Accepted) (version : Version) → IsKept log → IsKept (in_version version log)
kept_in_version log version kept =
    let whole = kept.whole in
    let names : Names = log.names in
    record {
      whole = record {
        places = whole.places;
        owners = whole.owners;
        owned = whole.owned;
        columns = whole.columns;
        narrow = whole.narrow;
        taken = λ k d low.
            taken_stays names (record names { version = version }) (longer_version names version) (slice_index_or log.statements k d) (kept.filled k d low)
            (whole.taken k d low);
      };
      filled = kept.filled;
    }
