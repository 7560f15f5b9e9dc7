-- What the names of a later place begin with.
use Rattle.std.proofs.Common.{◌≡◌, ℕ, ◌≤◌, true, List, [], ◌∷◌, ◌++◌, length, take, drop, Option, Some, None, refl, ap, sym, ◌∙◌, subst, arith}
use Rattle.std.specs.Prelude.{bytes_eq}
use Rattle.std.proofs.Math.Seq.{take-length}
use Rattle.std.proofs.lemmas.List.{length-take, take-append-drop, take-append-le}
use Rattle.model_base.proofs.Replay.{by_cases}
use Rattle.log_text.specs.Statement.{Sentence}
use Rattle.log_text.specs.declared.grantees.RawGrantee.{RawGrantee}
use Rattle.log_text.specs.declared.statement.RawDeed.{RawDeed}
use Rattle.log_text.specs.declared.statement.RawForm.{RawForm}
use Rattle.sequencer.specs.Names.{is_known, number_of, with_name}
use Rattle.sequencer.specs.Catalog.{Names, deed_in, raw_grantees, with_all_named, with_form, with_grantees, with_named, with_statement, with_users}
use Rattle.sequencer.specs.Foretelling.{Begins}

-- the first of a list are so many as they are
pub first_within : {X : Type 0} (first all : List X) → take (length first) all ≡ first → length first ≤ length all
first_within {X} first all e = omega (arith, length-take (length first) all, ap length e)

-- they are the first of a longer list too
first_longer : {X : Type 0} (first all more : List X) → take (length first) all ≡ first → take (length first) (all ++ more) ≡ first
first_longer {X} first all more e = take-append-le (length first) all more (first_within first all e) ∙ e

-- a list that begins so is that and what is after it
pub behind : {X : Type 0} (first all : List X) → take (length first) all ≡ first → all ≡ first ++ drop (length first) all
behind {X} first all e =
    sym (take-append-drop (length first) all) ∙ ap (λ (xs : List X). xs ++ drop (length first) all) e

-- and of a list of which these are the first
pub first_first : {X : Type 0} (few some all : List X) → take (length few) some ≡ few → take (length some) all ≡ some → take (length few) all ≡ few
first_first {X} few some all e f =
    ap (λ (xs : List X). take (length few) xs) (behind some all f)
    ∙ take-append-le (length few) some (drop (length some) all) (first_within few some e) ∙ e

-- a known name is known among more names, with its number
known_before : (names more : List (List ℕ)) (name : List ℕ) → is_known names name ≡ true
    → (is_known (names ++ more) name ≡ true) × (number_of (names ++ more) name ≡ number_of names name)
known_before [] more name e = absurd (cc)
known_before (x ∷ xs) more name e =
    by_cases (bytes_eq name x)
    (λ here. rw here (refl, refl))
    (λ behind. let rest = known_before xs more name (rw behind at e) in rw (behind, rest.0, rest.1) (refl, refl))

pub known_later : (names later : List (List ℕ)) (name : List ℕ) → take (length names) later ≡ names → is_known names name ≡ true
    → (is_known later name ≡ true) × (number_of later name ≡ number_of names name)
known_later names later name first known =
    subst (λ (all : List (List ℕ)). (is_known all name ≡ true) × (number_of all name ≡ number_of names name)) (sym (behind names later first))
    (known_before names (drop (length names) later) name known)

pub first_named : (first names : List (List ℕ)) (name : List ℕ) → take (length first) names ≡ first → take (length first) (with_name names name) ≡ first
first_named first names name e =
    by_cases (is_known names name) (λ known. rw known e) (λ new. rw new (first_longer first names (name ∷ []) e))

first_grantee : (first users : List (List ℕ)) (grantee : RawGrantee) → take (length first) users ≡ first → take (length first) (with_named users grantee) ≡ first
first_grantee first users (RawGrantee.Named name) e = first_named first users name e
first_grantee first users RawGrantee.Public e = e

pub first_grantees : (first users : List (List ℕ)) (grantees : List RawGrantee) → take (length first) users ≡ first → take (length first) (with_all_named users grantees) ≡ first
first_grantees first users [] e = e
first_grantees first users (grantee ∷ grantees) e =
    first_grantees first (with_named users grantee) grantees (first_grantee first users grantee e)

first_of_deed : (first users : List (List ℕ)) (deed : Option RawDeed) → take (length first) users ≡ first → take (length first) (with_grantees users deed) ≡ first
first_of_deed first users None e = e
first_of_deed first users (Some deed) e = first_grantees first users (raw_grantees deed) e

-- there are no fewer users once those of a statement are named
pub users_longer : (names : Names) (user : List ℕ) (deed : Option RawDeed) → length names.users ≤ length (with_users names user deed).users
users_longer names user deed =
    let users = names.users in
    first_within users (with_users names user deed).users
    (first_of_deed users (with_name users user) deed (first_named users users user (take-length users)))

-- each list of names begins with itself
pub begins_same : (names : Names) → Begins names names
begins_same names = record {
  users = take-length names.users;
  tables = take-length names.tables;
  owners = take-length names.owners;
  columns = take-length names.columns;
}

pub begins_further : (names some later : Names) → Begins names some → Begins some later → Begins names later
begins_further names some later begins further = record {
  users = first_first names.users some.users later.users begins.users further.users;
  tables = first_first names.tables some.tables later.tables begins.tables further.tables;
  owners = first_first names.owners some.owners later.owners begins.owners further.owners;
  columns = first_first names.columns some.columns later.columns begins.columns further.columns;
}

-- a statement only names after it
begins_form : (names later : Names) (user : ℕ) (form : RawForm) → Begins names later → Begins names (with_form later user form)
begins_form names later user (RawForm.Create table columns) begins = record {
  users = begins.users;
  tables = first_longer names.tables later.tables (table ∷ []) begins.tables;
  owners = first_longer names.owners later.owners (user ∷ []) begins.owners;
  columns = first_longer names.columns later.columns (columns ∷ []) begins.columns;
}
begins_form names later user form begins = begins

pub begins_with : (names later : Names) (sentence : Sentence) → Begins names later → Begins names (with_statement later sentence)
begins_with names later sentence begins =
    let form = begins_form names later (number_of later.users sentence.user) sentence.form begins in
    record {
      users = first_of_deed names.users (with_name later.users sentence.user) (deed_in sentence.form)
          (first_named names.users later.users sentence.user begins.users);
      tables = form.tables;
      owners = form.owners;
      columns = form.columns;
    }
