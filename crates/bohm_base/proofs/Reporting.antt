-- The report's line for a place, where the log has more statements and more names.
use Rattle.std.proofs.Common.{◌≡◌, ℕ, ℤ, ◌<◌, ◌≤◌, List, [], ◌∷◌, ◌++◌, length, drop, get_or, map, Option, Some, None, refl, ap, sym, ◌∙◌, subst, arith}
use Rattle.std.specs.Prelude.{All, Contains, IfSome, filter_map, unwrap_or, if◌then◌else◌, codes, option_and_then, slice_get}
use Rattle.std.specs.Fmt.{decimal}
use Rattle.std.specs.List.{flat_map}
use Rattle.std.proofs.lemmas.List.Elements.{All-head, All-nil, All-tail, All-weaker}
use Rattle.std.proofs.lemmas.Option.{slice_get-get_or, slice_get_past}
use Rattle.model_base.specs.declared.deed.Deed.TheVariants.{Granting}
use Rattle.model_base.specs.declared.deed.Grant.{Grant}
use Rattle.model_base.specs.declared.deed.Grantee.{Grantee}
use Rattle.model_base.specs.declared.outcome.DeedDone.{DeedDone}
use Rattle.model_base.specs.declared.outcome.Outcome.{Outcome}
use Rattle.model_base.specs.declared.statement.Form.{Form}
use Rattle.model_base.specs.declared.statement.Statement.{Statement}
use Rattle.model_base.specs.Outcomes.{deeds_before, outcome}
use Rattle.model_base.specs.declared.deed.RecordName.TheInside.{Inside}
use Rattle.model_base.specs.Ranks.{place_of_rank, position_code, position_of_rank, rank, rank_of}
use Rattle.model_base.proofs.Ranked.{place-at, position-at}
use Rattle.model_base.specs.RecordNames.{kind_of_rank}
use Rattle.model_base.specs.RecordGrantees.{WereGranted, grantee_at, grantees_in}
use Rattle.model_base.proofs.Granted.{granted-named, revoked-granted}
use Rattle.log_text.specs.Statement.{kind_word}
use Rattle.log_text.specs.declared.version.Version.{Version}
use Rattle.sequencer.specs.Catalog.{Names}
use Rattle.sequencer.specs.Foretelling.{Begins}
use Rattle.sequencer.specs.Log.{Accepted}
use Rattle.sequencer.specs.Whole.{IsAccepted, IsKnownTo, IsWhole}
use Rattle.sequencer.proofs.Beginnings.{behind}
use Rattle.report.specs.Text.{IsNamed, cause_text, deed_text, done_text, grantee_name, numbers_text, outcome_text, record_in, records_listed, records_revoked, records_text, spelled_record, table_name}
use Rattle.bohm_base.proofs.Named.{got}
use Rattle.bohm_base.proofs.WholeLogs.{slice_get_longer}

-- a name is the same where others come after it
unwrapped-longer : (names more : List (List ℕ)) (number : ℕ) → number < length names
    → unwrap_or (slice_get (names ++ more) number) [] ≡ unwrap_or (slice_get names number) []
unwrapped-longer names more number low =
    let here = slice_get-get_or names number [] low in
    ap (λ (o : Option (List ℕ)). unwrap_or o []) (slice_get_longer names more number (get_or names number []) here ∙ sym here)

-- so is a table's
pub name-longer : (tables more : List (List ℕ)) (table : ℕ) → table < length tables → table_name (tables ++ more) table ≡ table_name tables table
name-longer tables more table low = unwrapped-longer tables more table low

-- and a grantee's
pub grantee-longer : (users more : List (List ℕ)) (grantee : Grantee) → IsKnownTo (length users) grantee
    → grantee_name (users ++ more) (Some grantee) ≡ grantee_name users (Some grantee)
grantee-longer users more (Grantee.User user) known = unwrapped-longer users more user known
grantee-longer users more Grantee.Public known = refl

-- the log says to whom the record was granted, and that one is among this many users or is all
abbrev pub IsGrantedIn : ℕ → List Statement → ℕ → Type 0
IsGrantedIn users log ranked = (grantee : Grantee) × ((grantee_at log ranked ≡ Some grantee) × IsKnownTo users grantee)

-- the grantee at the position of a record in a statement's deed
abbrev pub grantee_in : ℕ → Option Statement → Option Grantee
grantee_in ranked found = option_and_then (λ (statement : Statement). slice_get (grantees_in statement.form) (position_of_rank ranked)) found

-- the later log says the same
granted-longer : (log more : List Statement) (ranked : ℕ) (grantee : Grantee) → grantee_at log ranked ≡ Some grantee → grantee_at (log ++ more) ranked ≡ Some grantee
granted-longer log more ranked grantee is = by_statement (slice_get log (place_of_rank ranked)) refl
  where
    by_statement : (found : Option Statement) → slice_get log (place_of_rank ranked) ≡ found → grantee_at (log ++ more) ranked ≡ Some grantee
    by_statement None there = let bad : None ≡ Some grantee = sym (ap (grantee_in ranked) there) ∙ is in absurd (cc)
    by_statement (Some statement) there =
        ap (grantee_in ranked) (slice_get_longer log more (place_of_rank ranked) statement there) ∙ sym (ap (grantee_in ranked) there) ∙ is

module _ (log more : List Statement) (users extra : List (List ℕ)) where
  -- a record is spelled the same
  record-longer : (version : Version) (ranked : ℕ) → IsGrantedIn (length users) log ranked
      → record_in version (log ++ more) (users ++ extra) ranked ≡ record_in version log users ranked
  record-longer Version.One ranked granted = refl
  record-longer Version.Two ranked granted =
      ap (λ (o : Option Grantee). spelled_record (users ++ extra) ranked o) (granted-longer log more ranked granted.0 granted.1.0)
      ∙ ap (λ (name : List ℕ). decimal (place_of_rank ranked) ++ codes ":" ++ kind_word (kind_of_rank ranked) ++ codes ":" ++ name) (grantee-longer users extra granted.0 granted.1.1)
      ∙ ap (λ (o : Option Grantee). spelled_record users ranked o) (sym granted.1.0)

  -- so are some records
  pub records-longer : (version : Version) (ranks : List ℕ) → All (IsGrantedIn (length users) log) ranks
      → flat_map (λ ranked. 32 ∷ record_in version (log ++ more) (users ++ extra) ranked) ranks ≡ flat_map (λ ranked. 32 ∷ record_in version log users ranked) ranks
  records-longer version [] granted = refl
  records-longer version (ranked ∷ ranks) granted =
      ap (λ (text : List ℕ). 32 ∷ text ++ flat_map (λ r. 32 ∷ record_in version (log ++ more) (users ++ extra) r) ranks)
      (record-longer version ranked (All-head (IsGrantedIn (length users) log) ranked ranks granted))
      ∙ ap (λ (rest : List ℕ). 32 ∷ record_in version log users ranked ++ rest)
      (records-longer version ranks (All-tail (IsGrantedIn (length users) log) ranked ranks granted))

module _ (log more : List Statement) (names later : Names) (begins : Begins names later) (version : later.version ≡ names.version) where
  -- so are the records of an outcome
  records-later : (ranks : List ℕ) → All (IsGrantedIn (length names.users) log) ranks → records_text (log ++ more) later ranks ≡ records_text log names ranks
  records-later ranks granted =
      let extra : List (List ℕ) = drop (length names.users) later.users in
      ap (λ (v : Version). flat_map (λ ranked. 32 ∷ record_in v (log ++ more) later.users ranked) ranks) version
      ∙ ap (λ (users : List (List ℕ)). flat_map (λ ranked. 32 ∷ record_in names.version (log ++ more) users ranked) ranks) (behind names.users later.users begins.users)
      ∙ records-longer log more names.users extra names.version ranks granted

  deed-later : (deed : DeedDone) → All (IsGrantedIn (length names.users) log) (records_revoked deed) → deed_text (log ++ more) later deed ≡ deed_text log names deed
  deed-later DeedDone.None granted = refl
  deed-later DeedDone.Granted granted = refl
  deed-later (DeedDone.Revoked ranks) granted = ap (λ (text : List ℕ). codes " revoked" ++ text) (records-later ranks granted)

  done-later : (form : Form) (outputs : List ℤ) (deed : DeedDone) → All (IsGrantedIn (length names.users) log) (records_revoked deed)
      → done_text (log ++ more) later form outputs deed ≡ done_text log names form outputs deed
  done-later (Form.Create table columns) outputs deed granted = ap (λ (text : List ℕ). codes " done" ++ numbers_text outputs ++ text) (deed-later deed granted)
  done-later (Form.Run accesses steps asked) outputs deed granted = ap (λ (text : List ℕ). codes " done" ++ numbers_text outputs ++ text) (deed-later deed granted)
  done-later (Form.Deed asked) outputs deed granted = deed-later deed granted

  -- and the report's line for a place
  pub text-longer : (place : ℕ) (form : Form) (o : Outcome) → IsNamed (length names.tables) o → All (IsGrantedIn (length names.users) log) (records_listed o)
      → outcome_text (log ++ more) later place form o ≡ outcome_text log names place form o
  text-longer place form Outcome.Created named granted = refl
  text-longer place form (Outcome.Done outputs deed) named granted = ap (λ (text : List ℕ). decimal place ++ text ++ codes "\n") (done-later form outputs deed granted)
  text-longer place form (Outcome.Denied need cause) named granted =
      ap (λ (name : List ℕ). decimal place ++ (codes " denied " ++ (kind_word need.kind ++ codes " " ++ name ++ (if need.option then codes " option" else [])) ++ cause_text cause) ++ codes "\n")
      (ap (λ (tables : List (List ℕ)). table_name tables need.table) (behind names.tables later.tables begins.tables)
      ∙ name-longer names.tables (drop (length names.tables) later.tables) need.table named)
  text-longer place form (Outcome.Aborted step reason) named granted = refl
  text-longer place form (Outcome.Undeclared step) named granted = refl

-- whom a log's record was granted to is a user of the log, or all
module _ (log : Accepted) (whole : IsWhole log) where
  grantee-known : (ranked : ℕ) (grantee : Grantee) → grantee_at log.statements ranked ≡ Some grantee → IsKnownTo (length log.names.users) grantee
  grantee-known ranked grantee is = by_statement (slice_get log.statements (place_of_rank ranked)) refl
    where
      by_statement : (found : Option Statement) → slice_get log.statements (place_of_rank ranked) ≡ found → IsKnownTo (length log.names.users) grantee
      by_statement None there = let bad : None ≡ Some grantee = sym (ap (grantee_in ranked) there) ∙ is in absurd (cc)
      by_statement (Some statement) there =
          let P : Grantee → Type 0 = IsKnownTo (length log.names.users) in
          let taken : IsAccepted log.names statement =
          subst (λ (o : Option Statement). IfSome o (IsAccepted log.names)) there (got (IsAccepted log.names) log.statements (place_of_rank ranked) whole.taken) in
          subst (λ (o : Option Grantee). IfSome o P) (sym (ap (grantee_in ranked) there) ∙ is) (got P (grantees_in statement.form) (position_of_rank ranked) taken.grantees)

  -- so are those of grants that were made
  pub granted-known : (place : ℕ) (ranks : List ℕ) → WereGranted log.statements place ranks → All (IsGrantedIn (length log.names.users) log.statements) ranks
  granted-known place ranks granted =
      All-weaker (λ ranked. (grant : Grant) × Contains (deeds_before log.statements place) (Granting grant) × (rank grant ≡ ranked))
      (IsGrantedIn (length log.names.users) log.statements)
      (λ ranked made.
      let is : grantee_at log.statements ranked ≡ Some made.0.grantee =
      ap (grantee_at log.statements) (sym made.2) ∙ granted-named log.statements place made.0 made.1 in
      (made.0.grantee, (is, grantee-known ranked made.0.grantee is)))
      ranks granted

-- the records that an outcome lists were granted before its place
pub outcome-granted : (log : List Statement) (place : ℕ) (o : Outcome) → outcome log place ≡ Some o → WereGranted log place (records_listed o)
outcome-granted log place Outcome.Created is = All-nil _
outcome-granted log place (Outcome.Done outputs DeedDone.None) is = All-nil _
outcome-granted log place (Outcome.Done outputs DeedDone.Granted) is = All-nil _
outcome-granted log place (Outcome.Done outputs (DeedDone.Revoked ranks)) is = revoked-granted log place place outputs ranks is (omega arith)
outcome-granted log place (Outcome.Denied need cause) is = All-nil _
outcome-granted log place (Outcome.Aborted step reason) is = All-nil _
outcome-granted log place (Outcome.Undeclared step) is = All-nil _

-- so the log says to whom
pub grantees-found : (log : List Statement) (place : ℕ) (ranks : List ℕ) → WereGranted log place ranks
    → map (grantee_at log) ranks ≡ map Some (filter_map (grantee_at log) ranks)
grantees-found log place [] granted = refl
grantees-found log place (ranked ∷ ranks) granted =
    let P : ℕ → Type 0 = λ r. (grant : Grant) × Contains (deeds_before log place) (Granting grant) × (rank grant ≡ r) in
    let made = All-head P ranked ranks granted in
    let is : grantee_at log ranked ≡ Some made.0.grantee = ap (grantee_at log) (sym made.2) ∙ granted-named log place made.0 made.1 in
    let later = grantees-found log place ranks (All-tail P ranked ranks granted) in
    rw is (ap (λ (rest : List (Option Grantee)). Some made.0.grantee ∷ rest) later)

-- the grantee of a record is that of the statement of its place
module _ (log : List Statement) (name : Inside) (ranked : ℕ) (is : rank_of name.place name.kind name.position ≡ ranked) where
  pub grantee-there : (statement : Statement) → slice_get log name.place ≡ Some statement
      → slice_get (grantees_in statement.form) (position_code name.position) ≡ grantee_at log ranked
  grantee-there statement there =
      ap (slice_get (grantees_in statement.form)) (sym (position-at name ranked is))
      ∙ ap (grantee_in ranked) (sym there)
      ∙ ap (λ (place : ℕ). grantee_in ranked (slice_get log place)) (sym (place-at name ranked is))

  pub no-grantee : length log ≤ name.place → None ≡ grantee_at log ranked
  no-grantee past =
      ap (grantee_in ranked) (sym (slice_get_past log name.place past))
      ∙ ap (λ (place : ℕ). grantee_in ranked (slice_get log place)) (sym (place-at name ranked is))
