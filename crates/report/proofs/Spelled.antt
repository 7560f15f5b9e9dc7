-- The records of an outcome as they are appended are those of its text.
use Rattle.std.proofs.Common.{◌≡◌, ◌<◌, ◌+◌, ℕ, List, [], ◌∷◌, ◌++◌, length, map, drop, get_or, Option, Some, refl, ap, sym, ◌∙◌, add-one, drop-cons}
use Rattle.std.specs.Prelude.{Result, Ok, Err, OnOk}
use Rattle.std.specs.List.{flat_map}
use Rattle.model_base.specs.declared.deed.Grantee.{Grantee}
use Rattle.model_base.specs.declared.statement.Statement.{Statement}
use Rattle.model_base.specs.RecordGrantees.{grantee_at}
use Rattle.log_text.specs.declared.version.Version.{Version}
use Rattle.sequencer.specs.Catalog.{Names}
use Rattle.report.specs.Records.{places_text, spelled_records}
use Rattle.report.specs.Text.{HaveGrantees, record_in, records_text, spelled_record}

-- in version 1 they are their places
pub in_one : (log : List Statement) (names : Names) (ranks : List ℕ) → names.version ≡ Version.One → places_text ranks ≡ records_text log names ranks
in_one log names ranks is =
    ap (λ (version : Version). flat_map (λ ranked. 32 ∷ record_in version log names.users ranked) ranks) (sym is)

-- in version 2 each has its grantee
spelled-all : (log : List Statement) (users : List (List ℕ)) (ranks : List ℕ) (grantees : List Grantee) → map (grantee_at log) ranks ≡ map Some grantees
    → spelled_records users ranks grantees ≡ flat_map (λ ranked. 32 ∷ record_in Version.Two log users ranked) ranks
spelled-all log users [] grantees are = refl
spelled-all log users (ranked ∷ ranks) [] are = absurd (cc)
spelled-all log users (ranked ∷ ranks) (grantee ∷ grantees) are =
    let first : grantee_at log ranked ≡ Some grantee = cc in
    let later : map (grantee_at log) ranks ≡ map Some grantees = cc in
    ap (λ (o : Option Grantee). 32 ∷ spelled_record users ranked o ++ spelled_records users ranks grantees) (sym first)
    ∙ ap (λ (rest : List ℕ). 32 ∷ spelled_record users ranked (grantee_at log ranked) ++ rest) (spelled-all log users ranks grantees later)

pub in_two : (log : List Statement) (names : Names) (ranks : List ℕ) (grantees : List Grantee) → names.version ≡ Version.Two
    → HaveGrantees names.version log ranks grantees → spelled_records names.users ranks grantees ≡ records_text log names ranks
in_two log names ranks grantees is are =
    spelled-all log names.users ranks grantees (rw is at are)
    ∙ ap (λ (version : Version). flat_map (λ ranked. 32 ∷ record_in version log names.users ranked) ranks) (sym is)

-- one more record
pub spelled-next : (users : List (List ℕ)) (ranks : List ℕ) (grantees : List Grantee) (index ranked : ℕ) (grantee : Grantee)
    → index < length ranks → index < length grantees
    → spelled_records users (drop index ranks) (drop index grantees)
    ≡ 32 ∷ spelled_record users (get_or ranks index ranked) (Some (get_or grantees index grantee))
    ++ spelled_records users (drop (index + 1) ranks) (drop (index + 1) grantees)
spelled-next users ranks grantees index ranked grantee low less =
    rw (drop-cons ranks index ranked low, drop-cons grantees index grantee less, add-one index) refl

-- no more records
pub spelled-none : (users : List (List ℕ)) (ranks : List ℕ) → spelled_records users ranks [] ≡ []
spelled-none users [] = refl
spelled-none users (ranked ∷ ranks) = refl

-- what follows from what holds where the answer is Ok
pub then_on : {A E P Q : Type 0} (result : Result A E) → OnOk result P → (P → Q) → OnOk result Q
then_on (Ok done) holds then = then holds
then_on (Err fault) holds then = tt
