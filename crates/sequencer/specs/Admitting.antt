-- What the statements of src/admitting.rt ask for, what entering their users asks of names, and what is taken out of a step.
use Rattle.std.specs.Prelude.{◌≡◌, ◌≢◌, ◌++◌, ◌∷◌, [], ℕ, MatchResult, None, Option, Result, Some, List, Vec, vec_capacity, IfErr, OnErr, OnOk}
use Rattle.std.specs.declared.alloc.Global.{Global}
use Rattle.model_base.specs.declared.statement.Step.{Step}
use Rattle.log_text.specs.Statement.{Sentence}
use Rattle.log_text.specs.declared.statement.RawDeed.{RawDeed}
use Rattle.log_text.specs.declared.statement.RawForm.{RawForm}
use Rattle.model_base.specs.declared.statement.Statement.{Statement}
use Rattle.sequencer.specs.Catalog.{Names, numbered, with_statement}
use Rattle.sequencer.specs.Refusal.{IsRefusal, deed_refusal, or_refused, refusal, users_refusal}
use Rattle.sequencer.specs.declared.raw_run.RawRun.{RawRun}
use Rattle.sequencer.specs.declared.refused.Refused.{Refused}
use Rattle.sequencer.specs.declared.refused.Refused.TheVariants.{NoMemory}

-- a step is appended where nothing is refused, and the room for further ones stays
abbrev pub AppendsStep : {X : Type 0} → Result X Refused → Option Refused → Vec Step Global → Vec Step Global → Step → Type 0
AppendsStep result found old new step =
    MatchResult result (λ _. (found ≡ None) × (new.items ≡ old.items ++ step ∷ []))
    (λ refused. (found ≡ Some refused) × (refused ≢ NoMemory))
    × (vec_capacity new ≡ vec_capacity old)

-- a user asks for a table of this name with this many columns
abbrev pub create_by : List ℕ → List ℕ → ℕ → Sentence
create_by user table columns = record { user = user; form = RawForm.Create table columns }

-- a user asks for the RUN
abbrev pub run_sentence : RawRun → Sentence
run_sentence run = record { user = run.user.now; form = RawForm.Run run.accesses.now run.steps.now run.deed.now }

-- a user asks for a deed by itself
abbrev pub deed_by : List ℕ → RawDeed → Sentence
deed_by user deed = record { user = user; form = RawForm.Deed deed }

-- a sentence is taken: it is appended by number to those that are kept, and its names are entered; or it is refused, and nothing changes
pub record Admits (sentence : Sentence) (result : Result (Unit {0}) Refused) (old new : Names) (kept_old kept_new : List Statement)
    : Type 0 where
  pub ok : OnOk result (kept_new ≡ kept_old ++ numbered old sentence ∷ [])
  pub passes : OnOk result (refusal old sentence ≡ None)
  pub names : OnOk result (new ≡ with_statement old sentence)
  pub refused : IfErr result (λ r. IsRefusal r (refusal old sentence))
  pub err : OnErr result (new ≡ old)
  pub none : OnErr result (kept_new ≡ kept_old)

-- the first test of a deed's table, and then of the users, that isn't passed
abbrev pub entry_refusal : Names → List ℕ → Option RawDeed → Option Refused
entry_refusal names user deed = or_refused (deed_refusal names deed) (users_refusal names.users user deed)
