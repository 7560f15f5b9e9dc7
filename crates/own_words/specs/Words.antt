-- A place's own words: its outcome and its version cells as numbers of 64 bits. BOHM makes room for each version before anything runs (J.
-- M. Faleiro and D. J. Abadi, "Rethinking Serializable Multiversion Concurrency Control", PVLDB 8, 2015, section 3); that a place's outcome
-- is kept in the same way, and the words for it, are this project's own. What a revocation ended isn't in the words, and is known apart
-- from them.
use Rattle.std.specs.Prelude.{◌≡◌, ◌==◌, ◌&&◌, ◌+◌, ◌-◌, ◌^◌, ◌<◌, ◌≤◌, ℕ, min, not, Bool, true, false, Option, Some, None, List, [], ◌∷◌, ◌++◌, ℤ, All, Contains, length, map, take, drop, replicate, slice_get, slice_index, count_by, if◌then◌else◌}
use Rattle.std.specs.Int.{cast_signed, cast_unsigned, w64}
use Rattle.std.specs.Int.RustNames.{FitsSigned}
use Rattle.std.specs.List.{position_or_len}
use Rattle.model_base.specs.declared.limits.TheConstants.{MOST_OUTPUTS}
use Rattle.model_base.specs.declared.deed.Cause.{Cause}
use Rattle.model_base.specs.declared.deed.Cause.TheVariants.{Never, Taken}
use Rattle.model_base.specs.declared.deed.Deed.{Deed}
use Rattle.model_base.specs.declared.deed.Deed.TheVariants.{Granting, Revoking}
use Rattle.model_base.specs.declared.deed.Need.{Need}
use Rattle.model_base.specs.declared.outcome.DeedDone.{DeedDone}
use Rattle.model_base.specs.declared.outcome.Outcome.{Outcome}
use Rattle.model_base.specs.declared.outcome.Reason.{Reason}
use Rattle.model_base.specs.declared.outcome.Reason.TheVariants.{NoRow, RowExists, Overflow, Check}
use Rattle.model_base.specs.declared.statement.DeedForm.{DeedForm}
use Rattle.model_base.specs.declared.statement.Form.{Form}
use Rattle.model_base.specs.declared.statement.Step.{Step}
use Rattle.model_base.specs.Outcomes.{deeds_at, needs}
use Rattle.model_base.specs.Privileges.{same_kind}

-- a whole number as the 64 bits of its two's complement
abbrev pub bits : ℤ → ℕ
bits value = cast_unsigned w64 value

-- the whole number whose two's complement has these 64 bits
abbrev pub signed : ℕ → ℤ
signed word = cast_signed w64 word

-- whether the step gives an output
abbrev pub is_out : Step → Bool
is_out (Step.Out of) = true
is_out step = false

-- how many outputs a statement has room for: its OUT steps
abbrev pub outputs_of : Form → ℕ
outputs_of (Form.Create table columns) = 0
outputs_of (Form.Run accesses steps deed) = count_by is_out steps
outputs_of (Form.Deed deed) = 0

-- whether both are with the right to grant further, or both without it
abbrev pub same_option : Bool → Bool → Bool
same_option option other = if option then other else not other

-- whether the two needs are the same
abbrev pub same_need : Need → Need → Bool
same_need need other =
    same_kind need.kind other.kind && ((need.table == other.table) && same_option need.option other.option)

-- the number of a need: its first position among the statement's needs
abbrev pub need_number : Form → Need → ℕ
need_number form need = position_or_len (same_need need) (needs form)

-- the word for why a need isn't held
abbrev pub cause_word : Cause → ℕ
cause_word Never = 0
cause_word (Taken place) = place + 1

-- the word for why a body was aborted
abbrev pub reason_code : Reason → ℕ
reason_code NoRow = 0
reason_code RowExists = 1
reason_code Overflow = 2
reason_code Check = 3

-- word 0: which kind of outcome it is
abbrev pub outcome_word : Outcome → ℕ
outcome_word (Outcome.Done outputs deed) = 1
outcome_word Outcome.Created = 2
outcome_word (Outcome.Denied need cause) = 3
outcome_word (Outcome.Aborted step reason) = 4
outcome_word (Outcome.Undeclared step) = 5

-- word 1: the number of the need, or the step
abbrev pub first_detail : Form → Outcome → ℕ
first_detail form (Outcome.Done outputs deed) = 0
first_detail form Outcome.Created = 0
first_detail form (Outcome.Denied need cause) = need_number form need
first_detail form (Outcome.Aborted step reason) = step
first_detail form (Outcome.Undeclared step) = step

-- word 2: the cause, or the reason
abbrev pub second_detail : Outcome → ℕ
second_detail (Outcome.Done outputs deed) = 0
second_detail Outcome.Created = 0
second_detail (Outcome.Denied need cause) = cause_word cause
second_detail (Outcome.Aborted step reason) = reason_code reason
second_detail (Outcome.Undeclared step) = 0

-- the outputs of a place; only a done one has any
abbrev pub outputs_told : Outcome → List ℤ
outputs_told (Outcome.Done outputs deed) = outputs
outputs_told Outcome.Created = []
outputs_told (Outcome.Denied need cause) = []
outputs_told (Outcome.Aborted step reason) = []
outputs_told (Outcome.Undeclared step) = []

-- the outputs in their room, with 0 after them
abbrev pub output_words : ℕ → List ℤ → List ℕ
output_words room outputs = map bits outputs ++ replicate (room - length outputs) 0

-- words 0 to 3 and the outputs
abbrev pub header : Form → Outcome → List ℕ
header form outcome =
    outcome_word outcome
    ∷ (first_detail form outcome
    ∷ (second_detail outcome ∷ (length (outputs_told outcome) ∷ output_words (outputs_of form) (outputs_told outcome))))

-- the words of a version cell: whether the row is there, and its numbers in the table's columns
abbrev pub row_words : ℕ → Option (List ℤ) → List ℕ
row_words columns None = 0 ∷ replicate columns 0
row_words columns (Some row) = 1 ∷ map bits row

-- this many whole numbers, from the words after the first few
abbrev pub numbers_from : ℕ → ℕ → List ℕ → List ℤ
numbers_from first count words = map signed (take count (drop first words))

-- the row of a version cell, of which a first word 0 says that it is absent
abbrev pub row_of : ℕ → List ℕ → Option (List ℤ)
row_of columns words = if slice_index words 0 == 0 then None else Some (numbers_from 1 columns words)

-- the deed of a statement, as it names it
abbrev pub deed_form : Form → Option DeedForm
deed_form (Form.Create table columns) = None
deed_form (Form.Run accesses steps deed) = deed
deed_form (Form.Deed deed) = Some deed

-- what the deeds of a place result in, by the first of them and the ranks of the records that its revocation ended
abbrev pub deeds_told : List ℕ → List Deed → DeedDone
deeds_told ended [] = DeedDone.None
deeds_told ended (Granting grant ∷ deeds) = DeedDone.Granted
deeds_told ended (Revoking revocation ∷ deeds) = DeedDone.Revoked ended

-- what a deed results in; of which place and user its deeds are, it is the same
abbrev pub deed_told : List ℕ → Option DeedForm → DeedDone
deed_told ended None = DeedDone.None
deed_told ended (Some deed) = deeds_told ended (deeds_at 0 0 deed)

-- a completed transaction: of the words after word 3 this many are outputs as that says, and at most `MOST_OUTPUTS`
abbrev pub done_from : Form → List ℕ → List ℕ → Outcome
done_from form words ended =
    Outcome.Done (numbers_from 4 (min (slice_index words 3) MOST_OUTPUTS) words) (deed_told ended (deed_form form))

-- the cause of this word
abbrev pub cause_from : ℕ → Cause
cause_from word = if word == 0 then Never else Taken (word - 1)

-- a denial by a need of the statement; where there is none of this number, the place reads as undeclared
abbrev pub denied_from : ℕ → Cause → Option Need → Outcome
denied_from number cause None = Outcome.Undeclared number
denied_from number cause (Some need) = Outcome.Denied need cause

-- an aborted body; where no reason has this word, the place reads as undeclared
abbrev pub aborted_from : ℕ → ℕ → Outcome
aborted_from step word =
    if word == 0
    then Outcome.Aborted step NoRow
    else (if word == 1
    then Outcome.Aborted step RowExists
    else (if word == 2 then Outcome.Aborted step Overflow else (if word == 3 then Outcome.Aborted step Check else Outcome.Undeclared step)))

-- the outcome that a place's words give, with the ranks of the records that its revocation ended. Words that are missing read as 0, and
-- where word 0 is none of the five, the place reads as undeclared at the step of word 1
abbrev pub outcome_from : Form → List ℕ → List ℕ → Outcome
outcome_from form words ended =
    if slice_index words 0 == 1
    then done_from form words ended
    else (if slice_index words 0 == 2
    then Outcome.Created
    else (if slice_index words 0 == 3
    then denied_from (slice_index words 1) (cause_from (slice_index words 2)) (slice_get (needs form) (slice_index words 1))
    else (if slice_index words 0 == 4
    then aborted_from (slice_index words 1) (slice_index words 2)
    else Outcome.Undeclared (slice_index words 1))))

-- whether the statement creates a table
abbrev pub creates : Form → Bool
creates (Form.Create table columns) = true
creates (Form.Run accesses steps deed) = false
creates (Form.Deed deed) = false

-- whether the outcome is that of a created table
abbrev pub is_created : Outcome → Bool
is_created (Outcome.Done outputs deed) = false
is_created Outcome.Created = true
is_created (Outcome.Denied need cause) = false
is_created (Outcome.Aborted step reason) = false
is_created (Outcome.Undeclared step) = false

-- the ranks of the records that a deed ended
abbrev pub ranks_ended_by : DeedDone → List ℕ
ranks_ended_by DeedDone.None = []
ranks_ended_by DeedDone.Granted = []
ranks_ended_by (DeedDone.Revoked ranks) = ranks

-- the ranks of the records that the revocation of an outcome ended
abbrev pub ended_in : Outcome → List ℕ
ended_in (Outcome.Done outputs deed) = ranks_ended_by deed
ended_in Outcome.Created = []
ended_in (Outcome.Denied need cause) = []
ended_in (Outcome.Aborted step reason) = []
ended_in (Outcome.Undeclared step) = []

-- a completed transaction has the statement's kind of deed, and outputs of 64 bits that its room and a place's words hold
pub record FitsDone (form : Form) (outputs : List ℤ) (deed : DeedDone) : Type 0 where
  pub room : length outputs ≤ outputs_of form
  pub few : length outputs ≤ MOST_OUTPUTS
  pub range : All (FitsSigned w64) outputs
  pub kind : deed ≡ deed_told (ranks_ended_by deed) (deed_form form)

-- the row of a version cell, if there is one, has a number of 64 bits for each column
abbrev pub FitsColumns : ℕ → Option (List ℤ) → Type 0
FitsColumns columns None = Unit {0}
FitsColumns columns (Some row) = (length row ≡ columns) × All (FitsSigned w64) row

-- the details of an outcome are such that words of 64 bits give them
abbrev pub FitsDetails : Form → Outcome → Type 0
FitsDetails form (Outcome.Done outputs deed) = FitsDone form outputs deed
FitsDetails form Outcome.Created = Unit {0}
FitsDetails form (Outcome.Denied need cause) = Contains (needs form) need × (cause_word cause < 2 ^ 64)
FitsDetails form (Outcome.Aborted step reason) = step < 2 ^ 64
FitsDetails form (Outcome.Undeclared step) = step < 2 ^ 64

-- what the words need in order to give the outcome of a statement: only a created table is known as that
pub record FitsForm (form : Form) (outcome : Outcome) : Type 0 where
  pub created : is_created outcome ≡ creates form
  pub details : FitsDetails form outcome
