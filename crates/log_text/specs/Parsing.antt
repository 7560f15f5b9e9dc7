-- A line while it is read or written.
use Rattle.std.specs.Prelude.{◌≡◌, ℕ, ◌+◌, ◌≤◌, Bool, Result, IfOk, IfErr, true, false, List, [], ◌∷◌, ◌++◌, Option, Some, None, if◌then◌else◌, codes, decimal, length, map, Vec, vec_len, MatchBool, MatchOption}
use Rattle.std.specs.List.{flat_map, sum_by, AllByRecursion}
use Rattle.std.specs.declared.alloc.Global.{Global}
use Rattle.model_base.specs.declared.limits.TheConstants.{MOST_ACCESSES, MOST_COLUMNS, MOST_OUTPUTS, MOST_STEPS}
use Rattle.model_base.specs.declared.deed.Kinds.{Kinds}
use Rattle.model_base.specs.Outcomes.{kinds_in}
use Rattle.line_words.specs.Access.{IsAccess}
use Rattle.line_words.specs.declared.access.RawAccess.{RawAccess}
use Rattle.model_base.specs.declared.deed.Kind.{Kind}
use Rattle.log_text.specs.Statement.{kind_word, outs_of, step_words, IsLastDeed, IsLastDeedOf, IsRegister, IsStep}
use Rattle.log_text.specs.Fault.{OfMore, OfStep, expected_in, fault_from, kind_words, stand_among}
use Rattle.line_words.specs.StepWords.{step_word}
use Rattle.line_words.specs.declared.step_name.StepName.{StepName}
use Rattle.line_words.specs.declared.step_name.StepName.TheVariants.{Out}
use Rattle.line_words.specs.declared.fault.LineFault.{LineFault}
use Rattle.log_text.specs.declared.statement.RawDeed.{RawDeed}
use Rattle.log_text.specs.declared.statement.RawStep.{RawStep}

-- the words begin with a step, and then come a bar and what is left, or nothing
abbrev pub TakesStep : List (List ℕ) → RawStep → Bool → List (List ℕ) → Type 0
TakesStep old s true left = old ≡ step_words s ++ codes "|" ∷ left
TakesStep old s false left = old ≡ step_words s

-- the fault of what is left after a bar, or none at the end
abbrev pub fault_behind : Bool → ℕ → ℕ → ℕ → List (List ℕ) → Option LineFault
fault_behind true version steps outs left = fault_from (OfStep version steps outs ∷ []) left
fault_behind false version steps outs left = None

-- how many outs there are after a step of this name
abbrev pub outs_behind : StepName → ℕ → ℕ
outs_behind Out outs = outs + 1
outs_behind name outs = outs

-- the words after the name of a step are read up to the next step or the end: they are this step, and what is left has the fault of the
-- whole, or the fault is theirs
pub record ReadsStep (name : StepName) (result : Result Bool LineFault) (step : RawStep) (old new : List (List ℕ)) : Type 0 where
  pub ok : IfOk result (λ more. TakesStep (step_word name ∷ old) step more new × IsStep step × (outs_of step ≡ outs_behind name 0))
  pub fits : IfOk result (λ more. (version steps outs : ℕ)
      → fault_from (expected_in (Some name) version steps outs) old ≡ fault_behind more version (steps + 1) (outs_behind name outs) new)
  pub fault : IfErr result (λ f. (version steps outs : ℕ) → fault_from (expected_in (Some name) version steps outs) old ≡ Some f)

-- the words are these, and then come a bar and what is left, or nothing
abbrev pub TakesWords : List (List ℕ) → List (List ℕ) → Bool → List (List ℕ) → Type 0
TakesWords old taken more left = MatchBool more (old ≡ taken ++ codes "|" ∷ left) (old ≡ taken)

-- accesses as a RUN has them
abbrev pub AreAccesses : Vec RawAccess Global → Type 0
AreAccesses accesses = (1 ≤ vec_len accesses) × (vec_len accesses ≤ MOST_ACCESSES) × AllByRecursion IsAccess accesses.items

-- the steps and the deed of a RUN, if it has one, in the grammar of the version
abbrev pub IsBodyOf : ℕ → Vec RawStep Global → Option RawDeed → Type 0
IsBodyOf version steps deed =
    (vec_len steps ≤ MOST_STEPS) × (sum_by outs_of steps.items ≤ MOST_OUTPUTS) × AllByRecursion IsStep steps.items
    × IsLastDeed deed × IsLastDeedOf version deed

-- the words are those of these kinds, in order, or of none
abbrev pub NameKinds : Option Kinds → List (List ℕ) → Type 0
NameKinds found words =
    MatchOption found (stand_among kind_words words ≡ false)
    (λ kinds. (words ≡ map kind_word (kinds_in kinds)) × (stand_among kind_words words ≡ true))

-- one to eight registers, as an INSERT has them
abbrev pub AreInsertable : List ℕ → Type 0
AreInsertable registers = (1 ≤ length registers) × (length registers ≤ MOST_COLUMNS) × AllByRecursion IsRegister registers

-- the registers and the words make the new registers, and then come a bar and what is left, or nothing
abbrev pub TakesRegisters : List ℕ → List (List ℕ) → List ℕ → Bool → List (List ℕ) → Type 0
TakesRegisters old words new true left = map decimal old ++ words ≡ map decimal new ++ codes "|" ∷ left
TakesRegisters old words new false left = map decimal old ++ words ≡ map decimal new

-- after this many registers of an INSERT the words have the fault of what is left after the bar, or none at the end
abbrev pub FitAsRegisters : ℕ → List (List ℕ) → Bool → List (List ℕ) → Type 0
FitAsRegisters registers words more left =
    (version steps outs : ℕ) → fault_from (OfMore version registers steps outs ∷ []) words ≡ fault_behind more version steps outs left

-- after this many registers of an INSERT the words have this fault
abbrev pub FailAsRegisters : ℕ → List (List ℕ) → LineFault → Type 0
FailAsRegisters registers words fault =
    (version steps outs : ℕ) → fault_from (OfMore version registers steps outs ∷ []) words ≡ Some fault

-- the words of kinds, with a comma before the first where there are others before them
abbrev pub kind_text : Bool → List Kind → List ℕ
kind_text later kinds = flat_map (λ kind. (if later then 44 ∷ [] else []) ++ kind_word kind) kinds

-- each word after a space
abbrev pub spaced : List (List ℕ) → List ℕ
spaced ws = flat_map (λ w. 32 ∷ w) ws
