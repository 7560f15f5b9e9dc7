-- Which fault a line has: of its words, the first that doesn't fit what is expected there decides.
use Rattle.std.specs.Prelude.{ℕ, ◌+◌, Bool, not, true, false, ◌&&◌, ◌||◌, List, [], ◌∷◌, ◌++◌, length, nat_lt, ◌==◌, bytes_eq, is_some, if◌then◌else◌, Option, Some, None, codes}
use Rattle.std.specs.List.{list_all, list_any}
use Rattle.line_words.specs.Words.{words, plain, signed_of, is_name, is_printable}
use Rattle.line_words.specs.StepWords.{step_name}
use Rattle.line_words.specs.Faults.{unless, or_else}
use Rattle.line_words.specs.Access.{access_fault}
use Rattle.line_words.specs.declared.fault.LineFault.{LineFault}
use Rattle.line_words.specs.declared.fault.LineFault.TheVariants.{TooLong, NotAscii, Empty, UnknownWord, BadNumber, BadName, TooManySteps, TooManyAccesses, BadRegister, TooManyGrantees, DuplicateGrantee}
use Rattle.model_base.specs.declared.limits.TheConstants.{MOST_ACCESSES, MOST_COLUMNS, MOST_GRANTEES, MOST_OUTPUTS, MOST_REGISTERS, MOST_STEPS}
use Rattle.line_io.specs.declared.limits.TheConstants.{MOST_LINE_BYTES}
use Rattle.model_base.specs.declared.deed.Kind.{Kind}
use Rattle.model_base.specs.declared.deed.Kind.TheVariants as kind
use Rattle.log_text.specs.declared.version.Version.{Version}
use Rattle.log_text.specs.declared.version.Version.TheVariants.{One}
use Rattle.log_text.specs.Versions.{parts_of, version_number}
use Rattle.line_words.specs.declared.step_name.StepName.{StepName}
use Rattle.line_words.specs.declared.step_name.StepName.TheVariants.{Const, Compute, Has, Load, Store, Insert, Delete, Check, Skip, Out}

-- what may come next in a line; where a deed may come, in the grammar of which version
pub data Expected : Type 0 where
  OfName : Expected
  OfPlain : Expected
  OfWhole : Expected
  OfRegister : Expected
  OfRow : Expected
  OfKinds : (version : ℕ) → Expected
  -- names or PUBLIC; in a grant OPTION may be after names
  OfGrantees : (version : ℕ) (grants : Bool) → Expected
  -- OPTION or the end
  OfOption : Expected
  -- CREATE, RUN, GRANT or REVOKE
  OfForm : (version : ℕ) → Expected
  -- the first access
  OfAccess : Expected
  -- a further access, when there are this many, or a bar or the end
  OfNext : (version accesses : ℕ) → Expected
  -- a step's word, when there are this many steps and outs, or GRANT or REVOKE
  OfStep : (version steps outs : ℕ) → Expected
  -- a bar or the end
  OfBar : (version steps outs : ℕ) → Expected
  -- a further register of an INSERT, when there are this many, or a bar or the end
  OfMore : (version registers steps outs : ℕ) → Expected

abbrev pub is_bar : List ℕ → Bool
is_bar w = bytes_eq w (codes "|")

-- whether the word begins a deed
abbrev pub is_deed : List ℕ → Bool
is_deed w = bytes_eq w (codes "GRANT") || bytes_eq w (codes "REVOKE")

abbrev pub is_public : List ℕ → Bool
is_public w = bytes_eq w (codes "PUBLIC")

-- the kind that a word names
abbrev pub kind_named : List ℕ → Option Kind
kind_named w =
    if bytes_eq w (codes "READ") then Some kind.Read
    else if bytes_eq w (codes "INSERT") then Some kind.Insert
    else if bytes_eq w (codes "UPDATE") then Some kind.Update
    else if bytes_eq w (codes "DELETE") then Some kind.Delete
    else None

-- the words of the kinds, in order
abbrev pub kind_words : List (List ℕ)
kind_words = codes "READ" ∷ codes "INSERT" ∷ codes "UPDATE" ∷ codes "DELETE" ∷ []

-- the words are among these, in their order
abbrev pub stand_among : List (List ℕ) → List (List ℕ) → Bool
stand_among [] [] = true
stand_among [] (w ∷ ws) = false
stand_among (c ∷ cs) [] = true
stand_among (c ∷ cs) (w ∷ ws) = if bytes_eq w c then stand_among cs ws else stand_among cs (w ∷ ws)

-- the fault of a grantee's word after these: it is one too many, is neither a name nor PUBLIC, or is one of them
abbrev pub grantee_fault : List (List ℕ) → List ℕ → Option LineFault
grantee_fault earlier w =
    or_else (unless (nat_lt (length earlier) MOST_GRANTEES) TooManyGrantees)
    (or_else (unless (is_name w || is_public w) BadName) (unless (not (list_any (bytes_eq w) earlier)) DuplicateGrantee))

-- the grantees from left to right, after those before them
abbrev pub grantees_fault : List (List ℕ) → List (List ℕ) → Option LineFault
grantees_fault earlier [] = None
grantees_fault earlier (w ∷ ws) = or_else (grantee_fault earlier w) (grantees_fault (earlier ++ w ∷ []) ws)

-- a step too many, or an OUT too many
abbrev pub step_fault : Option StepName → ℕ → ℕ → Option LineFault
step_fault None steps outs = Some UnknownWord
step_fault (Some Out) steps outs = unless (nat_lt steps MOST_STEPS && nat_lt outs MOST_OUTPUTS) TooManySteps
step_fault (Some _) steps outs = unless (nat_lt steps MOST_STEPS) TooManySteps

-- what follows the word of a step, when there are this many steps and outs before it
abbrev pub expected_in : Option StepName → ℕ → ℕ → ℕ → List Expected
expected_in None version steps outs = []
expected_in (Some Const) version steps outs = OfRegister ∷ OfWhole ∷ OfBar version (steps + 1) outs ∷ []
expected_in (Some (Compute operation)) version steps outs = OfRegister ∷ OfRegister ∷ OfRegister ∷ OfBar version (steps + 1) outs ∷ []
expected_in (Some Has) version steps outs = OfRegister ∷ OfName ∷ OfRow ∷ OfBar version (steps + 1) outs ∷ []
expected_in (Some Load) version steps outs = OfRegister ∷ OfName ∷ OfRow ∷ OfPlain ∷ OfBar version (steps + 1) outs ∷ []
expected_in (Some Store) version steps outs = OfName ∷ OfRow ∷ OfPlain ∷ OfRegister ∷ OfBar version (steps + 1) outs ∷ []
expected_in (Some Insert) version steps outs = OfName ∷ OfRow ∷ OfRegister ∷ OfMore version 1 (steps + 1) outs ∷ []
expected_in (Some Delete) version steps outs = OfName ∷ OfRow ∷ OfBar version (steps + 1) outs ∷ []
expected_in (Some Check) version steps outs = OfRegister ∷ OfBar version (steps + 1) outs ∷ []
expected_in (Some Skip) version steps outs = OfRegister ∷ OfPlain ∷ OfBar version (steps + 1) outs ∷ []
expected_in (Some Out) version steps outs = OfRegister ∷ OfBar version (steps + 1) (outs + 1) ∷ []

-- what follows GRANT, and what REVOKE: nothing is after a deed
abbrev pub expected_in_grant : ℕ → List Expected
expected_in_grant version = OfKinds version ∷ OfName ∷ OfGrantees version true ∷ []

abbrev pub expected_in_revoke : ℕ → List Expected
expected_in_revoke version = OfKinds version ∷ OfName ∷ OfGrantees version false ∷ []

-- what follows the word that begins a deed
abbrev pub expected_in_deed : ℕ → List ℕ → List Expected
expected_in_deed version w = if bytes_eq w (codes "GRANT") then expected_in_grant version else expected_in_revoke version

abbrev pub register_fault : Option ℕ → Option LineFault
register_fault None = Some BadNumber
register_fault (Some n) = unless (nat_lt n MOST_REGISTERS) BadRegister

abbrev pub row_fault : List ℕ → Option LineFault
row_fault [] = Some BadNumber
row_fault (b ∷ bs) = if b == 114 then register_fault (plain bs) else unless (is_some (plain (b ∷ bs))) BadNumber

-- the fault of a word that doesn't fit what is expected
abbrev pub misfit : Expected → List ℕ → Option LineFault
misfit OfName w = unless (is_name w) BadName
misfit OfPlain w = unless (is_some (plain w)) BadNumber
misfit OfWhole w = unless (is_some (signed_of w)) BadNumber
misfit OfRegister w = register_fault (plain w)
misfit OfRow w = row_fault w
misfit (OfKinds version) w = unless (stand_among kind_words (parts_of version w)) UnknownWord
misfit (OfGrantees version grants) w = grantees_fault [] (parts_of version w)
misfit OfOption w = unless (bytes_eq w (codes "OPTION")) UnknownWord
misfit (OfForm version) w = unless (bytes_eq w (codes "CREATE") || bytes_eq w (codes "RUN") || is_deed w) UnknownWord
misfit OfAccess w = access_fault w
misfit (OfNext version accesses) w =
    if is_bar w then None else if nat_lt accesses MOST_ACCESSES then access_fault w else Some TooManyAccesses
misfit (OfStep version steps outs) w = if is_deed w then None else step_fault (step_name w) steps outs
misfit (OfBar version steps outs) w = unless (is_bar w) UnknownWord
misfit (OfMore version registers steps outs) w =
    if is_bar w then None else if nat_lt registers MOST_COLUMNS then register_fault (plain w) else Some UnknownWord

-- what a word that fits adds to what is expected
abbrev pub expected_behind : Expected → List ℕ → List Expected
expected_behind OfName w = []
expected_behind OfPlain w = []
expected_behind OfWhole w = []
expected_behind OfRegister w = []
expected_behind OfRow w = []
expected_behind (OfKinds version) w = []
expected_behind (OfGrantees version grants) w =
    if grants && not (list_any is_public (parts_of version w)) then OfOption ∷ [] else []
expected_behind OfOption w = []
expected_behind (OfForm version) w =
    if bytes_eq w (codes "CREATE") then OfName ∷ OfPlain ∷ []
    else if bytes_eq w (codes "RUN") then OfAccess ∷ OfNext version 1 ∷ []
    else expected_in_deed version w
expected_behind OfAccess w = []
expected_behind (OfNext version accesses) w = if is_bar w then OfStep version 0 0 ∷ [] else OfNext version (accesses + 1) ∷ []
expected_behind (OfStep version steps outs) w =
    if is_deed w then expected_in_deed version w else expected_in (step_name w) version steps outs
expected_behind (OfBar version steps outs) w = OfStep version steps outs ∷ []
expected_behind (OfMore version registers steps outs) w =
    if is_bar w then OfStep version steps outs ∷ [] else OfMore version (registers + 1) steps outs ∷ []

-- the line may end in place of such a word
abbrev pub may_end : Expected → Bool
may_end OfOption = true
may_end (OfNext version accesses) = true
may_end (OfBar version steps outs) = true
may_end (OfMore version registers steps outs) = true
may_end p = false

-- from left to right the first word that doesn't fit decides; a missing word counts as the empty one
abbrev pub fault_from : List Expected → List (List ℕ) → Option LineFault
fault_from [] [] = None
fault_from [] (w ∷ ws) = Some UnknownWord
fault_from (p ∷ ps) [] = if may_end p then None else misfit p []
fault_from (p ∷ ps) (w ∷ ws) = or_else (misfit p w) (fault_from (expected_behind p w ++ ps) ws)

-- the fault of the words of a line, if they have one
abbrev pub words_fault : Version → List ℕ → Option LineFault
words_fault version line = fault_from (OfName ∷ OfForm (version_number version) ∷ []) (words line)

-- the fault of a line of a version, if it has one
abbrev pub fault_in : Version → List ℕ → Option LineFault
fault_in version line =
    if nat_lt MOST_LINE_BYTES (length line) then Some TooLong
    else if length line == 0 then Some Empty
    else if list_all is_printable line then words_fault version line
    else Some NotAscii

-- the same of version 1
abbrev pub line_fault : List ℕ → Option LineFault
line_fault line = fault_in One line

-- the fault of a line as a whole, whatever its words are: its length, or a byte that isn't printable
abbrev pub whole_fault : List ℕ → Option LineFault
whole_fault line =
    if nat_lt MOST_LINE_BYTES (length line) then Some TooLong
    else if length line == 0 then Some Empty
    else if list_all is_printable line then None
    else Some NotAscii
