-- Access words: name ":" plain ":" letters, with one to four of the letters R I U D, each at most once, in this order.
use Rattle.std.specs.Prelude.{◌≢◌, ℕ, ◌<◌, ◌^◌, Bool, true, false, not, ◌&&◌, List, [], ◌∷◌, ◌++◌, length, ◌==◌, is_some, if◌then◌else◌, Option, codes, decimal, IsTrue}
use Rattle.std.specs.List.{before_first, after_first}
use Rattle.model_base.specs.declared.deed.Kinds.{Kinds}
use Rattle.line_words.specs.Words.{plain, is_name}
use Rattle.line_words.specs.Faults.{unless, or_else}
use Rattle.line_words.specs.declared.fault.LineFault.{LineFault}
use Rattle.line_words.specs.declared.fault.LineFault.TheVariants.{UnknownWord, BadNumber, BadName}
use Rattle.line_words.specs.declared.access.RawAccess.{RawAccess}

-- the letter, if it is wanted
abbrev pub letter_if : Bool → ℕ → List ℕ
letter_if true c = c ∷ []
letter_if false c = []

-- the letters of the kinds
abbrev pub letters : Kinds → List ℕ
letters k = letter_if k.read 82 ++ (letter_if k.insert 73 ++ (letter_if k.update 85 ++ letter_if k.delete 68))

-- the word of an access
abbrev pub access_word : RawAccess → List ℕ
access_word a = a.table ++ 58 ∷ (decimal a.row ++ 58 ∷ letters a.kinds)

-- a name, a row's number and one kind or more
abbrev pub IsAccess : RawAccess → Type 0
IsAccess a = IsTrue (is_name a.table) × (a.row < 2 ^ 32) × (letters a.kinds ≢ [])

-- the bytes of the word are among these letters, in their order
abbrev pub is_in_order : List ℕ → List ℕ → Bool
is_in_order [] [] = true
is_in_order [] (b ∷ bs) = false
is_in_order (c ∷ cs) [] = true
is_in_order (c ∷ cs) (b ∷ bs) = if b == c then is_in_order cs bs else is_in_order cs (b ∷ bs)

-- one letter or more, in the order of RIUD
abbrev pub is_letters : List ℕ → Bool
is_letters w = not (length w == 0) && is_in_order (codes "RIUD") w

-- what is before a word's first colon
abbrev pub before_colon : List ℕ → List ℕ
before_colon w = before_first (λ b. b == 58) w

-- what comes after it, empty if there is no colon
abbrev pub after_colon : List ℕ → List ℕ
after_colon w = after_first (λ b. b == 58) w

-- the fault of a word where an access is expected: it is cut at its first two colons, and a part that is missing is empty
abbrev pub access_fault : List ℕ → Option LineFault
access_fault w =
    or_else (unless (is_name (before_colon w)) BadName)
    (or_else (unless (is_some (plain (before_colon (after_colon w)))) BadNumber)
    (unless (is_letters (after_colon (after_colon w))) UnknownWord))
