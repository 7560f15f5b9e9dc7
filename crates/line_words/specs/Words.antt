-- The words of a line, which of them are names and numbers, and which bytes a line may have.
use Rattle.std.specs.Prelude.{ℕ, ◌^◌, Bool, false, ◌&&◌, ◌||◌, List, [], ◌∷◌, drop, length, nat_lt, nat_le, ◌==◌, if◌then◌else◌, Option, Some, None, bytes_eq, ℤ}
use Rattle.std.specs.Fmt.{decimal, signed_decimal}
use Rattle.std.specs.List.{slice_split, list_all}
use Rattle.std.specs.Str.Parse.{digits_value, signed_digits_value}
use Rattle.model_base.specs.declared.limits.TheConstants.{MOST_NAME_BYTES}
use Rattle.model_base.specs.Body.{fits_64_bits}

-- the pieces between single spaces
abbrev pub words : List ℕ → List (List ℕ)
words line = slice_split (λ b. b == 32) line

-- the pieces between bytes of one value of a text from an index on, and none past its end
abbrev pub split_from : ℕ → ℕ → List ℕ → List (List ℕ)
split_from value start text = if nat_le start (length text) then slice_split (λ b. b == value) (drop start text) else []

-- the words of a line from this index on, and none past its end
abbrev pub words_from : ℕ → List ℕ → List (List ℕ)
words_from start line = split_from 32 start line

-- the pieces of a word between commas
abbrev pub comma_pieces : List ℕ → List (List ℕ)
comma_pieces word = slice_split (λ b. b == 44) word

-- the pieces of a word from this index on, and none past its end
abbrev pub pieces_from : ℕ → List ℕ → List (List ℕ)
pieces_from start word = split_from 44 start word

-- a word, or the empty one if there is none
abbrev pub first_word : List (List ℕ) → List ℕ
first_word [] = []
first_word (w ∷ ws) = w

-- the number below 2^32 whose decimal form the word is
abbrev pub plain : List ℕ → Option ℕ
plain word = let n = digits_value 10 word in if nat_lt n (2 ^ 32) && bytes_eq (decimal n) word then Some n else None

-- the number of 64 bits whose decimal form, with a minus below 0, the word is
abbrev pub signed_of : List ℕ → Option ℤ
signed_of word = let z = signed_digits_value 10 word in if fits_64_bits z && bytes_eq (signed_decimal z) word then Some z else None

-- a to z
abbrev pub is_letter : ℕ → Bool
is_letter b = nat_le 97 b && nat_le b 122

-- a to z, 0 to 9, underscore
abbrev pub is_name_byte : ℕ → Bool
is_name_byte b = is_letter b || (nat_le 48 b && nat_le b 57) || (b == 95)

-- a to z, then a to z, 0 to 9, underscore, at most `MOST_NAME_BYTES` in all
abbrev pub is_name : List ℕ → Bool
is_name [] = false
is_name (b ∷ bs) = is_letter b && list_all is_name_byte bs && nat_lt (length bs) MOST_NAME_BYTES

-- a byte from 32 to 126
abbrev pub is_printable : ℕ → Bool
is_printable b = nat_le 32 b && nat_le b 126
