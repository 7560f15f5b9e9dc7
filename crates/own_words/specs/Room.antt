-- Up to `MOST_OWN_WORDS` numbers: the first `len` of an array of this many, whose others are 0, so that equal lists of numbers are equal
-- values.
use Rattle.std.specs.Prelude.{◌≡◌, ◌-◌, ◌≤◌, ◌++◌, ℕ, List, length, take, replicate}
use Rattle.std.proofs.Common.{arith, refl}
use Rattle.std.proofs.lemmas.List.{length-take-le}
use Rattle.own_words.specs.declared.room.TheConstants.{MOST_OWN_WORDS}
use Rattle.own_words.specs.declared.room.OwnWords.TheInside.{Inside}

-- the numbers that are seen
abbrev pub words_in : Inside → List ℕ
words_in room = take room.len room.words

-- the numbers fit the array, and 0 is after them
pub record IsRoomPadded (room : Inside) : Type 0 where
  pub within : room.len ≤ MOST_OWN_WORDS
  pub whole : length room.words ≡ MOST_OWN_WORDS
  pub zeros : room.words ≡ take room.len room.words ++ replicate (MOST_OWN_WORDS - room.len) 0

-- the array of these numbers
abbrev pub padded_room : List ℕ → Inside
padded_room xs = record { len = length xs; words = xs ++ replicate (MOST_OWN_WORDS - length xs) 0 }

pub padded_room-undoes : (room : Inside) → IsRoomPadded room → padded_room (words_in room) ≡ room
padded_room-undoes room ok =
    let fits : room.len ≤ length room.words = omega (arith, ok.within, ok.whole) in
    let same : length (take room.len room.words) ≡ room.len = length-take-le room.len room.words fits in
    rw (same, ← ok.zeros) refl
