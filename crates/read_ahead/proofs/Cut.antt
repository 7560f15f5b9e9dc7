-- A line that is cut off the bytes from an index on.
use Rattle.std.proofs.Common.{◌≡◌, ◌+◌, ◌-◌, ◌<◌, ◌≤◌, ℕ, List, [], length, take, drop, Option, Some, None, ap, ◌∙◌, subst, arith, drop-drop, length-drop, length-append}
use Rattle.std.proofs.lemmas.List.{append-nil, length-take, take_all}
use Rattle.std.specs.Io.KnownBytes.{prepend_known}
use Rattle.line_io.specs.Known.{HadSome, TookLine}
use Rattle.line_io.specs.Lines.{first_line}
use Rattle.read_ahead.specs.Ahead.{IsLineAt, line_from}

-- a line was taken out of the bytes at hand, of which these are left
abbrev TakesOut : List ℕ → List ℕ → Option (List ℕ) → List ℕ → Type 0
TakesOut bytes left behind line =
    TookLine (prepend_known bytes behind) (prepend_known left behind) [] line × HadSome (prepend_known bytes behind)

-- the bytes from an index to the end
to_end : (bytes : List ℕ) (at : ℕ) → take (length bytes - at) (drop at bytes) ≡ drop at bytes
to_end bytes at = take_all (length bytes - at) (drop at bytes) (omega (arith, length-drop at bytes))

pub line_at : (bytes line : List ℕ) (at count : ℕ) → at ≤ length bytes
    → ((behind : Option (List ℕ)) → TakesOut (take (length bytes - at) (drop at bytes)) (drop count (take (length bytes - at) (drop at bytes))) behind line)
    → 0 < count → count ≤ length (take (length bytes - at) (drop at bytes)) → IsLineAt bytes at count line
line_at bytes line at count low took some within =
    let out : (behind : Option (List ℕ)) → TakesOut (drop at bytes) (drop (at + count) bytes) behind line = λ behind.
    subst (λ (left : List ℕ). TakesOut (drop at bytes) left behind line) (drop-drop count at bytes)
    (subst (λ (all : List ℕ). TakesOut all (drop count all) behind line) (to_end bytes at) (took behind)) in
    record {
      some = some;
      within = omega (arith, low, within, length-take (length bytes - at) (drop at bytes));
      first = λ after. (out (Some after)).0.0;
      others = λ after. (out (Some after)).0.1;
    }

-- it is the line that begins there
pub own_line : (bytes : List ℕ) (from count : ℕ) (line : List ℕ) → IsLineAt bytes from count line → line ≡ line_from bytes from
own_line bytes from count line at =
    at.first [] ∙ ap (λ (bs : List ℕ). take 4097 (first_line bs)) (append-nil (drop from bytes))

-- whatever is known of what comes after the bytes, it is taken out of them
pub took_at : (bytes : List ℕ) (from count : ℕ) (line : List ℕ) → IsLineAt bytes from count line → (behind : Option (List ℕ))
    → TakesOut (drop from bytes) (drop (from + count) bytes) behind line
took_at bytes from count line at None = (tt, tt)
took_at bytes from count line at (Some after) = (
  (at.first after, at.others after),
  omega (arith, at.some, at.within, length-append (drop from bytes) after, length-drop from bytes),
)
