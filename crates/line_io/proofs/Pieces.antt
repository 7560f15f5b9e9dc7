-- Lines that are cut out of pieces of the input.
use Rattle.std.proofs.Common.{◌≡◌, ◌≢◌, ℕ, zero, suc, ◌+◌, ◌-◌, ◌<◌, ◌≤◌, eqb, List, [], ◌∷◌, ◌++◌, length, take, drop, min, Option, Some, None, refl, inl, inr, ap, sym, ◌∙◌, subst, arith, append_assoc, add-one, slice_index, slice_range, take-take, drop-drop, length-drop, length-append}
use Rattle.std.specs.Io.KnownBytes.{Keeps, IsAtEnd, prepend_known}
use Rattle.std.proofs.KnownBytes.{Consumes-kept, Consumes-nil, Consumes-trans}
use borrow.Author.Tests.{eqb-true, eq-eqb}
use Rattle.std.proofs.lemmas.Bool.{ne_eqb, cond-false, cases_lt}
use Rattle.std.proofs.lemmas.List.{take_all, append-nil, length-take, drop-take}
use Rattle.std.proofs.Math.Seq.{take-append-add}
use Rattle.memchr.specs.Find.{IsFirstByte, is_byte, Nowhere, Passes}
use Rattle.line_io.specs.Lines.{first_line, other_lines, HasLine}
use Rattle.line_io.specs.Known.{ReadSome, TookLine, HadSome}

-- Front, and then the reader's first line, are kept in line up to 4,097 bytes, but for what is still to come.
abbrev pub KeepsLine : Option (List ℕ) → Option (List ℕ) → List ℕ → List ℕ → Type 0
KeepsLine None new front line = Unit {0}
KeepsLine (Some xs) None front line = ⊥
KeepsLine (Some xs) (Some ys) front line = (take 4097 (line ++ first_line ys) ≡ take 4097 (front ++ first_line xs)) × (other_lines ys ≡ other_lines xs)

-- a byte that is no LF begins the first line
first_more : (b : ℕ) (bs : List ℕ) → b ≢ 10 → first_line (b ∷ bs) ≡ b ∷ first_line bs
first_more b bs ne = cond-false (eqb b 10) [] (b ∷ first_line bs) (ne_eqb b 10 ne)

-- a byte that is no LF is none of the bytes after the first LF
other_more : (b : ℕ) (bs : List ℕ) → b ≢ 10 → other_lines (b ∷ bs) ≡ other_lines bs
other_more b bs ne = cond-false (eqb b 10) bs (other_lines bs) (ne_eqb b 10 ne)

-- no line feed below n
NoFeed : List ℕ → ℕ → Type 0
NoFeed bs n = (k : ℕ) → k < n → slice_index bs k ≢ 10

-- a search that passed n bytes found no line feed among them
no_feed : (bs : List ℕ) (n : ℕ) → Nowhere (Passes (is_byte 10) bs) 0 n → NoFeed bs n
unfolding NoFeed
no_feed bs n free k l e = free k (omega arith) l (eq-eqb (slice_index bs k) 10 e)

-- without a line feed among bs the first line goes on in ys
first_none : (bs ys : List ℕ) → NoFeed bs (length bs) → first_line (bs ++ ys) ≡ bs ++ first_line ys
unfolding NoFeed
first_none [] ys free = refl
first_none (b ∷ bs) ys free = first_more b (bs ++ ys) (free 0 (omega arith)) ∙ ap (λ (w : List ℕ). b ∷ w) (first_none bs ys (λ k l. free (suc k) (omega arith)))

-- without a line feed among bs the first LF is in ys
other_none : (bs ys : List ℕ) → NoFeed bs (length bs) → other_lines (bs ++ ys) ≡ other_lines ys
unfolding NoFeed
other_none [] ys free = refl
other_none (b ∷ bs) ys free = other_more b (bs ++ ys) (free 0 (omega arith)) ∙ other_none bs ys (λ k l. free (suc k) (omega arith))

-- the first line ends at the line feed n
first_some : (bs ys : List ℕ) (n : ℕ) → n < length bs → NoFeed bs n → slice_index bs n ≡ 10 → first_line (bs ++ ys) ≡ take n bs
unfolding NoFeed
first_some [] ys n l free is = absurd (omega arith)
first_some (b ∷ bs) ys zero l free is = let P : ℕ → Type 0 = λ v. first_line ((v ∷ bs) ++ ys) ≡ [] in subst P (sym is) refl
first_some (b ∷ bs) ys (suc n) l free is = first_more b (bs ++ ys) (free 0 (omega arith)) ∙ ap (λ (w : List ℕ). b ∷ w) (first_some bs ys n (omega arith) (λ k l. free (suc k) (omega arith)) is)

-- what follows the line feed n
other_some : (bs ys : List ℕ) (n : ℕ) → n < length bs → NoFeed bs n → slice_index bs n ≡ 10 → other_lines (bs ++ ys) ≡ drop (suc n) bs ++ ys
unfolding NoFeed
other_some [] ys n l free is = absurd (omega arith)
other_some (b ∷ bs) ys zero l free is = let P : ℕ → Type 0 = λ v. other_lines ((v ∷ bs) ++ ys) ≡ bs ++ ys in subst P (sym is) refl
other_some (b ∷ bs) ys (suc n) l free is = other_more b (bs ++ ys) (free 0 (omega arith)) ∙ other_some bs ys n (omega arith) (λ k l. free (suc k) (omega arith)) is

-- cutting the first part beforehand changes nothing
take_twice : (n : ℕ) (xs ys : List ℕ) → take n (take n xs ++ ys) ≡ take n (xs ++ ys)
take_twice zero xs ys = refl
take_twice (suc n) [] ys = refl
take_twice (suc n) (x ∷ xs) ys = ap (λ (w : List ℕ). x ∷ w) (take_twice n xs ys)

-- the part after the first m bytes of a part
pub drop_range : (xs : List ℕ) (i j m : ℕ) → i + m ≤ j → drop m (slice_range xs i j) ≡ slice_range xs (i + m) j
drop_range xs i j m le =
    let e : j - i ≡ m + (j - (i + m)) = omega arith in
    ap (λ (w : ℕ). drop m (take w (drop i xs))) e ∙ drop-take m (j - (i + m)) (drop i xs) ∙ ap (take (j - (i + m))) (drop-drop m i xs)

pub length_range : (xs : List ℕ) (i j : ℕ) → i ≤ j → j ≤ length xs → length (slice_range xs i j) ≡ j - i
length_range xs i j le within = omega (arith, length-take (j - i) (drop i xs), length-drop i xs)

-- the first m bytes of a part
pub take_range : (xs : List ℕ) (i j m : ℕ) → i + m ≤ j → slice_range xs i (i + m) ≡ take m (slice_range xs i j)
take_range xs i j m le =
    let e : i + m - i ≡ m = omega arith in
    ap (λ (w : ℕ). take w (drop i xs)) e ∙ sym (take-take m (j - i) (drop i xs) (omega arith))

-- a front of a front
take_min : (m n : ℕ) (xs : List ℕ) → take m (take n xs) ≡ take (min n m) xs
take_min m n xs =
    elim (cases_lt n m) [
      | inl lt ↦ take_all m (take n xs) (omega (arith, length-take n xs)) ∙ ap (λ (w : ℕ). take w xs) (let e : n ≡ min n m = omega arith in e)
      | inr ge ↦ take-take m n xs ge ∙ ap (λ (w : ℕ). take w xs) (let e : m ≡ min n m = omega arith in e)
    ]

-- at first all of the line is still to come
pub line_start : (o : Option (List ℕ)) (line : List ℕ) → KeepsLine o o line line
line_start None line = tt
line_start (Some xs) line = (refl, refl)

-- the line ends among the bytes ahead
pub line_cut : (o r : Option (List ℕ)) (front kept bytes kept_now rest : List ℕ) (n : ℕ) → KeepsLine o (prepend_known bytes r) front kept → IsFirstByte (is_byte 10) bytes (Some n) → kept_now ≡ take 4097 (kept ++ take n bytes) → rest ≡ drop (n + 1) bytes → TookLine o (prepend_known rest r) front kept_now
line_cut None r front kept bytes kept_now rest n k f e d = tt
line_cut (Some xs) None front kept bytes kept_now rest n k f e d = absurd k
line_cut (Some xs) (Some ys) front kept bytes kept_now rest n k f e d =
    let free : NoFeed bytes n = no_feed bytes n f.0.before in
    let is : slice_index bytes n ≡ 10 = eqb-true (slice_index bytes n) 10 f.1 in (
      e ∙ ap (λ (w : List ℕ). take 4097 (kept ++ w)) (sym (first_some bytes ys n f.0.high free is)) ∙ k.0,
      ap (λ (w : List ℕ). w ++ ys) (d ∙ ap (λ (m : ℕ). drop m bytes) (add-one n)) ∙ sym (other_some bytes ys n f.0.high free is) ∙ k.1,
    )

-- the line goes on after the bytes ahead
pub line_piece : (o r s : Option (List ℕ)) (front kept bytes kept_now rest : List ℕ) → KeepsLine o (prepend_known bytes r) front kept → IsFirstByte (is_byte 10) bytes None → kept_now ≡ take 4097 (kept ++ bytes) → Keeps r (prepend_known rest s) → KeepsLine o (prepend_known rest s) front kept_now
line_piece None r s front kept bytes kept_now rest k f e g = tt
line_piece (Some xs) None s front kept bytes kept_now rest k f e g = absurd k
line_piece (Some xs) (Some ys) None front kept bytes kept_now rest k f e g = absurd g
line_piece (Some xs) (Some ys) (Some zs) front kept bytes kept_now rest k f e g =
    let free : NoFeed bytes (length bytes) = no_feed bytes (length bytes) f in (
      ap (λ (w : List ℕ). take 4097 (w ++ first_line (rest ++ zs))) e
          ∙ take_twice 4097 (kept ++ bytes) (first_line (rest ++ zs))
          ∙ ap (λ (w : List ℕ). take 4097 ((kept ++ bytes) ++ first_line w)) g
          ∙ ap (take 4097) (append_assoc kept bytes (first_line ys) ∙ ap (λ (w : List ℕ). kept ++ w) (sym (first_none bytes ys free)))
          ∙ k.0,
      ap other_lines g ∙ sym (other_none bytes ys free) ∙ k.1,
    )

-- the line ends with the input
pub line_over : (o r : Option (List ℕ)) (front kept rest : List ℕ) → KeepsLine o (prepend_known rest r) front kept → rest ≡ [] → IsAtEnd r → length kept ≤ 4097 → TookLine o (prepend_known rest r) front kept
line_over None r front kept rest k e z low = tt
line_over (Some xs) None front kept rest k e z low = absurd k
line_over (Some xs) (Some ys) front kept rest k e z low =
    let none : rest ++ ys ≡ [] = ap (λ (w : List ℕ). w ++ ys) e ∙ z in
    let all : take 4097 (kept ++ first_line (rest ++ ys)) ≡ kept = ap (λ (w : List ℕ). take 4097 (kept ++ first_line w)) none ∙ ap (take 4097) (append-nil kept) ∙ take_all 4097 kept low in
    (sym all ∙ k.0, none ∙ sym (ap other_lines none) ∙ k.1)

-- the line lies whole among the bytes ahead
pub line_whole : (r : Option (List ℕ)) (items : List ℕ) (start end n : ℕ) → start ≤ end → end ≤ length items → IsFirstByte (is_byte 10) (slice_range items start end) (Some n) → TookLine (prepend_known (slice_range items start end) r) (prepend_known (slice_range items (start + (n + 1)) end) r) [] (slice_range items start (start + min n 4097))
line_whole r items start end n le within f =
    let bytes : List ℕ = slice_range items start end in
    let long : length bytes ≡ end - start = length_range items start end le within in
    line_cut _ r [] [] bytes (slice_range items start (start + min n 4097)) (slice_range items (start + (n + 1)) end) n (line_start (prepend_known bytes r) []) f
    (take_range items start end (min n 4097) (omega (arith, f.0.high)) ∙ sym (take_min 4097 n bytes))
    (sym (drop_range items start end (n + 1) (omega (arith, f.0.high))))

-- reading ahead changes nothing of what is still to come
pub took_kept : (o n m : Option (List ℕ)) (front line : List ℕ) → Keeps o n → TookLine n m front line → TookLine o m front line
took_kept None n m front line k t = tt
took_kept (Some xs) None m front line k t = absurd k
took_kept (Some xs) (Some ys) None front line k t = absurd t
took_kept (Some xs) (Some ys) (Some zs) front line k t =
    (t.0 ∙ ap (λ (w : List ℕ). take 4097 (front ++ first_line w)) k, t.1 ∙ ap other_lines k)

-- with a byte ahead, some byte was still to come
pub had_some : (o r : Option (List ℕ)) (bytes : List ℕ) → Keeps o (prepend_known bytes r) → 0 < length bytes → HadSome o
had_some None r bytes k some = tt
had_some (Some xs) None bytes k some = absurd k
had_some (Some xs) (Some ys) bytes k some = omega (arith, length-append bytes ys, ap length k)

-- with a byte at hand, some byte is still to come
had_ahead : (bytes : List ℕ) (behind : Option (List ℕ)) → 0 < length bytes → HadSome (prepend_known bytes behind)
had_ahead bytes None some = tt
had_ahead bytes (Some ys) some = omega (arith, length-append bytes ys)

-- whatever is after the bytes, the line up to their first line feed is the first one
pub line_at : (bytes : List ℕ) (kept n : ℕ) → kept ≡ min n 4097 → IsFirstByte (is_byte 10) bytes (Some n) → (behind : Option (List ℕ))
    → TookLine (prepend_known bytes behind) (prepend_known (drop (n + 1) bytes) behind) [] (take kept bytes) × HadSome (prepend_known bytes behind)
line_at bytes kept n is f behind = (
  line_cut _ behind [] [] bytes (take kept bytes) (drop (n + 1) bytes) n (line_start (prepend_known bytes behind) []) f
      (ap (λ (w : ℕ). take w bytes) is ∙ sym (take_min 4097 n bytes)) refl,
  had_ahead bytes behind (omega (arith, f.0.high)),
)

-- with nothing ahead at the end of the reader, nothing was still to come
pub at_end : (o r : Option (List ℕ)) (bytes : List ℕ) → Keeps o (prepend_known bytes r) → bytes ≡ [] → IsAtEnd r → IsAtEnd o
at_end None r bytes k e z = tt
at_end (Some xs) None bytes k e z = absurd k
at_end (Some xs) (Some ys) bytes k e z = sym k ∙ ap (λ (w : List ℕ). w ++ ys) e ∙ z

-- what is kept of a piece
pub keep_piece : (kept items : List ℕ) (start end n : ℕ) → length kept ≤ 4097 → start ≤ end → n ≤ length (slice_range items start end) → kept ++ slice_range items start (start + min n (4097 - length kept)) ≡ take 4097 (kept ++ take n (slice_range items start end))
keep_piece kept items start end n low le fits =
    let bytes : List ℕ = slice_range items start end in
    let m : ℕ = 4097 - length kept in
    let e : length kept + m ≡ 4097 = omega arith in
    ap (λ (w : List ℕ). kept ++ w) (take_range items start end (min n m) (omega (arith, length-take (end - start) (drop start items))) ∙ sym (take_min m n bytes))
    ∙ sym (take-append-add kept (take n bytes) m)
    ∙ ap (λ (w : ℕ). take w (kept ++ take n bytes)) e

-- a part with no length is empty
pub empty_range : (xs : List ℕ) (i : ℕ) → slice_range xs i i ≡ []
empty_range xs i = let e : i - i ≡ 0 = omega arith in ap (λ (w : ℕ). take w (drop i xs)) e

-- with nothing ahead, what is still to come is what the reader has left
pub keeps_empty : (o n : Option (List ℕ)) (bytes : List ℕ) → bytes ≡ [] → Keeps (prepend_known bytes o) n → Keeps o n
keeps_empty None n bytes e k = tt
keeps_empty (Some xs) None bytes e k = absurd k
keeps_empty (Some xs) (Some ys) bytes e k = k ∙ ap (λ (w : List ℕ). w ++ xs) e

-- all of a part
whole_range : (xs : List ℕ) (i j : ℕ) → take (j - i) (slice_range xs i j) ≡ slice_range xs i j
whole_range xs i j = take-take (j - i) (j - i) (drop i xs) (omega arith)

-- all that is ahead is kept
pub piece_kept : (now then kept items : List ℕ) (start end : ℕ) → now ≡ then → then ≡ take 4097 (kept ++ take (end - start) (slice_range items start end)) → now ≡ take 4097 (kept ++ slice_range items start end)
piece_kept now then kept items start end same is =
    same ∙ is ∙ ap (λ (w : List ℕ). take 4097 (kept ++ w)) (whole_range items start end)

-- where no line feed was found no whole line is ahead
pub none_ahead : (bytes now : List ℕ) → HasLine bytes → now ≡ bytes → IsFirstByte (is_byte 10) now None → ⊥
unfolding NoFeed
none_ahead bytes now some same free =
    no_feed now (length now) free some.0 (omega (arith, some.1, ap length same)) (ap (λ (w : List ℕ). slice_index w some.0) same ∙ some.2)

-- with a whole line ahead some byte is
pub some_ahead : (bytes : List ℕ) → HasLine bytes → 0 < length bytes
some_ahead bytes some = omega (arith, some.1)

-- where nothing was read, no byte of the reader's is gone
pub read_none : (a : Option (List ℕ)) → ReadSome a a
read_none a = ([], Consumes-nil a)

-- so it is where the bytes stay as they were
pub read_kept : (a b : Option (List ℕ)) → Keeps a b → ReadSome a b
read_kept a b kept = ([], Consumes-kept a a b [] (Consumes-nil a) kept)

-- what was read by two reads, one after the other
pub read_more : (a b c : Option (List ℕ)) → ReadSome a b → ReadSome b c → ReadSome a c
read_more a b c first second = (first.0 ++ second.0, Consumes-trans a b c first.0 second.0 first.1 second.1)
