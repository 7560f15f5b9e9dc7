-- The words that list grantees.
use Rattle.std.proofs.Common.{◌≡◌, ◌≢◌, ℕ, ◌+◌, ◌<◌, ◌≤◌, ◌&&◌, ◌||◌, true, false, not, eqb, ltb, List, [], ◌∷◌, ◌++◌, length, map, get_or, Some, None, refl, ap, sym, ◌∙◌, inl, inr, subst, arith, append_assoc}
use Rattle.std.specs.Prelude.{bytes_eq, codes, IsUtf8, IfOk, OnOk, Result, Ok, Err}
use Rattle.std.specs.List.{list_all, list_any, AllByRecursion, AllPairs, join_with_byte}
use Rattle.std.proofs.lemmas.List.{length-map, append-nil}
use Rattle.std.proofs.Math.ListN.{get_or-append}
use Rattle.std.proofs.Math.Seq.{get_or-append_seam}
use Rattle.std.proofs.lemmas.List.Folds.{list_any_at, list_any_none}
use Rattle.std.proofs.lemmas.List.Quantifiers.{all_pairs_push}
use Rattle.std.proofs.lemmas.List.Splits.{join_with_byte-slice_split}
use Rattle.std.proofs.lemmas.Bool.{cases_Bool, or_cases, cond-true, cond-false, and_parts, and_from, not-true, false_from_ne_true, lt-ltb, ltb-true}
use Rattle.std.proofs.lemmas.Bool.Decides.{nat_tests}
use Rattle.std.proofs.lemmas.Slice.Eq.{bytes_eq-Decides}
use Rattle.line_words.specs.Words.{is_letter, is_name, is_name_byte, comma_pieces}
use Rattle.line_words.specs.Faults.{or_else, unless}
use Rattle.line_words.specs.declared.fault.LineFault.{LineFault}
use Rattle.line_words.specs.declared.fault.LineFault.TheVariants.{BadName, DuplicateGrantee, TooManyGrantees}
use Rattle.line_words.proofs.Printable.{IsPrintable, printable_append, printable_name, utf8_line}
use Rattle.log_text.specs.Fault.{grantee_fault, grantees_fault, is_public}
use Rattle.log_text.specs.Grantees.{grantee_named, grantee_word, grantees_written, grantees_named, grantees_word, is_everyone, AreGrantees, IsGrantee}
use Rattle.log_text.specs.Versions.{has_lists, MayHaveParts, parts_of}
use Rattle.log_text.specs.declared.grantees.RawGrantee.{RawGrantee}
use Rattle.log_text.specs.declared.grantees.RawGrantee.TheVariants.{Named, Public}
use Rattle.log_text.proofs.Parts.{HasNoComma, join_of_parts, may_be_parts, one_piece, parts_of_join, pieces_of_join, some_part, some_piece}
use Rattle.log_text.proofs.TotalWords.{Spells, both_none, unless_none}

-- PUBLIC is no name
pub name_is_not_public : (w : List ℕ) → is_name w ≡ true → is_public w ≡ false
name_is_not_public w is =
    elim (cases_Bool (is_public w)) [
      | inl public ↦
          let word : w ≡ codes "PUBLIC" = (bytes_eq-Decides w (codes "PUBLIC")).0 public in
          let none : is_name (codes "PUBLIC") ≡ true = sym (ap is_name word) ∙ is in
          absurd cc
      | inr other ↦ other
    ]

name_byte : (b : ℕ) → is_name_byte b ≡ true → not (eqb b 44) ≡ true
name_byte b e = grind (arith, nat_tests)

letter : (b : ℕ) → is_letter b ≡ true → not (eqb b 44) ≡ true
letter b e = grind (arith, nat_tests)

name_bytes : (bs : List ℕ) → list_all is_name_byte bs ≡ true → HasNoComma bs
name_bytes [] e = refl
name_bytes (b ∷ bs) e =
    let p = and_parts (is_name_byte b) (list_all is_name_byte bs) e in
    and_from (not (eqb b 44)) (list_all (λ b. not (eqb b 44)) bs) (name_byte b p.0) (name_bytes bs p.1)

name_no_comma : (w : List ℕ) → is_name w ≡ true → HasNoComma w
name_no_comma [] e = refl
name_no_comma (b ∷ bs) e =
    let p = and_parts (is_letter b && list_all is_name_byte bs) (ltb (length bs) 32) e in
    let q = and_parts (is_letter b) (list_all is_name_byte bs) p.0 in
    and_from (not (eqb b 44)) (list_all (λ b. not (eqb b 44)) bs) (letter b q.0) (name_bytes bs q.1)

no_comma : (g : RawGrantee) → IsGrantee g → HasNoComma (grantee_word g)
no_comma (Named name) is = name_no_comma name is
no_comma Public is = refl

no_commas : (gs : List RawGrantee) → AllByRecursion IsGrantee gs → AllByRecursion HasNoComma (map grantee_word gs)
no_commas [] h = tt
no_commas (g ∷ gs) h = (no_comma g h.0, no_commas gs h.1)

-- a grantee is that which its word names
named_back : (g : RawGrantee) → IsGrantee g → grantee_named (grantee_word g) ≡ g
named_back (Named name) is = cond-false (bytes_eq name (codes "PUBLIC")) Public (Named name) (name_is_not_public name is)
named_back Public is = refl

all_back : (gs : List RawGrantee) → AllByRecursion IsGrantee gs → grantees_named (map grantee_word gs) ≡ gs
all_back [] h = refl
all_back (g ∷ gs) h = ap (λ v. v ∷ grantees_named (map grantee_word gs)) (named_back g h.0) ∙ ap (λ vs. g ∷ vs) (all_back gs h.1)

-- and a word is that of the grantee that it names
word_back : (w : List ℕ) → grantee_word (grantee_named w) ≡ w
word_back w =
    let public = bytes_eq w (codes "PUBLIC") in
    elim (cases_Bool public) [
      | inl is ↦ ap grantee_word (cond-true public Public (Named w) is) ∙ sym ((bytes_eq-Decides w (codes "PUBLIC")).0 is)
      | inr other ↦ ap grantee_word (cond-false public Public (Named w) other)
    ]

pub words_back : (ws : List (List ℕ)) → map grantee_word (grantees_named ws) ≡ ws
words_back [] = refl
words_back (w ∷ ws) = ap (λ v. v ∷ map grantee_word (grantees_named ws)) (word_back w) ∙ ap (λ vs. w ∷ vs) (words_back ws)

-- the word of the grantees of a word
pub list_back : (w : List ℕ) → grantees_word (grantees_written w) ≡ w
list_back w = ap (join_with_byte 44) (words_back (comma_pieces w)) ∙ join_with_byte-slice_split 44 w

same_list : (g h : List RawGrantee) → AreGrantees g → AreGrantees h → map grantee_word g ≡ map grantee_word h → g ≡ h
same_list g h f k e = sym (all_back g f.2) ∙ ap grantees_named e ∙ all_back h k.2

some_words : (g : List RawGrantee) → AreGrantees g → 1 ≤ length (map grantee_word g)
some_words g is = omega (arith, is.0, length-map g grantee_word)

-- lists of grantees have words of their own
pub one_list : (g h : List RawGrantee) → AreGrantees g → AreGrantees h → grantees_word g ≡ grantees_word h → g ≡ h
one_list g h f k e =
    same_list g h f k
    (sym (pieces_of_join (map grantee_word g) (some_words g f) (no_commas g f.2)) ∙ ap comma_pieces e ∙ pieces_of_join (map grantee_word h) (some_words h k) (no_commas h k.2))

-- what a word names is a grantee, if it is a name or PUBLIC
grantee_is : (w : List ℕ) → (is_name w || is_public w) ≡ true → IsGrantee (grantee_named w)
grantee_is w e =
    let public = bytes_eq w (codes "PUBLIC") in
    elim (cases_Bool public) [
      | inl is ↦ subst IsGrantee (sym (cond-true public Public (Named w) is)) tt
      | inr other ↦
          subst IsGrantee (sym (cond-false public Public (Named w) other))
          (elim (or_cases (is_name w) (is_public w) e) [
            | inl name ↦ name
            | inr is ↦ absurd (let f : true ≡ false = sym is ∙ other in cc)
          ])
    ]

-- what no fault says of a word after some
record Fits (earlier : List (List ℕ)) (w : List ℕ) : Type 0 where
  few : length earlier < 8
  is : (is_name w || is_public w) ≡ true
  new : list_any (bytes_eq w) earlier ≡ false

fits : (earlier : List (List ℕ)) (w : List ℕ) → grantee_fault earlier w ≡ None → Fits earlier w
fits earlier w e =
    let p = both_none (unless (ltb (length earlier) 8) TooManyGrantees)
    (or_else (unless (is_name w || is_public w) BadName) (unless (not (list_any (bytes_eq w) earlier)) DuplicateGrantee)) e in
    let q = both_none (unless (is_name w || is_public w) BadName) (unless (not (list_any (bytes_eq w) earlier)) DuplicateGrantee) p.1 in
    record {
      few = ltb-true (length earlier) 8 (unless_none _ TooManyGrantees p.0);
      is = unless_none _ BadName q.0;
      new = not-true _ (unless_none _ DuplicateGrantee q.1);
    }

abbrev AreApart : List (List ℕ) → Type 0
AreApart ws = AllPairs (λ one other. one ≢ other) ws

-- a word that isn't among those that are apart is apart from them
apart_more : (earlier : List (List ℕ)) (w : List ℕ) → AreApart earlier → list_any (bytes_eq w) earlier ≡ false → AreApart (earlier ++ w ∷ [])
apart_more earlier w apart new =
    all_pairs_push (λ one other. one ≢ other) earlier w apart
    (λ k d low same.
    let found : list_any (bytes_eq w) earlier ≡ true = list_any_at (bytes_eq w) earlier k d low ((bytes_eq-Decides w (get_or earlier k d)).1 (sym same)) in
    let f : true ≡ false = sym found ∙ new in
    cc)

record Sound (earlier ws : List (List ℕ)) : Type 0 where
  each : AllByRecursion IsGrantee (grantees_named ws)
  few : length earlier + length ws ≤ 8
  apart : AreApart (earlier ++ ws)

-- words without a fault after others are grantees
sound : (earlier ws : List (List ℕ)) → length earlier ≤ 8 → AreApart earlier → grantees_fault earlier ws ≡ None → Sound earlier ws
sound earlier [] low apart e = record { each = tt; few = omega arith; apart = subst AreApart (sym (append-nil earlier)) apart }
sound earlier (w ∷ ws) low apart e =
    let b = both_none (grantee_fault earlier w) (grantees_fault (earlier ++ w ∷ []) ws) e in
    let f = fits earlier w b.0 in
    let long : length (earlier ++ w ∷ []) ≡ length earlier + 1 = length_more earlier in
    let s = sound (earlier ++ w ∷ []) ws (omega (arith, f.few, long)) (apart_more earlier w apart f.new) b.1 in
    record { each = (grantee_is w f.is, s.each); few = omega (arith, s.few, long); apart = subst AreApart (append_assoc earlier (w ∷ []) ws) s.apart }
  where
    length_more : (xs : List (List ℕ)) → length (xs ++ w ∷ []) ≡ length xs + 1
    length_more [] = refl
    length_more (x ∷ xs) = let f = length_more xs in omega (arith, f)

none_apart : AreApart []
none_apart i j d low within = absurd (omega arith)

-- words without a fault are those of grantees
pub are_grantees : (ws : List (List ℕ)) → 1 ≤ length ws → grantees_fault [] ws ≡ None → AreGrantees (grantees_named ws)
are_grantees ws some e =
    let s = sound [] ws (omega arith) none_apart e in
    let long = length-map ws grantee_named in
    (omega (arith, some, long), omega (arith, s.few, long), s.each, subst AreApart (sym (words_back ws)) s.apart)

pub in_word : (w : List ℕ) → grantees_fault [] (comma_pieces w) ≡ None → AreGrantees (grantees_written w)
in_word w e = are_grantees (comma_pieces w) (some_piece w) e

-- one grantee alone has no fault
pub one_fits : (w : List ℕ) → (is_name w || is_public w) ≡ true → grantees_fault [] (w ∷ []) ≡ None
one_fits w e = rw e refl

-- a word of one piece is that of one grantee
pub one_in : (w : List ℕ) → HasNoComma w → (is_name w || is_public w) ≡ true → AreGrantees (grantees_written w)
one_in w none is = in_word w (ap (grantees_fault []) (one_piece w none) ∙ one_fits w is)

pub name_in : (w : List ℕ) → is_name w ≡ true → AreGrantees (grantees_written w)
name_in w is = one_in w (name_no_comma w is) (ap (λ b. b || is_public w) is)

-- the word of a name is that of the one user
pub name_alone : (w : List ℕ) → is_name w ≡ true → grantees_written w ≡ Named w ∷ []
name_alone w is =
    ap grantees_named (one_piece w (name_no_comma w is))
    ∙ ap (λ (g : RawGrantee). g ∷ []) (cond-false (bytes_eq w (codes "PUBLIC")) Public (Named w) (name_is_not_public w is))

pub public_in : (w : List ℕ) → w ≡ codes "PUBLIC" → AreGrantees (grantees_written w)
public_in w is = subst (λ v. AreGrantees (grantees_written v)) (sym is) (one_in (codes "PUBLIC") refl refl)

-- a grantee's word is a name or PUBLIC
grantee_word_is : (g : RawGrantee) → IsGrantee g → (is_name (grantee_word g) || is_public (grantee_word g)) ≡ true
grantee_word_is (Named name) is = ap (λ b. b || is_public name) is
grantee_word_is Public is = refl

one_word_fits : (earlier : List (List ℕ)) (w : List ℕ) → length earlier < 8 → (is_name w || is_public w) ≡ true → list_any (bytes_eq w) earlier ≡ false → grantee_fault earlier w ≡ None
one_word_fits earlier w low is new =
    ap (λ b. or_else (unless b TooManyGrantees) (or_else (unless (is_name w || is_public w) BadName) (unless (not (list_any (bytes_eq w) earlier)) DuplicateGrantee))) (lt-ltb (length earlier) 8 low)
    ∙ ap (λ b. or_else (unless b BadName) (unless (not (list_any (bytes_eq w) earlier)) DuplicateGrantee)) is
    ∙ ap (λ b. unless (not b) DuplicateGrantee) new

-- the words of grantees that are apart, after others
words_fit : (earlier : List (List ℕ)) (gs : List RawGrantee) → length earlier + length gs ≤ 8 → AllByRecursion IsGrantee gs → AreApart (earlier ++ map grantee_word gs)
    → grantees_fault earlier (map grantee_word gs) ≡ None
words_fit earlier [] low each apart = refl
words_fit earlier (g ∷ gs) low each apart =
    let w = grantee_word g in
    let new : list_any (bytes_eq w) earlier ≡ false = list_any_none (bytes_eq w) earlier (λ k d within.
    false_from_ne_true (bytes_eq w (get_or earlier k d)) (λ is.
    apart k (length earlier) d within (long earlier)
    (get_or-append earlier (w ∷ map grantee_word gs) d k within
    ∙ sym ((bytes_eq-Decides w (get_or earlier k d)).0 is)
    ∙ sym (get_or-append_seam earlier w (map grantee_word gs) d)))) in
    ap (λ f. or_else f (grantees_fault (earlier ++ w ∷ []) (map grantee_word gs))) (one_word_fits earlier w (omega arith) (grantee_word_is g each.0) new)
    ∙ words_fit (earlier ++ w ∷ []) gs (omega (arith, low, length_more earlier)) each.1 (subst AreApart (sym (append_assoc earlier (w ∷ []) (map grantee_word gs))) apart)
  where
    length_more : (xs : List (List ℕ)) → length (xs ++ grantee_word g ∷ []) ≡ length xs + 1
    length_more [] = refl
    length_more (x ∷ xs) = let f = length_more xs in omega (arith, f)

    long : (xs : List (List ℕ)) → length xs < length (xs ++ grantee_word g ∷ map grantee_word gs)
    long [] = omega arith
    long (x ∷ xs) = let f = long xs in omega (arith, f)

-- the parts of the word of grantees
pub parts_are : (version : ℕ) (gs : List RawGrantee) → AreGrantees gs → MayHaveParts version (length gs) → parts_of version (grantees_word gs) ≡ map grantee_word gs
parts_are version gs is may =
    parts_of_join version (map grantee_word gs) (some_words gs is) (subst (MayHaveParts version) (sym (length-map gs grantee_word)) may) (no_commas gs is.2)

-- the word of grantees fits its place
pub grantees_fit : (version : ℕ) (gs : List RawGrantee) → AreGrantees gs → MayHaveParts version (length gs) → grantees_fault [] (parts_of version (grantees_word gs)) ≡ None
grantees_fit version gs is may = ap (grantees_fault []) (parts_are version gs is may) ∙ words_fit [] gs (omega (arith, is.1)) is.2 is.3

-- whether PUBLIC is one of the words, and one of the grantees
everyone_word : (g : RawGrantee) → IsGrantee g → is_public (grantee_word g) ≡ is_everyone g
everyone_word (Named name) is = name_is_not_public name is
everyone_word Public is = refl

everyone_words : (gs : List RawGrantee) → AllByRecursion IsGrantee gs → list_any is_public (map grantee_word gs) ≡ list_any is_everyone gs
everyone_words [] h = refl
everyone_words (g ∷ gs) h = ap (λ b. b || list_any is_public (map grantee_word gs)) (everyone_word g h.0) ∙ ap (λ b. is_everyone g || b) (everyone_words gs h.1)

pub everyone_named : (w : List ℕ) → is_everyone (grantee_named w) ≡ is_public w
everyone_named w =
    let public = bytes_eq w (codes "PUBLIC") in
    elim (cases_Bool public) [
      | inl is ↦ ap is_everyone (cond-true public Public (Named w) is) ∙ sym is
      | inr other ↦ ap is_everyone (cond-false public Public (Named w) other) ∙ sym other
    ]

pub public_parts : (version : ℕ) (gs : List RawGrantee) → AreGrantees gs → MayHaveParts version (length gs) → list_any is_public (parts_of version (grantees_word gs)) ≡ list_any is_everyone gs
public_parts version gs is may = ap (list_any is_public) (parts_are version gs is may) ∙ everyone_words gs is.2

-- grantees, as the version has them
abbrev pub AreGranteesOf : ℕ → List RawGrantee → Type 0
AreGranteesOf version gs = AreGrantees gs × MayHaveParts version (length gs)

-- a word without a fault where grantees stand is that of grantees
pub grantees_spell : (version : ℕ) (w : List ℕ) → grantees_fault [] (parts_of version w) ≡ None → Spells (List RawGrantee) grantees_word (AreGranteesOf version) w
grantees_spell version w e =
    let ws = parts_of version w in
    let long = length-map ws grantee_named in
    record {
      value = grantees_named ws;
      same = sym (join_of_parts version w) ∙ ap (join_with_byte 44) (sym (words_back ws));
      good = (are_grantees ws (some_part version w) e, subst (MayHaveParts version) (sym long) (may_be_parts version w));
    }

-- the word of grantees is printable
printable_grantee : (g : RawGrantee) → IsGrantee g → IsPrintable (grantee_word g)
printable_grantee (Named name) h = printable_name name h
printable_grantee Public h = refl

pub printable_grantees : (gs : List RawGrantee) → AllByRecursion IsGrantee gs → IsPrintable (grantees_word gs)
printable_grantees [] h = refl
printable_grantees (g ∷ []) h = printable_grantee g h.0
printable_grantees (g ∷ f ∷ gs) h =
    printable_append (grantee_word g) (44 ∷ grantees_word (f ∷ gs)) (printable_grantee g h.0) (printable_grantees (f ∷ gs) h.1)

pub utf8_word : (w : List ℕ) → AreGrantees (grantees_written w) → IsUtf8 w
utf8_word w is = utf8_line w (subst IsPrintable (list_back w) (printable_grantees (grantees_written w) is.2))

pub public_fits : (w : List ℕ) → w ≡ codes "PUBLIC" → grantees_fault [] (w ∷ []) ≡ None
public_fits w is = ap (λ v. grantees_fault [] (v ∷ [])) is

pub public_piece : (w : List ℕ) → w ≡ codes "PUBLIC" → comma_pieces w ≡ w ∷ []
public_piece w is = ap comma_pieces is ∙ ap (λ v. v ∷ []) (sym is)

-- a word that is neither a name nor PUBLIC
pub neither : (w : List ℕ) → is_name w ≡ false → is_public w ≡ false → grantees_fault [] (w ∷ []) ≡ Some BadName
neither w name public = rw (name, public) refl

-- a name is one part
pub name_parts : (version : ℕ) (w : List ℕ) → is_name w ≡ true → (comma_pieces w ≡ parts_of version w) × (grantees_fault [] (parts_of version w) ≡ None)
name_parts version w is =
    let piece = one_piece w (name_no_comma w is) in
    let part : w ∷ [] ≡ parts_of version w =
    elim (cases_Bool (has_lists version)) [
      | inl lists ↦ sym piece ∙ sym (cond-true (has_lists version) (comma_pieces w) (w ∷ []) lists)
      | inr none ↦ sym (cond-false (has_lists version) (comma_pieces w) (w ∷ []) none)
    ] in
    (piece ∙ part, sym (ap (grantees_fault []) part) ∙ one_fits w (ap (λ b. b || is_public w) is))

-- the grantees of a word without a fault
pub listed_are : (version : ℕ) (w : List ℕ) (gs : List RawGrantee) → gs ≡ grantees_written w → comma_pieces w ≡ parts_of version w → grantees_fault [] (parts_of version w) ≡ None
    → (w ≡ grantees_word gs) × AreGrantees gs × MayHaveParts version (length gs) × (grantees_fault [] (parts_of version (grantees_word gs)) ≡ None)
listed_are version w gs is parts fits =
    let word : w ≡ grantees_word gs = sym (list_back w) ∙ ap grantees_word (sym is) in
    let count : length (parts_of version w) ≡ length gs = sym (ap length parts) ∙ sym (length-map (comma_pieces w) grantee_named) ∙ ap length (sym is) in (
      word,
      subst AreGrantees (sym is) (in_word w (ap (grantees_fault []) parts ∙ fits)),
      subst (MayHaveParts version) count (may_be_parts version w),
      ap (λ v. grantees_fault [] (parts_of version v)) (sym word) ∙ fits,
    )

-- a missing word is none
pub none_listed : (version : ℕ) → grantees_fault [] (parts_of version []) ≡ Some BadName
none_listed version =
    elim (cases_Bool (has_lists version)) [
      | inl lists ↦ ap (grantees_fault []) (cond-true (has_lists version) (comma_pieces []) ([] ∷ []) lists)
      | inr none ↦ ap (grantees_fault []) (cond-false (has_lists version) (comma_pieces []) ([] ∷ []) none)
    ]

pub grantees_read : (version : ℕ) (w : List ℕ) (old new : List (List ℕ)) (r : Result (List RawGrantee) LineFault) → old ≡ w ∷ new → IfOk r (λ gs. gs ≡ grantees_written w)
    → OnOk r (comma_pieces w ≡ parts_of version w) → OnOk r (grantees_fault [] (parts_of version w) ≡ None)
    → IfOk r (λ gs. (old ≡ grantees_word gs ∷ new) × AreGrantees gs × MayHaveParts version (length gs) × (grantees_fault [] (parts_of version (grantees_word gs)) ≡ None))
grantees_read version w old new (Ok gs) e value parts fits =
    let q = listed_are version w gs value parts fits in
    (e ∙ ap (λ u. u ∷ new) q.0, q.1, q.2, q.3)
grantees_read version w old new (Err f) e value parts fits = tt
