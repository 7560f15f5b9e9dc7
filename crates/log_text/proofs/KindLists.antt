-- The words that list kinds.
use Rattle.std.proofs.Common.{MatchBool, ◌≡◌, ◌≢◌, ℕ, ◌≤◌, ◌||◌, Bool, true, false, List, [], ◌∷◌, ◌++◌, length, map, refl, ap, sym, ◌∙◌, inl, inr, Some, None, subst, arith}
use Rattle.std.specs.Prelude.{bytes_eq, codes, is_some, if◌then◌else◌}
use Rattle.std.specs.List.{list_any, AllByRecursion, join_with_byte}
use Rattle.std.proofs.lemmas.List.{append-nil, length-map}
use Rattle.std.proofs.lemmas.Bool.{cases_Bool, cond-true, cond-false, false_from_ne_true}
use Rattle.std.proofs.lemmas.Slice.Eq.{bytes_eq-Decides}
use Rattle.line_words.specs.Words.{first_word, comma_pieces}
use Rattle.line_words.specs.Faults.{unless}
use Rattle.line_words.specs.declared.fault.LineFault.TheVariants.{UnknownWord}
use Rattle.model_base.specs.declared.deed.Kind.{Kind}
use Rattle.model_base.specs.declared.deed.Kind.TheVariants.{Read, Insert, Update, Delete}
use Rattle.model_base.specs.declared.deed.Kinds.{Kinds}
use Rattle.model_base.specs.Outcomes.{kinds_in}
use Rattle.model_base.specs.Privileges.{only}
use Rattle.log_text.specs.Statement.{kind_word, kinds_word}
use Rattle.log_text.specs.Versions.{MayHaveParts, has_lists, parts_of}
use Rattle.log_text.specs.Fault.{OfKinds, kind_named, kind_words, misfit, stand_among}
use Rattle.log_text.proofs.KindWords.{named_kind}
use Rattle.log_text.proofs.Parts.{HasNoComma, join_of_parts, may_be_parts, parts_of_join, pieces_of_join, some_part}
use Rattle.log_text.proofs.TotalWords.{Spells, unless_none}

kind_no_comma : (k : Kind) → HasNoComma (kind_word k)
kind_no_comma Read = refl
kind_no_comma Insert = refl
kind_no_comma Update = refl
kind_no_comma Delete = refl

no_commas : (ks : List Kind) → AllByRecursion HasNoComma (map kind_word ks)
no_commas [] = tt
no_commas (k ∷ ks) = (kind_no_comma k, no_commas ks)

abbrev pub made : Bool → Bool → Bool → Bool → Kinds
made r i u d = record { read = r; insert = i; update = u; delete = d }

abbrev pub words_of : Kinds → List (List ℕ)
words_of k = map kind_word (kinds_in k)

-- the words of kinds stand in their order
made_stand : (r i u d : Bool) → stand_among kind_words (words_of (made r i u d)) ≡ true
made_stand true true true true = refl
made_stand true true true false = refl
made_stand true true false true = refl
made_stand true true false false = refl
made_stand true false true true = refl
made_stand true false true false = refl
made_stand true false false true = refl
made_stand true false false false = refl
made_stand false true true true = refl
made_stand false true true false = refl
made_stand false true false true = refl
made_stand false true false false = refl
made_stand false false true true = refl
made_stand false false true false = refl
made_stand false false false true = refl
made_stand false false false false = refl

pub kinds_stand : (k : Kinds) → stand_among kind_words (words_of k) ≡ true
kinds_stand k = made_stand k.read k.insert k.update k.delete

-- the kinds, from their words
made_back : (r i u d : Bool)
    → (list_any (bytes_eq (codes "READ")) (words_of (made r i u d)) ≡ r) × (list_any (bytes_eq (codes "INSERT")) (words_of (made r i u d)) ≡ i)
    × (list_any (bytes_eq (codes "UPDATE")) (words_of (made r i u d)) ≡ u) × (list_any (bytes_eq (codes "DELETE")) (words_of (made r i u d)) ≡ d)
made_back true true true true = (refl, refl, refl, refl)
made_back true true true false = (refl, refl, refl, refl)
made_back true true false true = (refl, refl, refl, refl)
made_back true true false false = (refl, refl, refl, refl)
made_back true false true true = (refl, refl, refl, refl)
made_back true false true false = (refl, refl, refl, refl)
made_back true false false true = (refl, refl, refl, refl)
made_back true false false false = (refl, refl, refl, refl)
made_back false true true true = (refl, refl, refl, refl)
made_back false true true false = (refl, refl, refl, refl)
made_back false true false true = (refl, refl, refl, refl)
made_back false true false false = (refl, refl, refl, refl)
made_back false false true true = (refl, refl, refl, refl)
made_back false false true false = (refl, refl, refl, refl)
made_back false false false true = (refl, refl, refl, refl)
made_back false false false false = (refl, refl, refl, refl)

same_words : (k l : Kinds) → words_of k ≡ words_of l → k ≡ l
same_words k l e =
    let p = made_back k.read k.insert k.update k.delete in
    let q = made_back l.read l.insert l.update l.delete in
    let e1 : k.read ≡ l.read = sym p.0 ∙ ap (list_any (bytes_eq (codes "READ"))) e ∙ q.0 in
    let e2 : k.insert ≡ l.insert = sym p.1 ∙ ap (list_any (bytes_eq (codes "INSERT"))) e ∙ q.1 in
    let e3 : k.update ≡ l.update = sym p.2 ∙ ap (list_any (bytes_eq (codes "UPDATE"))) e ∙ q.2 in
    let e4 : k.delete ≡ l.delete = sym p.3 ∙ ap (list_any (bytes_eq (codes "DELETE"))) e ∙ q.3 in
    ap (λ r. made r k.insert k.update k.delete) e1 ∙ ap (λ i. made l.read i k.update k.delete) e2 ∙ ap (λ u. made l.read l.insert u k.delete) e3
    ∙ ap (made l.read l.insert l.update) e4

some_words : (k : Kinds) → 1 ≤ length (kinds_in k) → 1 ≤ length (words_of k)
some_words k some = omega (arith, some, length-map (kinds_in k) kind_word)

-- no word is that of two lists of kinds
pub one_kinds : (k l : Kinds) → 1 ≤ length (kinds_in k) → 1 ≤ length (kinds_in l) → kinds_word k ≡ kinds_word l → k ≡ l
one_kinds k l some more e =
    same_words k l
    (sym (pieces_of_join (words_of k) (some_words k some) (no_commas (kinds_in k))) ∙ ap comma_pieces e
    ∙ pieces_of_join (words_of l) (some_words l more) (no_commas (kinds_in l)))

-- the word of kinds fits its place
pub kinds_fit : (version : ℕ) (k : Kinds) → 1 ≤ length (kinds_in k) → MayHaveParts version (length (kinds_in k)) → misfit (OfKinds version) (kinds_word k) ≡ None
kinds_fit version k some may =
    let parts : parts_of version (kinds_word k) ≡ words_of k =
    parts_of_join version (words_of k) (some_words k some) (subst (MayHaveParts version) (sym (length-map (kinds_in k) kind_word)) may) (no_commas (kinds_in k)) in
    ap (λ ws. unless (stand_among kind_words ws) UnknownWord) parts ∙ ap (λ b. unless b UnknownWord) (kinds_stand k)

-- the word, if it is wanted
abbrev pub word_if : Bool → List ℕ → List (List ℕ)
word_if wanted w = if wanted then w ∷ [] else []

made_words : (r i u d : Bool) → words_of (made r i u d) ≡ word_if r (codes "READ") ++ (word_if i (codes "INSERT") ++ (word_if u (codes "UPDATE") ++ word_if d (codes "DELETE")))
made_words true true true true = refl
made_words true true true false = refl
made_words true true false true = refl
made_words true true false false = refl
made_words true false true true = refl
made_words true false true false = refl
made_words true false false true = refl
made_words true false false false = refl
made_words false true true true = refl
made_words false true true false = refl
made_words false true false true = refl
made_words false true false false = refl
made_words false false true true = refl
made_words false false true false = refl
made_words false false false true = refl
made_words false false false false = refl

none_stand : (cs : List (List ℕ)) → stand_among cs [] ≡ true
none_stand [] = refl
none_stand (c ∷ cs) = refl

-- the first word, if it is there, and the others
word_first : (c : List ℕ) (cs ws : List (List ℕ)) → stand_among (c ∷ cs) ws ≡ true → (b : Bool) × (rest : List (List ℕ)) × (ws ≡ word_if b c ++ rest) × (stand_among cs rest ≡ true)
word_first c cs [] e = (false, [], refl, none_stand cs)
word_first c cs (w ∷ ws) e = elim (cases_Bool (bytes_eq w c)) [
  | inl is ↦ (true, ws, ap (λ v. v ∷ ws) ((bytes_eq-Decides w c).0 is), sym (cond-true (bytes_eq w c) (stand_among cs ws) (stand_among cs (w ∷ ws)) is) ∙ e)
  | inr other ↦ (false, w ∷ ws, refl, sym (cond-false (bytes_eq w c) (stand_among cs ws) (stand_among cs (w ∷ ws)) other) ∙ e)
]

none_left : (ws : List (List ℕ)) → stand_among [] ws ≡ true → ws ≡ []
none_left [] e = refl
none_left (w ∷ ws) e = absurd cc

-- words that stand so are those of kinds
pub words_spell : (ws : List (List ℕ)) → stand_among kind_words ws ≡ true → (k : Kinds) × (ws ≡ words_of k)
words_spell ws e =
    let r = word_first (codes "READ") (codes "INSERT" ∷ codes "UPDATE" ∷ codes "DELETE" ∷ []) ws e in
    let i = word_first (codes "INSERT") (codes "UPDATE" ∷ codes "DELETE" ∷ []) r.1 r.3 in
    let u = word_first (codes "UPDATE") (codes "DELETE" ∷ []) i.1 i.3 in
    let d = word_first (codes "DELETE") [] u.1 u.3 in (
      made r.0 i.0 u.0 d.0,
      r.2 ∙ ap (λ v. word_if r.0 (codes "READ") ++ v) (i.2 ∙ ap (λ v. word_if i.0 (codes "INSERT") ++ v)
          (u.2 ∙ ap (λ v. word_if u.0 (codes "UPDATE") ++ v) (d.2 ∙ ap (λ v. word_if d.0 (codes "DELETE") ++ v) (none_left d.1 d.3) ∙ append-nil (word_if d.0 (codes "DELETE")))))
          ∙ sym (made_words r.0 i.0 u.0 d.0),
    )

-- one kind or more, as the version has them
abbrev pub AreKinds : ℕ → Kinds → Type 0
AreKinds version k = (1 ≤ length (kinds_in k)) × MayHaveParts version (length (kinds_in k))

-- kinds whose words are the parts of a word
pub kinds_are : (version : ℕ) (w : List ℕ) (k : Kinds) → parts_of version w ≡ words_of k → (w ≡ kinds_word k) × AreKinds version k
kinds_are version w k e =
    let count : length (parts_of version w) ≡ length (kinds_in k) = ap length e ∙ length-map (kinds_in k) kind_word in
    (sym (join_of_parts version w) ∙ ap (join_with_byte 44) e, (omega (arith, count, some_part version w), subst (MayHaveParts version) count (may_be_parts version w)))

-- a word without a fault where kinds stand is that of kinds
pub kinds_spell : (version : ℕ) (w : List ℕ) → unless (stand_among kind_words (parts_of version w)) UnknownWord ≡ None → Spells Kinds kinds_word (AreKinds version) w
kinds_spell version w e =
    let k = words_spell (parts_of version w) (unless_none _ UnknownWord e) in
    let is = kinds_are version w k.0 k.1 in
    record { value = k.0; same = is.0; good = is.1 }

-- what was taken off the words
pub took : (c : List ℕ) (cs old new : List (List ℕ)) (b : Bool) → MatchBool b (old ≡ c ∷ new) ((new ≡ old) × (first_word old ≢ c))
    → (old ≡ word_if b c ++ new) × (stand_among (c ∷ cs) old ≡ stand_among cs new)
took c cs old new true e =
    (e, ap (stand_among (c ∷ cs)) e ∙ cond-true (bytes_eq c c) (stand_among cs new) (stand_among cs (c ∷ new)) ((bytes_eq-Decides c c).1 refl))
took c cs [] new false e = (sym e.0, sym (none_stand cs) ∙ ap (stand_among cs) (sym e.0))
took c cs (w ∷ ws) new false e =
    let other : bytes_eq w c ≡ false = false_from_ne_true (bytes_eq w c) (λ is. e.1 ((bytes_eq-Decides w c).0 is)) in
    (sym e.0, cond-false (bytes_eq w c) (stand_among cs ws) (stand_among cs (w ∷ ws)) other ∙ ap (stand_among cs) (sym e.0))

-- one word is that of a kind, or no list of kinds
pub one_word : (w : List ℕ) → stand_among kind_words (w ∷ []) ≡ is_some (kind_named w)
one_word w =
    elim (cases_Bool (bytes_eq w (codes "READ"))) [
      | inl is ↦ rw is refl
      | inr a ↦ elim (cases_Bool (bytes_eq w (codes "INSERT"))) [
        | inl is ↦ rw (a, is) refl
        | inr b ↦ elim (cases_Bool (bytes_eq w (codes "UPDATE"))) [
          | inl is ↦ rw (a, b, is) refl
          | inr c ↦ elim (cases_Bool (bytes_eq w (codes "DELETE"))) [
            | inl is ↦ rw (a, b, c, is) refl
            | inr d ↦ rw (a, b, c, d) refl
          ]
        ]
      ]
    ]

-- the one kind alone
pub only_in : (k : Kind) → kinds_in (only k) ≡ k ∷ []
only_in Read = refl
only_in Insert = refl
only_in Update = refl
only_in Delete = refl

-- and its word, which fits where kinds stand
only_word : (k : Kind) → kinds_word (only k) ≡ kind_word k
only_word Read = refl
only_word Insert = refl
only_word Update = refl
only_word Delete = refl

only_may : (version : ℕ) (k : Kind) → MayHaveParts version (length (kinds_in (only k)))
only_may version k = subst (λ (ks : List Kind). MayHaveParts version (length ks)) (sym (only_in k)) (or_true (has_lists version))
  where
    or_true : (b : Bool) → (b || true) ≡ true
    or_true true = refl
    or_true false = refl

pub only_taken : (version : ℕ) (k : Kind) (old new : List (List ℕ)) → old ≡ kind_word k ∷ new
    → (old ≡ kinds_word (only k) ∷ new) × (1 ≤ length (kinds_in (only k))) × MayHaveParts version (length (kinds_in (only k)))
    × (misfit (OfKinds version) (kinds_word (only k)) ≡ None)
only_taken version k old new taken =
    let some : 1 ≤ length (kinds_in (only k)) = omega (arith, ap length (only_in k)) in (
      taken ∙ ap (λ (w : List ℕ). w ∷ new) (sym (only_word k)),
      some,
      only_may version k,
      kinds_fit version (only k) some (only_may version k),
    )

-- the word of a kind, as a list
pub one_kind : (w : List ℕ) (k : Kind) → kind_named w ≡ Some k → (w ∷ [] ≡ map kind_word (kinds_in (only k))) × (stand_among kind_words (w ∷ []) ≡ true)
one_kind w k e = (
  ap (λ v. v ∷ []) (named_kind w k e).0 ∙ ap (map kind_word) (sym (only_in k)),
  one_word w ∙ ap is_some e,
)

pub no_kind : (w : List ℕ) → kind_named w ≡ None → stand_among kind_words (w ∷ []) ≡ false
no_kind w e = one_word w ∙ ap is_some e

-- what was taken off the words of kinds, and what is left
pub took_four : (w0 w1 w2 w3 w4 : List (List ℕ)) (r i u d : Bool)
    → MatchBool r (w0 ≡ codes "READ" ∷ w1) ((w1 ≡ w0) × (first_word w0 ≢ codes "READ"))
    → MatchBool i (w1 ≡ codes "INSERT" ∷ w2) ((w2 ≡ w1) × (first_word w1 ≢ codes "INSERT"))
    → MatchBool u (w2 ≡ codes "UPDATE" ∷ w3) ((w3 ≡ w2) × (first_word w2 ≢ codes "UPDATE"))
    → MatchBool d (w3 ≡ codes "DELETE" ∷ w4) ((w4 ≡ w3) × (first_word w3 ≢ codes "DELETE"))
    → (w0 ≡ word_if r (codes "READ") ++ (word_if i (codes "INSERT") ++ (word_if u (codes "UPDATE") ++ (word_if d (codes "DELETE") ++ w4))))
    × (stand_among kind_words w0 ≡ stand_among [] w4)
took_four w0 w1 w2 w3 w4 r i u d er ei eu ed =
    let pr = took (codes "READ") (codes "INSERT" ∷ codes "UPDATE" ∷ codes "DELETE" ∷ []) w0 w1 r er in
    let pi = took (codes "INSERT") (codes "UPDATE" ∷ codes "DELETE" ∷ []) w1 w2 i ei in
    let pu = took (codes "UPDATE") (codes "DELETE" ∷ []) w2 w3 u eu in
    let pd = took (codes "DELETE") [] w3 w4 d ed in (
      pr.0 ∙ ap (λ v. word_if r (codes "READ") ++ v) (pi.0 ∙ ap (λ v. word_if i (codes "INSERT") ++ v) (pu.0 ∙ ap (λ v. word_if u (codes "UPDATE") ++ v) pd.0)),
      pr.1 ∙ pi.1 ∙ pu.1 ∙ pd.1,
    )

some_stand : (ws : List (List ℕ)) → ws ≢ [] → stand_among [] ws ≡ false
some_stand [] ne = absurd (ne refl)
some_stand (w ∷ ws) ne = refl

-- where some are left, the words aren't those of kinds
pub left_over : (w0 w4 : List (List ℕ)) → stand_among kind_words w0 ≡ stand_among [] w4 → w4 ≢ [] → stand_among kind_words w0 ≡ false
left_over w0 w4 e ne = e ∙ some_stand w4 ne

-- and where none is left they are
pub all_taken : (w0 w4 : List (List ℕ)) (r i u d : Bool)
    → w0 ≡ word_if r (codes "READ") ++ (word_if i (codes "INSERT") ++ (word_if u (codes "UPDATE") ++ (word_if d (codes "DELETE") ++ w4)))
    → stand_among kind_words w0 ≡ stand_among [] w4 → w4 ≡ [] → (w0 ≡ words_of (made r i u d)) × (stand_among kind_words w0 ≡ true)
all_taken w0 w4 r i u d e s none = (
  e ∙ ap (λ v. word_if r (codes "READ") ++ (word_if i (codes "INSERT") ++ (word_if u (codes "UPDATE") ++ v))) (ap (λ v. word_if d (codes "DELETE") ++ v) none ∙ append-nil (word_if d (codes "DELETE")))
      ∙ sym (made_words r i u d),
  s ∙ ap (stand_among []) none,
)
