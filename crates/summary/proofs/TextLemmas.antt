-- The lines of words, one after another.
use Rattle.std.proofs.Common.{◌≡◌, ◌∷◌, ◌++◌, ℕ, ◌+◌, ◌<◌, Bool, Bor, List, [], length, map, take, get_or, refl, sym, ◌∙◌, ap, arith, append_assoc, slice_index}
use Rattle.std.specs.List.{enumerate_from, flat_map}
use Rattle.std.proofs.lemmas.Grind.{flat_map-append}
use Rattle.std.proofs.lemmas.List.{append-nil, length-map, length-take-le, map-append, take_more}
use Rattle.summary.specs.Texts.{word_text, words_text}

-- one more item has the next number
numbered-push : {X : Type 0} (first : ℕ) (items : List X) (item : X)
    → enumerate_from first (items ++ item ∷ []) ≡ enumerate_from first items ++ (first + length items, item) ∷ []
numbered-push {X} first [] item = ap (λ (number : ℕ). let numbered : ℕ × X = (number, item) in numbered ∷ []) (omega arith)
numbered-push {X} first (other ∷ items) item =
    let rest = numbered-push (first + 1) items item in
    let number : first + 1 + length items ≡ first + length (other ∷ items) = omega arith in
    ap (λ (numbered : List (ℕ × X)). (first, other) ∷ numbered) (rw number at rest)

-- one more word has its line
words-push : (refusals : Bool) (words : List (List ℕ)) (word : List ℕ) (counts : List ℕ) (index : ℕ) → length words ≡ index
    → words_text refusals (words ++ word ∷ []) counts ≡ words_text refusals words counts ++ word_text refusals word (slice_index counts index)
words-push refusals words word counts index long =
    let spell : ℕ × List ℕ → List ℕ = λ entry. word_text refusals entry.1 (slice_index counts entry.0) in
    let number : 0 + length words ≡ index = omega (arith, long) in
    ap (flat_map spell) (numbered-push 0 words word)
    ∙ flat_map-append spell (enumerate_from 0 words) ((0 + length words, word) ∷ [])
    ∙ ap (λ (last : List ℕ). words_text refusals words counts ++ last) (append-nil (spell (0 + length words, word)))
    ∙ ap (λ (n : ℕ). words_text refusals words counts ++ word_text refusals word (slice_index counts n)) number

-- the lines so far go on with one more
pub words-more : (refusals : Bool) (words : List (Bor (List ℕ))) (counts : List ℕ) (index : ℕ) (none : Bor (List ℕ)) (start before after : List ℕ)
    → index < length words
    → before ≡ start ++ words_text refusals (map (λ (w : Bor (List ℕ)). w.now) (take index words)) counts
    → after ≡ before ++ word_text refusals (get_or words index none).now (slice_index counts index)
    → after ≡ start ++ words_text refusals (map (λ (w : Bor (List ℕ)). w.now) (take (index + 1) words)) counts
words-more refusals words counts index none start before after within so_far put =
    let now : Bor (List ℕ) → List ℕ = λ w. w.now in
    let word : Bor (List ℕ) = get_or words index none in
    let past : List (List ℕ) = map now (take index words) in
    let long : length past ≡ index = length-map (take index words) now ∙ length-take-le index words (omega (arith, within)) in
    let last : List ℕ = word_text refusals word.now (slice_index counts index) in
    let text : words_text refusals (map now (take (index + 1) words)) counts ≡ words_text refusals past counts ++ last =
    ap (λ (ws : List (Bor (List ℕ))). words_text refusals (map now ws) counts) (take_more words index none within)
    ∙ ap (λ (ws : List (List ℕ)). words_text refusals ws counts) (map-append now (take index words) (word ∷ []))
    ∙ words-push refusals past word.now counts index long in
    put ∙ ap (λ (items : List ℕ). items ++ last) so_far
    ∙ append_assoc start (words_text refusals past counts) last
    ∙ ap (λ (items : List ℕ). start ++ items) (sym text)

-- two pieces, each after the one before
pub in-two : (start one two : List ℕ) (first last : List ℕ) → first ≡ start ++ one → last ≡ first ++ two → last ≡ start ++ (one ++ two)
in-two start one two first last is then = then ∙ ap (λ (w : List ℕ). w ++ two) is ∙ append_assoc start one two
