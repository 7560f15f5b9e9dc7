-- Lists that lie in one.
use Rattle.std.proofs.Common.{◌≡◌, ◌≤◌, ◌+◌, ◌++◌, ℕ, List, [], ◌∷◌, length, take, drop, refl, ap, ◌∙◌, arith}
use Rattle.std.proofs.lemmas.List.{drop-append-le, drop_at, length-drop, map_push, take-append-le, take_all}
use Rattle.std.proofs.lemmas.List.Elements.{All-head, All-tail}
use Rattle.filling.specs.declared.completion.lists.Part.{Part}
use Rattle.filling.specs.Lists.{AreWithin, list_in, lists_in}

abbrev IsWithin : List ℕ → Part → Type 0
IsWithin numbers part = part.begin + part.count ≤ length numbers

-- numbers after the others change no list
part-kept : (numbers more : List ℕ) (part : Part) → IsWithin numbers part → list_in (numbers ++ more) part ≡ list_in numbers part
part-kept numbers more part within =
    let low : part.begin ≤ length numbers = omega arith in
    let count = length-drop part.begin numbers in
    let long : part.count ≤ length (drop part.begin numbers) = omega arith in
    ap (λ (list : List ℕ). take part.count list) (drop-append-le part.begin numbers more low) ∙ take-append-le part.count (drop part.begin numbers) more long

lists-kept : (numbers more : List ℕ) (parts : List Part) → AreWithin numbers parts → lists_in (numbers ++ more) parts ≡ lists_in numbers parts
lists-kept numbers more [] within = refl
lists-kept numbers more (part ∷ parts) within =
    let first = part-kept numbers more part (All-head (IsWithin numbers) part parts within) in
    let rest = lists-kept numbers more parts (All-tail (IsWithin numbers) part parts within) in
    ap (λ one. one ∷ lists_in (numbers ++ more) parts) first ∙ ap (λ others. list_in numbers part ∷ others) rest

-- the numbers after the others are a list
abbrev pub last : List ℕ → List ℕ → Part
last numbers more = record { begin = length numbers; count = length more }

last-in : (numbers more : List ℕ) → list_in (numbers ++ more) (last numbers more) ≡ more
last-in numbers more =
    ap (λ (list : List ℕ). take (length more) list) (drop_at numbers more (length numbers) refl) ∙ take_all (length more) more (omega arith)

pub lists-pushed : (numbers more : List ℕ) (parts : List Part) → AreWithin numbers parts
    → lists_in (numbers ++ more) (parts ++ last numbers more ∷ []) ≡ lists_in numbers parts ++ more ∷ []
lists-pushed numbers more parts within =
    map_push (list_in (numbers ++ more)) parts (last numbers more)
    ∙ ap (λ others. others ++ list_in (numbers ++ more) (last numbers more) ∷ []) (lists-kept numbers more parts within)
    ∙ ap (λ one. lists_in numbers parts ++ one ∷ []) (last-in numbers more)

-- numbers and a part for them after the others
pub lists-more : (numbers more numbers' : List ℕ) (parts parts' : List Part) (begin count : ℕ) → AreWithin numbers parts → numbers' ≡ numbers ++ more
    → parts' ≡ parts ++ record { begin = begin; count = count } ∷ [] → begin ≡ length numbers → count ≡ length more
    → lists_in numbers' parts' ≡ lists_in numbers parts ++ more ∷ []
lists-more numbers more numbers' parts parts' begin count within is is' first size =
    let part : Part = record { begin = begin; count = count } in
    let same : part ≡ last numbers more = ap (λ n. let one : Part = record { begin = n; count = count } in one) first ∙ ap (λ n. let one : Part = record { begin = length numbers; count = n } in one) size in
    ap (λ (list : List ℕ). lists_in list parts') is
    ∙ ap (lists_in (numbers ++ more)) is'
    ∙ ap (λ (one : Part). lists_in (numbers ++ more) (parts ++ one ∷ [])) same
    ∙ lists-pushed numbers more parts within
