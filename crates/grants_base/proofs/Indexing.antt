-- What an index of records has, with one record more, with one less, and with other ends.
use Rattle.std.proofs.Common.{◌≡◌, ℕ, zero, suc, ◌<◌, ◌≤◌, ◌+◌, ◌-◌, Bool, true, List, [], ◌∷◌, ◌++◌, Option, Some, None, length, take, get_or, refl, sym, ◌∙◌, ap, arith, subst, inl, inr, map}
use Rattle.std.specs.Prelude.{◌==◌, All, IsSomeAnd, OnErr, Result, Ok, Err, nat_lt, slice_get}
use Rattle.std.specs.Option.{option_map_or}
use Rattle.std.proofs.lemmas.Bool.{cases_lt, le-ltb, lt-ltb}
use Rattle.std.proofs.lemmas.Bool.Decides.{nat_tests}
use Rattle.std.proofs.lemmas.List.{take_more}
use Rattle.std.proofs.lemmas.List.Elements.{All-push}
use Rattle.model_base.specs.declared.deed.Grant.{Grant}
use Rattle.model_base.specs.declared.deed.Kind.{Kind}
use Rattle.model_base.specs.declared.deed.Kind.TheVariants.{Read, Insert, Update, Delete}
use Rattle.model_base.specs.declared.deed.Record.{Record}
use Rattle.model_base.specs.Privileges.{same_kind}
use Rattle.model_base.specs.Records.{recorded}
use Rattle.grants_base.specs.declared.entries.End.{End}
use Rattle.model_base.specs.Records.{end_below}
use Rattle.grants_base.specs.Book.{end_slot, end_slots, reopened, unended}
use Rattle.grants_base.proofs.Lookups.{end_below-some}
use Rattle.grants_base.specs.Index.{IsFirst}
use Rattle.grants_base.specs.Force.{later_of}
use Rattle.grants_base.specs.Marks.{EndBy}
use Rattle.model_base.specs.Ranks.{kind_code}

pub code-same : (a b : Kind) → (kind_code a == kind_code b) ≡ same_kind b a
code-same Read Read = refl
code-same Insert Insert = refl
code-same Update Update = refl
code-same Delete Delete = refl
code-same Read Insert = refl
code-same Read Update = refl
code-same Read Delete = refl
code-same Insert Read = refl
code-same Insert Update = refl
code-same Insert Delete = refl
code-same Update Read = refl
code-same Update Insert = refl
code-same Update Delete = refl
code-same Delete Read = refl
code-same Delete Insert = refl
code-same Delete Update = refl

pub other_order : (a b : ℕ) → (a == b) ≡ (b == a)
other_order a b = grind (arith, nat_tests)

-- what an index finds is found among the grants
pub first_as : (first second : ℕ → Bool) → ((k : ℕ) → first k ≡ second k) → (from : ℕ) (found : Option ℕ) → IsFirst first from found → IsFirst second from found
first_as first second same from None is = λ k low. sym (same k) ∙ is k low
first_as first second same from (Some i) is = (is.0, sym (same i) ∙ is.1, λ k low less. sym (same k) ∙ is.2 k low less)

-- the ends
get_before : (entries : List Record) (more : Record) (slot : ℕ) (entry : Record) → slice_get entries slot ≡ Some entry → slice_get (entries ++ more ∷ []) slot ≡ Some entry
get_before [] more slot entry is = absurd (cc)
get_before (first ∷ entries) more zero entry is = is
get_before (first ∷ entries) more (suc slot) entry is = get_before entries more slot entry is

abbrev option_end : Option Record → Option ℕ
option_end None = None
option_end (Some found) = found.end

get_more : (entries : List Record) (grant : Grant) (slot place : ℕ) (entry : Record) → slice_get (entries ++ unended grant ∷ []) slot ≡ Some entry → entry.end ≡ Some place
    → slice_get entries slot ≡ Some entry
get_more [] grant zero place entry is end = let none : None ≡ Some place = ap (λ (found : Option Record). option_end found) is ∙ end in absurd (cc)
get_more [] grant (suc slot) place entry is end = absurd (cc)
get_more (first ∷ entries) grant zero place entry is end = is
get_more (first ∷ entries) grant (suc slot) place entry is end = get_more entries grant slot place entry is end

pub ends_more : (last : Option ℕ) (entries : List Record) (grant : Grant) → EndBy last entries → EndBy last (entries ++ unended grant ∷ [])
ends_more last entries grant ends = λ slot place entry is end. ends slot place entry (get_more entries grant slot place entry is end) end

pub ends_less : (last : Option ℕ) (entries : List Record) (more : Record) → EndBy last (entries ++ more ∷ []) → EndBy last entries
ends_less last entries more ends = λ slot place entry is end. ends slot place entry (get_before entries more slot entry is) end

pub recorded-end_slot : (entries : List Record) (slot place : ℕ) → recorded (end_slot entries slot place) ≡ recorded entries
recorded-end_slot [] slot place = refl
recorded-end_slot (entry ∷ entries) zero place = refl
recorded-end_slot (entry ∷ entries) (suc slot) place = ap (λ r. entry.grant ∷ r) (recorded-end_slot entries slot place)

pub recorded-end_slots : (entries : List Record) (ends : List End) → recorded (end_slots entries ends) ≡ recorded entries
recorded-end_slots entries [] = refl
recorded-end_slots entries (end ∷ ends) = recorded-end_slots (end_slot entries end.slot end.place) ends ∙ recorded-end_slot entries end.slot end.place

-- a record with another end has that, and the others have theirs
ended_slot : (entries : List Record) (slot place k q : ℕ) (entry : Record) → slice_get (end_slot entries slot place) k ≡ Some entry → entry.end ≡ Some q
    → (P : ℕ → ℕ → Type 0) → P place slot → ((entry : Record) → slice_get entries k ≡ Some entry → entry.end ≡ Some q → P q k) → P q k
ended_slot [] slot place k q entry is end P here there = there entry is end
ended_slot (first ∷ entries) zero place zero q entry is end P here there =
    let same : Some place ≡ Some q = ap (λ (found : Option Record). option_end found) is ∙ end in
    let one : place ≡ q = cc in
    subst (λ n. P n 0) one here
ended_slot (first ∷ entries) zero place (suc k) q entry is end P here there = there entry is end
ended_slot (first ∷ entries) (suc slot) place zero q entry is end P here there = there entry is end
ended_slot (first ∷ entries) (suc slot) place (suc k) q entry is end P here there =
    ended_slot entries slot place k q entry is end (λ n i. P n (suc i)) here there

up_to_itself : (last : Option ℕ) (place : ℕ) → IsSomeAnd (later_of last (Some place)) (λ it. place ≤ it)
up_to_itself None place = omega arith
up_to_itself (Some it) place =
    elim (cases_lt it place) [ inl less ↦ rw (lt-ltb it place less) (omega arith) | inr more ↦ rw (le-ltb it place more) more ]

up_to_later : (last : Option ℕ) (place q : ℕ) → IsSomeAnd last (λ it. q ≤ it) → IsSomeAnd (later_of last (Some place)) (λ it. q ≤ it)
up_to_later None place q is = absurd is
up_to_later (Some it) place q is =
    elim (cases_lt it place) [ inl less ↦ rw (lt-ltb it place less) (omega arith) | inr more ↦ rw (le-ltb it place more) is ]

-- one end more
pub ends_slot : (last : Option ℕ) (entries : List Record) (slot place : ℕ) → EndBy last entries → EndBy (later_of last (Some place)) (end_slot entries slot place)
ends_slot last entries slot place ends = λ k q entry is end.
    ended_slot entries slot place k q entry is end (λ n i. IsSomeAnd (later_of last (Some place)) (λ it. n ≤ it)) (up_to_itself last place)
    (λ found at of. up_to_later last place q (ends k q found at of))

-- ends that were taken back
pub ends_reopened : (last : Option ℕ) (place : ℕ) (entries : List Record) → EndBy last entries
    → (slot q : ℕ) (entry : Record) → slice_get (map (reopened place) entries) slot ≡ Some entry → entry.end ≡ Some q → IsSomeAnd last (λ it. q ≤ it)
ends_reopened last place [] ends slot q entry is end = absurd (cc)
ends_reopened last place (first ∷ entries) ends zero q entry is end =
    let here : end_below place first.end ≡ Some q = ap (λ (found : Option Record). option_end found) is ∙ end in
    ends 0 q first refl (end_below-some place first.end q here).0
ends_reopened last place (first ∷ entries) ends (suc slot) q entry is end =
    ends_reopened last place entries (λ k n found there of. ends (suc k) n found there of) slot q entry is end

-- an end that lies below a place, if there is one
pub ends_below : (place : ℕ) (end : Option ℕ) → ((q : ℕ) → end ≡ Some q → q < place) → option_map_or (λ q. nat_lt q place) end true ≡ true
ends_below place None below = refl
ends_below place (Some q) below = lt-ltb q place (below q refl)

pub none_there : {X : Type 0} (xs : List X) → slice_get xs (length xs - 1) ≡ None → (k : ℕ) → k < length xs → ⊥
none_there [] none k less = omega arith
none_there (x ∷ []) none k less = cc
none_there (x ∷ y ∷ xs) none k less =
    let one : length (x ∷ y ∷ xs) - 1 ≡ suc (length (y ∷ xs) - 1) = omega arith in
    none_there (y ∷ xs) (ap (slice_get (x ∷ y ∷ xs)) (sym one) ∙ none) 0 (omega arith)

-- the front of a list that was more
pub take_front : {X : Type 0} (xs ys : List X) → take (length xs) (xs ++ ys) ≡ xs
take_front [] ys = refl
take_front (x ∷ xs) ys = ap (λ r. x ∷ r) (take_front xs ys)

-- what holds holds where there is an error
pub on_err : {A E : Type 0} (result : Result A E) (P : Type 0) → P → OnErr result P
on_err (Ok value) P holds = tt
on_err (Err error) P holds = holds

-- one more of a list's front
pub All-more : {X : Type 0} (P : X → Type 0) (xs : List X) (i : ℕ) (d : X) → i < length xs → All P (take i xs) → P (get_or xs i d) → All P (take (i + 1) xs)
All-more P xs i d less all holds = subst (λ ys. All P ys) (sym (take_more xs i d less)) (All-push P (take i xs) (get_or xs i d) all holds)
