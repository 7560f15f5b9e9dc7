-- Spans joined one after another.
use Rattle.std.proofs.Common.{◌≡◌, ℕ, ◌<◌, ◌≤◌, ◌+◌, ◌++◌, ◌&&◌, ◌||◌, Bool, true, false, List, [], ◌∷◌, Option, Some, None, is_none, length, get_or, take, refl, sym, ◌∙◌, ap, arith}
use Rattle.std.specs.Prelude.{All, IfSome, nat_le, nat_lt, slice_get}
use Rattle.std.specs.List.{list_any}
use Rattle.std.specs.Option.{IsSomeAnd, option_map_or}
use Rattle.std.proofs.lemmas.Bool.Decides.{nat_tests}
use Rattle.std.proofs.lemmas.List.Elements.{All-cons, All-head, All-nil, All-push, All-tail, All-weaker}
use Rattle.std.proofs.lemmas.Option.{slice_get-get_or}
use Rattle.model_base.specs.declared.deed.Deed.{Deed}
use Rattle.model_base.specs.declared.deed.Need.{Need}
use Rattle.model_base.specs.declared.deed.Record.{Record}
use Rattle.model_base.specs.Laws.{IsRising}
use Rattle.model_base.specs.Privileges.{gives, owns}
use Rattle.model_base.specs.Records.{end_below, is_in_force_at, recorded}
use Rattle.model_base.proofs.Ranked.{rank-places}
use Rattle.grants_base.specs.Book.{Entries, ShowsBook}
use Rattle.grants_base.proofs.Lookups.{rise_at}
use Rattle.privileges.specs.declared.spanning.Span.{Span}
use Rattle.privileges.specs.Joining.{later_end, lasts_until, span_of}
use Rattle.privileges.specs.Spans.{AreSeparate, AreSpans, IsOverBefore, is_within}
use Rattle.privileges.proofs.Named.{any_more}
use Rattle.privileges.proofs.Told.{holds-given}

-- a span that ends, if it does, above its beginning
abbrev Lasts : Span → Type 0
Lasts span = IfSome span.to (λ to. span.from < to)

abbrev BeginsBy : ℕ → Span → Type 0
BeginsBy place other = other.from ≤ place

-- one more, which begins above all ends, keeps them apart
apart_push : (spans : List Span) (span : Span) → AreSeparate spans → All (λ other. IsOverBefore other span) spans → Lasts span → AreSeparate (spans ++ span ∷ [])
apart_push [] span apart before lasts = (lasts, All-nil (IsOverBefore span), tt)
apart_push (first ∷ spans) span apart before lasts = (
  apart.0,
  All-push (IsOverBefore first) spans span apart.1 (All-head (λ other. IsOverBefore other span) first spans before),
  apart_push spans span apart.2 (All-tail (λ other. IsOverBefore other span) first spans before) lasts,
)

-- each ends below where the last one begins
ends_before : (first last span : Span) → IsOverBefore first last → last.from ≤ span.from → IsOverBefore first span
ends_before first last span before later = ends first.to before
  where
    ends : (to : Option ℕ) → IsSomeAnd to (λ end. end < last.from) → IsSomeAnd to (λ end. end < span.from)
    ends None none = none
    ends (Some end) less = omega arith

before_last : (spans : List Span) (last span : Span) → AreSeparate (spans ++ last ∷ []) → last.from ≤ span.from → IsOverBefore last span
    → All (λ other. IsOverBefore other span) (spans ++ last ∷ [])
before_last [] last span apart later ends = All-cons (λ other. IsOverBefore other span) last [] ends (All-nil (λ other. IsOverBefore other span))
before_last (first ∷ spans) last span apart later ends =
    All-cons (λ other. IsOverBefore other span) first (spans ++ last ∷ [])
    (ends_before first last span (last_of spans apart.1) later)
    (before_last spans last span apart.2 later ends)
  where
    last_of : (others : List Span) → All (IsOverBefore first) (others ++ last ∷ []) → IsOverBefore first last
    last_of [] all = All-head (IsOverBefore first) last [] all
    last_of (other ∷ others) all = last_of others (All-tail (IsOverBefore first) other (others ++ last ∷ []) all)

-- the last one, made longer, stays apart from those before it
abbrev pub merged : Span → Span → Span
merged last span = record { from = last.from; to = later_end last.to span.to }

pub replaced : (P : Span → Type 0) (spans : List Span) (last other : Span) → (P last → P other) → All P (spans ++ last ∷ []) → All P (spans ++ other ∷ [])
replaced P [] last other turn all = All-cons P other [] (turn (All-head P last [] all)) (All-nil P)
replaced P (first ∷ spans) last other turn all =
    All-cons P first (spans ++ other ∷ []) (All-head P first (spans ++ last ∷ []) all)
    (replaced P spans last other turn (All-tail P first (spans ++ last ∷ []) all))

lasting : (from : ℕ) (to other : Option ℕ) → IfSome to (λ end. from < end) → IfSome (later_end to other) (λ end. from < end)
lasting from None None lasts = tt
lasting from None (Some second) lasts = tt
lasting from (Some first) None lasts = tt
lasting from (Some first) (Some second) lasts = omega arith

merged_apart : (spans : List Span) (last span : Span) → AreSeparate (spans ++ last ∷ []) → AreSeparate (spans ++ merged last span ∷ [])
merged_apart [] last span apart = (lasting last.from last.to span.to apart.0, All-nil (IsOverBefore (merged last span)), tt)
merged_apart (first ∷ spans) last span apart = (
  apart.0,
  replaced (IsOverBefore first) spans last (merged last span) (λ ends. ends) apart.1,
  merged_apart spans last span apart.2,
)

last_ends : (to : Option ℕ) (place : ℕ) → option_map_or (λ end. nat_le place end) to true ≡ false → IsSomeAnd to (λ end. end < place)
last_ends None place over = absurd (cc)
last_ends (Some end) place over = grind (arith, nat_tests, over)

-- what joining makes of the spans
pub joined_longer : (old rest : List Span) (last span : Span) (new : List Span) → old ≡ rest ++ last ∷ [] → new ≡ rest ++ merged last span ∷ [] → AreSeparate old → AreSeparate new
joined_longer old rest last span new was is apart = rw is (merged_apart rest last span (rw was at apart))

pub joined_later : (old rest : List Span) (last span : Span) (new : List Span) → old ≡ rest ++ last ∷ [] → new ≡ rest ++ merged last span ∷ []
    → All (BeginsBy span.from) old → All (BeginsBy span.from) new
joined_later old rest last span new was is later = rw is (replaced (BeginsBy span.from) rest last (merged last span) (λ by. by) (rw was at later))

pub joined_after : (old rest : List Span) (last span : Span) (new : List Span) → old ≡ rest ++ last ∷ [] → new ≡ (rest ++ last ∷ []) ++ span ∷ []
    → lasts_until last span.from ≡ false → All (BeginsBy span.from) old → Lasts span → AreSeparate old → AreSeparate new
joined_after old rest last span new was is over later lasts apart =
    let there : AreSeparate (rest ++ last ∷ []) = rw was at apart in
    rw is
    (apart_push (rest ++ last ∷ []) span there
    (before_last rest last span there (last_of rest (rw was at later)) (last_ends last.to span.from over)) lasts)
  where
    last_of : (others : List Span) → All (BeginsBy span.from) (others ++ last ∷ []) → last.from ≤ span.from
    last_of [] all = All-head (BeginsBy span.from) last [] all
    last_of (other ∷ others) all = last_of others (All-tail (BeginsBy span.from) other (others ++ last ∷ []) all)

-- a place lies in the span of a record exactly if its grant is in force there
pub within-force : (place : ℕ) (entry : Record) → is_in_force_at place entry ≡ is_within place (span_of entry)
within-force place entry = ap (λ b. nat_lt entry.grant.place place && b) (left entry.end)
  where
    left : (end : Option ℕ) → is_none (end_below place end) ≡ option_map_or (λ to. nat_le place to) end true
    left None = refl
    left (Some end) = grind (arith, nat_tests)

-- no span begins above a later record
pub later_records : (records : List Record) (spans : List Span) (i k : ℕ) (entry other : Record) → IsRising (recorded records) → i < length records
    → entry ≡ get_or records i entry → i + 1 ≤ k → slice_get records k ≡ Some other
    → All (BeginsBy entry.grant.place) spans → All (BeginsBy other.grant.place) spans
later_records records spans i k entry other rising less is above there later =
    let here : slice_get records i ≡ Some entry = slice_get-get_or records i entry less ∙ ap (λ (e : Record). Some e) (sym is) in
    let ranks = rise_at records rising i k entry other here there (omega arith) in
    let places : entry.grant.place ≤ other.grant.place = rank-places entry.grant other.grant ranks in
    All-weaker (BeginsBy entry.grant.place) (BeginsBy other.grant.place) (λ span by. omega (arith, by, places)) spans later

-- the record gives what is needed in its span
abbrev pub gives_in : ℕ → Need → ℕ → Record → Bool
gives_in user need place entry = is_within place (span_of entry) && gives entry.grant user need

pub told_more : (user : ℕ) (need : Need) (place i : ℕ) (records : List Record) (entry : Record) (before after : List Span) → i < length records
    → entry ≡ get_or records i entry → gives entry.grant user need ≡ true
    → list_any (is_within place) before ≡ list_any (gives_in user need place) (take i records)
    → list_any (is_within place) after ≡ (list_any (is_within place) before || is_within place (span_of entry))
    → list_any (is_within place) after ≡ list_any (gives_in user need place) (take (i + 1) records)
told_more user need place i records entry before after less is given told joined =
    joined
    ∙ ap (λ b. b || is_within place (span_of entry)) told
    ∙ ap (λ b. list_any (gives_in user need place) (take i records) || b) (and_true (is_within place (span_of entry)) ∙ ap (λ b. is_within place (span_of entry) && b) (sym given))
    ∙ sym (any_more (gives_in user need place) records i entry less is)
  where
    and_true : (b : Bool) → b ≡ (b && true)
    and_true true = refl
    and_true false = refl

pub told_same : (user : ℕ) (need : Need) (place i : ℕ) (records : List Record) (entry : Record) (spans : List Span) → i < length records
    → entry ≡ get_or records i entry → gives entry.grant user need ≡ false
    → list_any (is_within place) spans ≡ list_any (gives_in user need place) (take i records)
    → list_any (is_within place) spans ≡ list_any (gives_in user need place) (take (i + 1) records)
told_same user need place i records entry spans less is given told =
    told
    ∙ or_none (list_any (gives_in user need place) (take i records)) (is_within place (span_of entry))
    ∙ ap (λ b. list_any (gives_in user need place) (take i records) || (is_within place (span_of entry) && b)) (sym given)
    ∙ sym (any_more (gives_in user need place) records i entry less is)
  where
    or_none : (b c : Bool) → b ≡ (b || (c && false))
    or_none true c = refl
    or_none false true = refl
    or_none false false = refl

-- so all records together tell what is held
any_as : {X : Type 0} (p q : X → Bool) → ((x : X) → p x ≡ q x) → (xs : List X) → list_any p xs ≡ list_any q xs
any_as p q same [] = refl
any_as p q same (x ∷ xs) = ap (λ b. b || list_any p xs) (same x) ∙ ap (λ b. q x || b) (any_as p q same xs)

pub are_spans : (book : Entries) (owners : List ℕ) (deeds : List Deed) (user : ℕ) (need : Need) (spans : List Span) → ShowsBook book owners deeds
    → owns owners user need.table ≡ false → AreSeparate spans
    → ((place : ℕ) → list_any (is_within place) spans ≡ list_any (gives_in user need place) book.records)
    → AreSpans owners deeds user need spans
are_spans book owners deeds user need spans shows other apart told = record {
  apart = apart;
  tells = λ place.
      holds-given book owners deeds place user need shows other
      ∙ any_as (λ (entry : Record). is_in_force_at place entry && gives entry.grant user need) (gives_in user need place)
      (λ entry. ap (λ b. b && gives entry.grant user need) (within-force place entry)) book.records
      ∙ sym (told place);
}

-- each begins below what lies above the last record
pub begun_by : (spans : List Span) (last place : ℕ) → last < place → All (BeginsBy last) spans → All (λ (span : Span). span.from < place) spans
begun_by spans last place less all = All-weaker (BeginsBy last) (λ (span : Span). span.from < place) (λ span by. omega (arith, by, less)) spans all
