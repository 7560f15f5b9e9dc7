-- What a revocation ends, slot by slot.
use Rattle.std.proofs.Common.{◌≡◌, ℕ, zero, suc, ◌<◌, ◌||◌, ◌&&◌, Bool, true, false, List, [], ◌∷◌, ◌++◌, Option, Some, None, is_none, get_or, length, map, ltb, refl, sym, ◌∙◌, ap, subst, arith, inl, inr, eq-eqb, append_assoc}
use Rattle.std.specs.Prelude.{◌==◌, ◌≢◌, All, IfSome, slice_get}
use Rattle.std.specs.List.Sorted.{IsNonDecreasingBy, IsPartitionPoint}
use Rattle.std.specs.Option.{option_map_or}
use Rattle.std.proofs.lemmas.Bool.{true≢false, and_parts, cases_lt, lt-ltb, ne_eqb, or_right}
use Rattle.std.proofs.lemmas.List.{append-nil, map-append}
use Rattle.std.proofs.lemmas.List.Elements.{All-cons, All-head, All-push, All-tail}
use Rattle.std.proofs.lemmas.Option.{slice_get_within}
use Rattle.model_base.specs.declared.deed.Grant.{Grant}
use Rattle.model_base.specs.declared.deed.Record.{Record}
use Rattle.model_base.specs.declared.deed.Revocation.{Revocation}
use Rattle.model_base.specs.Ranks.{rank}
use Rattle.model_base.specs.Laws.{IsRising}
use Rattle.model_base.specs.Privileges.{concerns}
use Rattle.model_base.specs.Records.{end_below, ended_at, recorded}
use Rattle.model_base.proofs.Replay.{by_cases}
use Rattle.grants_base.specs.Book.{Entries, IsLater, end_slot, end_slots, reopened, slot_below, view_of}
use Rattle.grants.specs.Pass.{concerned}
use Rattle.grants_base.specs.Index.{is_one_of}
use Rattle.grants_base.specs.Sides.{AreAscending}
use Rattle.grants_base.specs.View.{View, flatten}
use Rattle.grants.specs.Work.{AreEnds, IsEnd, slots_of}
use Rattle.grants_base.specs.declared.entries.End.{End}
use Rattle.grants_base.proofs.Lookups.{ended_none, ends_one, less_false, less_true, rise_at}
use Rattle.grants_base.proofs.SlotsLaws.{none_under}

or_none : (b : Bool) → (b || false) ≡ b
or_none true = refl
or_none false = refl

length_slots : (ends : List End) → length (slots_of ends) ≡ length ends
length_slots [] = refl
length_slots (e ∷ es) = ap suc (length_slots es)

slot_of : (ends : List End) (i : ℕ) (d : End) → get_or (slots_of ends) i d.slot ≡ (get_or ends i d).slot
slot_of [] i d = refl
slot_of (e ∷ es) zero d = refl
slot_of (e ∷ es) (suc i) d = slot_of es i d

-- the slots rise, so the ends are in their order
pub ends_in_order : (ends : List End) → AreAscending (slots_of ends) → IsNonDecreasingBy (λ (end : End). end.slot) ends
ends_in_order [] rise zero j d le less = absurd (omega arith)
ends_in_order [] rise (suc i) j d le less = absurd (omega arith)
ends_in_order (x ∷ xs) rise zero zero d le less = omega arith
ends_in_order (x ∷ xs) rise zero (suc j) d le less =
    let above = rise.0 j d.slot (omega (arith, length_slots xs)) in
    omega (arith, above, slot_of xs j d)
ends_in_order (x ∷ xs) rise (suc i) zero d le less = absurd (omega arith)
ends_in_order (x ∷ xs) rise (suc i) (suc j) d le less = ends_in_order xs rise.1 i j d (omega arith) (omega arith)

-- the first end that isn't below a slot says whether one is of it
pub found_slot : (ends : List End) (slot i : ℕ) → AreAscending (slots_of ends)
    → IsPartitionPoint (λ (end : End). ltb end.slot slot ≡ true) (λ (end : End). ltb end.slot slot ≡ false) ends i
    → option_map_or (λ (end : End). end.slot == slot) (slice_get ends i) false ≡ is_one_of (slots_of ends) slot
found_slot [] slot i rise point = refl
found_slot (e ∷ es) slot zero rise point =
    let low = less_false e.slot slot (point.1 0 e (omega arith) (omega arith)) in
    rw (none_under (slots_of es) e.slot slot rise.0 low) (sym (or_none (e.slot == slot)))
found_slot (e ∷ es) slot (suc i) rise point =
    let less = less_true e.slot slot (point.0 0 e (omega arith) (omega arith)) in
    rw (ne_eqb e.slot slot (λ same. omega arith))
    (found_slot es slot i rise.1 ((λ k d low high. point.0 (suc k) d (omega arith) (omega arith)), (λ k d low high. point.1 (suc k) d (omega arith) (omega arith))))

-- a slot above the others comes last
pub ascending_more : (ends : List End) (end : End) → AreAscending (slots_of ends) → ((slot : ℕ) → is_one_of (slots_of ends) slot ≡ true → slot < end.slot)
    → AreAscending (slots_of (ends ++ end ∷ []))
ascending_more [] end rise below = (λ k d less. absurd (omega arith), tt)
ascending_more (e ∷ es) end rise below =
    let Above : ℕ → Type 0 = λ later. e.slot < later in
    let last : e.slot < end.slot = below e.slot (rw (eq-eqb e.slot e.slot refl) refl) in (
      subst (All Above) (sym (map-append (λ (end : End). end.slot) es (end ∷ []))) (All-push Above (slots_of es) end.slot rise.0 last),
      ascending_more es end rise.1 (λ slot is. below slot (or_right (e.slot == slot) (is_one_of (slots_of es) slot) is)),
    )

-- the slots of ends of which there is one more
pub end_more : (before after : List End) (end : End) → after ≡ before ++ end ∷ [] → (k : ℕ) → is_one_of (slots_of after) k ≡ ((end.slot == k) || is_one_of (slots_of before) k)
end_more before after end is k = ap (λ (es : List End). is_one_of (slots_of es) k) is ∙ more before
  where
    swapped : (a b c : Bool) → (a || (b || c)) ≡ (b || (a || c))
    swapped true true c = refl
    swapped true false c = refl
    swapped false b c = refl

    more : (es : List End) → is_one_of (slots_of (es ++ end ∷ [])) k ≡ ((end.slot == k) || is_one_of (slots_of es) k)
    more [] = refl
    more (e ∷ es) = ap (λ b. (e.slot == k) || b) (more es) ∙ swapped (e.slot == k) (end.slot == k) (is_one_of (slots_of es) k)

-- one end more, and the rank of its grant
pub are_more : (revocation : Revocation) (view : View) (ends after : List End) (ranks now : List ℕ) (end : End) (ranked : ℕ)
    → after ≡ ends ++ end ∷ [] → now ≡ ranks ++ ranked ∷ [] → AreEnds revocation view ends ranks → IsEnd revocation view end ranked → AreEnds revocation view after now
are_more revocation view ends after ranks now end ranked ends_is ranks_is are is =
    rw (ends_is, ranks_is) (more ends ranks are)
  where
    more : (es : List End) (ps : List ℕ) → AreEnds revocation view es ps → AreEnds revocation view (es ++ end ∷ []) (ps ++ ranked ∷ [])
    more [] [] are = (is, tt)
    more [] (p ∷ ps) are = absurd are
    more (e ∷ es) [] are = absurd are
    more (e ∷ es) (p ∷ ps) are = (are.0, more es ps are.1)

-- in a list of records the end is of the slot of one that has none, and whose grant has this rank
pub record IsOpen (entries : List Record) (place : ℕ) (end : End) (ranked : ℕ) : Type 0 where
  pub entry : Record
  pub there : slice_get entries end.slot ≡ Some entry
  pub unended : is_none entry.end ≡ true
  pub named : rank entry.grant ≡ ranked
  pub same : end.place ≡ place

concerned_parts : (entry : Record) (revocation : Revocation) (grant : Grant) → concerned (Some entry) revocation ≡ Some grant → (is_none entry.end ≡ true) × (entry.grant ≡ grant)
concerned_parts entry revocation grant is =
    by_cases (is_none entry.end && concerns revocation entry.grant)
    (λ both. let same : Some entry.grant ≡ Some grant = rw both at is in let one : entry.grant ≡ grant = cc in ((and_parts (is_none entry.end) (concerns revocation entry.grant) both).0, one))
    (λ neither. let none : None ≡ Some grant = rw neither at is in absurd (cc))

-- where all ends lie below the place, what has none there has none
none_below : (place : ℕ) (end : Option ℕ) → IfSome end (λ q. q < place) → is_none (end_below place end) ≡ true → is_none end ≡ true
none_below place None less none = refl
none_below place (Some q) less none = let some : is_none (Some q) ≡ true = rw (lt-ltb q place less) at none in absurd (true≢false (sym some))

found_at : (place : ℕ) (entries : List Record) (i : ℕ) (revocation : Revocation) (grant : Grant) → All (λ (entry : Record). IfSome entry.end (λ end. end < place)) entries
    → concerned (flatten (slice_get (map (slot_below place) entries) i)) revocation ≡ Some grant
    → (entry : Record) × (slice_get entries i ≡ Some entry) × (is_none entry.end ≡ true) × (entry.grant ≡ grant)
found_at place [] i revocation grant low is = let none : None ≡ Some grant = is in absurd (cc)
found_at place (x ∷ xs) zero revocation grant low is =
    by_cases (ltb x.grant.place place)
    (λ below.
    let here : concerned (Some (reopened place x)) revocation ≡ Some grant = rw below at is in
    let parts = concerned_parts (reopened place x) revocation grant here in
    (x, refl, none_below place x.end (All-head (λ (entry : Record). IfSome entry.end (λ end. end < place)) x xs low) parts.0, parts.1))
    (λ above. let none : None ≡ Some grant = rw above at is in absurd (cc))
found_at place (x ∷ xs) (suc i) revocation grant low is =
    found_at place xs i revocation grant (All-tail (λ (entry : Record). IfSome entry.end (λ end. end < place)) x xs low) is

-- so it is with what a revocation ends in a book whose ends lie below its place
open_end : (book : Entries) (revocation : Revocation) (end : End) (ranked : ℕ) → IsLater book revocation.place → IsEnd revocation (view_of book revocation.place) end ranked
    → IsOpen book.records revocation.place end ranked
open_end book revocation end ranked later is =
    let found = found_at revocation.place book.records end.slot revocation is.grant later.ends is.found in
    record {
      entry = found.0;
      there = found.1;
      unended = found.2;
      named = ap (λ (g : Grant). rank g) found.3 ∙ is.named;
      same = is.place;
    }

-- one such end
pub ends_open : (entries : List Record) → IsRising (recorded entries) → (place : ℕ) (before : List ℕ) (end : End) (ranked : ℕ) → IsOpen entries place end ranked
    → end_slot (map (ended_at place before) entries) end.slot end.place ≡ map (ended_at place (before ++ ranked ∷ [])) entries
ends_open entries rising place before end ranked is =
    ap (end_slot (map (ended_at place before) entries) end.slot) is.same
    ∙ ends_one place before ranked entries end.slot is.entry is.there here apart
  where
    here : (is_none is.entry.end && (ranked == rank is.entry.grant)) ≡ true
    here = rw (is.unended, eq-eqb ranked (rank is.entry.grant) (sym is.named)) refl

    apart : (k : ℕ) (entry : Record) → slice_get entries k ≡ Some entry → k ≢ end.slot → (ranked == rank entry.grant) ≡ false
    apart k entry at other =
        elim (cases_lt k end.slot) [
          | inl less ↦
              let low = rise_at entries rising k end.slot entry is.entry at is.there less in
              ne_eqb ranked (rank entry.grant) (λ same. omega (arith, is.named))
          | inr more ↦
              elim (cases_lt end.slot k) [
                | inl above ↦
                    let high = rise_at entries rising end.slot k is.entry entry is.there at above in
                    ne_eqb ranked (rank entry.grant) (λ same. omega (arith, is.named))
                | inr not_above ↦ absurd (other (omega arith))
              ]
        ]

-- and all of them
module _ (book : Entries) (revocation : Revocation) (later : IsLater book revocation.place) where
  ends_from : IsRising (recorded book.records) → (ends : List End) (ranks : List ℕ) → AreEnds revocation (view_of book revocation.place) ends ranks → (before : List ℕ)
      → end_slots (map (ended_at revocation.place before) book.records) ends ≡ map (ended_at revocation.place (before ++ ranks)) book.records
  ends_from rising [] [] are before = ap (λ (ps : List ℕ). map (ended_at revocation.place ps) book.records) (sym (append-nil before))
  ends_from rising [] (p ∷ ps) are before = absurd are
  ends_from rising (e ∷ es) [] are before = absurd are
  ends_from rising (e ∷ es) (p ∷ ps) are before =
      ap (λ (entries : List Record). end_slots entries es) (ends_open book.records rising revocation.place before e p (open_end book revocation e p later are.0))
      ∙ ends_from rising es ps are.1 (before ++ p ∷ [])
      ∙ ap (λ (qs : List ℕ). map (ended_at revocation.place qs) book.records) (append_assoc before (p ∷ []) ps)

  pub ends_all : IsRising (recorded book.records) → (ends : List End) (ranks : List ℕ) → AreEnds revocation (view_of book revocation.place) ends ranks
      → end_slots book.records ends ≡ map (ended_at revocation.place ranks) book.records
  ends_all rising ends ranks are =
      ap (λ (entries : List Record). end_slots entries ends) (ended_none revocation.place book.records) ∙ ends_from rising ends ranks are []

  -- and their slots are there
  pub ends_within : (ends : List End) (ranks : List ℕ) → AreEnds revocation (view_of book revocation.place) ends ranks
      → All (λ (end : End). end.slot < length book.records) ends
  ends_within [] ranks are = λ k d less. absurd (omega arith)
  ends_within (e ∷ es) [] are = absurd are
  ends_within (e ∷ es) (p ∷ ps) are =
      let is = open_end book revocation e p later are.0 in
      All-cons (λ (end : End). end.slot < length book.records) e es (slice_get_within book.records e.slot is.entry is.there) (ends_within es ps are.1)
