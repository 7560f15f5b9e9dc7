-- Lists in the order of their places, and what is found in them by a place.
use Rattle.std.proofs.Common.{◌≡◌, ℕ, zero, suc, ◌<◌, ◌≤◌, ◌&&◌, ◌||◌, Bool, true, false, List, [], ◌∷◌, ◌++◌, Option, Some, None, is_none, filter, length, map, take, get_or, ltb, refl, sym, ◌∙◌, ap, arith, inl, inr, subst}
use Rattle.std.specs.Prelude.{◌==◌, ◌≢◌, slice_get}
use Rattle.std.specs.List.{list_any}
use Rattle.std.specs.List.Sorted.{IsNonDecreasingBy, IsPartitionPoint}
use Rattle.std.proofs.lemmas.Bool.{true≢false, and_parts, cases_lt, lt-ltb, le-ltb}
use Rattle.std.proofs.lemmas.Option.{get_or_from_slice_get, slice_get_within}
use Rattle.model_base.specs.declared.deed.Grant.{Grant}
use Rattle.model_base.specs.declared.deed.Record.{Record}
use Rattle.model_base.specs.Ranks.{rank}
use Rattle.model_base.specs.Laws.{IsRising}
use Rattle.model_base.specs.Records.{end_below, ended_at, recorded}
use Rattle.model_base.proofs.Ranked.{rank-places}
use Rattle.model_base.proofs.Replay.{by_cases}
use Rattle.grants_base.specs.Book.{AreRising, end_slot, reopened}
use Rattle.grants_base.specs.declared.entries.Creation.{Creation}
use Rattle.grants_base.proofs.RevokeLaws.{same_grant}
use Rattle.grants_base.proofs.Walks.{length-recorded}

pub less_true : (x y : ℕ) → ltb x y ≡ true → x < y
less_true x y is = elim (cases_lt x y) [ inl less ↦ less | inr more ↦ absurd (true≢false (sym is ∙ le-ltb x y more)) ]

pub less_false : (x y : ℕ) → ltb x y ≡ false → y ≤ x
less_false x y is = elim (cases_lt x y) [ inl less ↦ absurd (true≢false (sym (lt-ltb x y less) ∙ is)) | inr more ↦ more ]

filter_none : {X : Type 0} (p : X → Bool) (xs : List X) → ((k : ℕ) (d : X) → k < length xs → p (get_or xs k d) ≡ false) → filter p xs ≡ []
filter_none p [] none = refl
filter_none p (x ∷ xs) none = rw (none 0 x (omega arith)) (filter_none p xs (λ k d less. none (suc k) d (omega arith)))

-- those below the point of a partition are those that pass
pub taken_filter : {X : Type 0} (p : X → Bool) (xs : List X) (i : ℕ) → IsPartitionPoint (λ y. p y ≡ true) (λ y. p y ≡ false) xs i → take i xs ≡ filter p xs
taken_filter p [] zero point = refl
taken_filter p [] (suc i) point = refl
taken_filter p (x ∷ xs) zero point = sym (filter_none p (x ∷ xs) (λ k d less. point.1 k d (omega arith) less))
taken_filter p (x ∷ xs) (suc i) point =
    let rest : IsPartitionPoint (λ y. p y ≡ true) (λ y. p y ≡ false) xs i = ((λ k d low less. point.0 (suc k) d (omega arith) (omega arith)), (λ k d low less. point.1 (suc k) d (omega arith) (omega arith))) in
    rw (point.0 0 x (omega arith) (omega arith)) (ap (λ r. x ∷ r) (taken_filter p xs i rest))

-- the places of tables rise
pub tables_rise : (tables : List Creation) → AreRising tables → IsNonDecreasingBy (λ (creation : Creation). creation.place) tables
tables_rise [] rising zero j d le less = absurd (omega arith)
tables_rise [] rising (suc i) j d le less = absurd (omega arith)
tables_rise (x ∷ xs) rising zero zero d le less = omega arith
tables_rise (x ∷ xs) rising zero (suc j) d le less = let above = rising.0 j d (omega arith) in omega arith
tables_rise (x ∷ xs) rising (suc i) zero d le less = absurd (omega arith)
tables_rise (x ∷ xs) rising (suc i) (suc j) d le less = tables_rise xs rising.1 i j d (omega arith) (omega arith)

recorded_get : (entries : List Record) (k : ℕ) (d : Record) → get_or (recorded entries) k d.grant ≡ (get_or entries k d).grant
recorded_get [] k d = refl
recorded_get (x ∷ xs) zero d = refl
recorded_get (x ∷ xs) (suc k) d = recorded_get xs k d

-- those of records may repeat, and don't fall
pub records_rise : (entries : List Record) → IsRising (recorded entries) → IsNonDecreasingBy (λ (entry : Record). entry.grant.place) entries
records_rise [] rising zero j d le less = absurd (omega arith)
records_rise [] rising (suc i) j d le less = absurd (omega arith)
records_rise (x ∷ xs) rising zero zero d le less = omega arith
records_rise (x ∷ xs) rising zero (suc j) d le less =
    let above = rank-places x.grant (get_or (recorded xs) j d.grant) (rising.0 j d.grant (omega (arith, length-recorded xs))) in
    let here : (get_or (recorded xs) j d.grant).place ≡ (get_or xs j d).grant.place = ap (λ (g : Grant). g.place) (recorded_get xs j d) in
    omega arith
records_rise (x ∷ xs) rising (suc i) zero d le less = absurd (omega arith)
records_rise (x ∷ xs) rising (suc i) (suc j) d le less = records_rise xs rising.1 i j d (omega arith) (omega arith)

-- the ranks of records rise
pub rise_at : (entries : List Record) → IsRising (recorded entries) → (i j : ℕ) (a b : Record) → slice_get entries i ≡ Some a → slice_get entries j ≡ Some b → i < j → rank a.grant < rank b.grant
rise_at [] rising i j a b at_i at_j less = absurd (cc)
rise_at (x ∷ xs) rising i zero a b at_i at_j less = absurd (omega arith)
rise_at (x ∷ xs) rising zero (suc j) a b at_i at_j less =
    let same : x ≡ a = cc in
    let above = rising.0 j b.grant (omega (arith, length-recorded xs, slice_get_within xs j b at_j)) in
    let here : rank (get_or (recorded xs) j b.grant) ≡ rank b.grant =
    ap (λ (g : Grant). rank g) (recorded_get xs j b) ∙ ap (λ (e : Record). rank e.grant) (get_or_from_slice_get xs j b b at_j) in
    let first : rank x.grant ≡ rank a.grant = ap (λ (e : Record). rank e.grant) same in
    omega arith
rise_at (x ∷ xs) rising (suc i) (suc j) a b at_i at_j less = rise_at xs rising.1 i j a b at_i at_j (omega arith)

-- what a partition by a place says of each record
module _ (entries : List Record) (place slot : ℕ) (point : IsPartitionPoint (λ (entry : Record). ltb entry.grant.place place ≡ true) (λ (entry : Record). ltb entry.grant.place place ≡ false) entries slot) where
  pub told_below : (k : ℕ) (entry : Record) → slice_get entries k ≡ Some entry → k < slot → entry.grant.place < place
  told_below k entry at less =
      let here = get_or_from_slice_get entries k entry entry at in
      less_true entry.grant.place place (subst (λ (e : Record). ltb e.grant.place place ≡ true) here (point.0 k entry (omega arith) less))

  pub told_above : (k : ℕ) (entry : Record) → slice_get entries k ≡ Some entry → slot ≤ k → place ≤ entry.grant.place
  told_above k entry at low =
      let here = get_or_from_slice_get entries k entry entry at in
      less_false entry.grant.place place (subst (λ (e : Record). ltb e.grant.place place ≡ false) here (point.1 k entry low (slice_get_within entries k entry at)))

-- one rank more among those that end
module _ (place : ℕ) (before : List ℕ) (ranked : ℕ) where
  abbrev now : List ℕ
  now = before ++ ranked ∷ []

  listed-more : (p : ℕ) → list_any (λ q. q == p) now ≡ (list_any (λ q. q == p) before || (ranked == p))
  listed-more p = more before
    where
      or_none : (b : Bool) → (b || false) ≡ b
      or_none true = refl
      or_none false = refl

      or_later : (a b c : Bool) → (a || (b || c)) ≡ ((a || b) || c)
      or_later true b c = refl
      or_later false b c = refl

      more : (ps : List ℕ) → list_any (λ q. q == p) (ps ++ ranked ∷ []) ≡ (list_any (λ q. q == p) ps || (ranked == p))
      more [] = or_none (ranked == p)
      more (q ∷ ps) = ap (λ b. (q == p) || b) (more ps) ∙ or_later (q == p) (list_any (λ q. q == p) ps) (ranked == p)

  or_not : (a b : Bool) → b ≡ false → (a || b) ≡ a
  or_not true b is = refl
  or_not false b is = is

  -- a record that isn't of that rank
  ended-apart : (entry : Record) → (ranked == rank entry.grant) ≡ false → ended_at place now entry ≡ ended_at place before entry
  ended-apart entry apart =
      let same : list_any (λ q. q == rank entry.grant) now ≡ list_any (λ q. q == rank entry.grant) before =
      listed-more (rank entry.grant) ∙ or_not (list_any (λ q. q == rank entry.grant) before) (ranked == rank entry.grant) apart in
      rw same refl

  or_last : (a : Bool) → (a || true) ≡ true
  or_last true = refl
  or_last false = refl

  -- the record of that rank, without an end
  ended-here : (entry : Record) → (is_none entry.end && (ranked == rank entry.grant)) ≡ true → ended_at place now entry ≡ record { grant = entry.grant; end = Some place }
  ended-here entry is =
      let parts = and_parts (is_none entry.end) (ranked == rank entry.grant) is in
      let listed : list_any (λ q. q == rank entry.grant) now ≡ true =
      listed-more (rank entry.grant) ∙ ap (λ b. list_any (λ q. q == rank entry.grant) before || b) parts.1 ∙ or_last (list_any (λ q. q == rank entry.grant) before) in
      rw (parts.0, listed) refl

  abbrev with_end : Grant → Record
  with_end g = record { grant = g; end = Some place }

  ends_apart : (entries : List Record) → ((k : ℕ) (entry : Record) → slice_get entries k ≡ Some entry → (ranked == rank entry.grant) ≡ false)
      → map (ended_at place before) entries ≡ map (ended_at place now) entries
  ends_apart [] apart = refl
  ends_apart (x ∷ xs) apart =
      ap (λ (e : Record). e ∷ map (ended_at place before) xs) (sym (ended-apart x (apart 0 x refl)))
      ∙ ap (λ r. ended_at place now x ∷ r) (ends_apart xs (λ k entry at. apart (suc k) entry at))

  -- a record of that rank without an end, which no other is of, ends
  pub ends_one : (entries : List Record) (slot : ℕ) (found : Record) → slice_get entries slot ≡ Some found → (is_none found.end && (ranked == rank found.grant)) ≡ true
      → ((k : ℕ) (entry : Record) → slice_get entries k ≡ Some entry → k ≢ slot → (ranked == rank entry.grant) ≡ false)
      → end_slot (map (ended_at place before) entries) slot place ≡ map (ended_at place now) entries
  ends_one [] slot found at is others = refl
  ends_one (x ∷ xs) zero found at is others =
      let same : found ≡ x = cc in
      let here = ended-here x (subst (λ (e : Record). (is_none e.end && (ranked == rank e.grant)) ≡ true) same is) in
      let head : record { grant = (ended_at place before x).grant; end = Some place } ≡ ended_at place now x =
      ap (λ (g : Grant). with_end g) (same_grant place before x) ∙ sym here in
      ap (λ (e : Record). e ∷ map (ended_at place before) xs) head
      ∙ ap (λ r. ended_at place now x ∷ r) (ends_apart xs (λ k entry there. others (suc k) entry there (λ zero_is. absurd (omega arith))))
  ends_one (x ∷ xs) (suc slot) found at is others =
      let apart = ended-apart x (others 0 x refl (λ zero_is. absurd (omega arith))) in
      ap (λ (e : Record). e ∷ end_slot (map (ended_at place before) xs) slot place) (sym apart)
      ∙ ap (λ r. ended_at place now x ∷ r) (ends_one xs slot found at is (λ k entry there ne. others (suc k) entry there (λ same. ne (omega arith))))

-- the record of a slot as it was at a place
pub end_below-some : (place : ℕ) (end : Option ℕ) (q : ℕ) → end_below place end ≡ Some q → (end ≡ Some q) × (q < place)
end_below-some place None q is = absurd (cc)
end_below-some place (Some p) q is =
    elim (cases_lt p place) [
      | inl less ↦
          let some : Some p ≡ Some q = rw (lt-ltb p place less) at is in
          let one : p ≡ q = cc in
          (some, omega arith)
      | inr more ↦ let none : None ≡ Some q = rw (le-ltb p place more) at is in absurd (cc)
    ]

pub recorded-reopened : (place : ℕ) (entries : List Record) → recorded (map (reopened place) entries) ≡ recorded entries
recorded-reopened place [] = refl
recorded-reopened place (x ∷ xs) = ap (λ r. x.grant ∷ r) (recorded-reopened place xs)

-- the front of the records, as it was at a place, is the records that stood there
pub take-reopened : (place n : ℕ) (entries : List Record) → take n (map (reopened place) entries) ≡ map (reopened place) (take n entries)
take-reopened place zero entries = refl
take-reopened place (suc n) [] = refl
take-reopened place (suc n) (x ∷ xs) = ap (λ r. reopened place x ∷ r) (take-reopened place n xs)

-- where no ranks are given, nothing ends
pub ended_none : (place : ℕ) (entries : List Record) → entries ≡ map (ended_at place []) entries
ended_none place [] = refl
ended_none place (x ∷ xs) = ap (λ (e : Record). e ∷ xs) (by_cases (is_none x.end) (λ free. rw free refl) (λ over. rw over refl)) ∙ ap (λ r. ended_at place [] x ∷ r) (ended_none place xs)
