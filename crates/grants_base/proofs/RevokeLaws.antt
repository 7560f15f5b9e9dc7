-- A book with some grants ended.
use Rattle.std.proofs.Common.{◌≡◌, ℕ, ◌<◌, ◌≤◌, ◌+◌, ◌&&◌, zero, suc, true, List, [], ◌∷◌, ◌++◌, Option, Some, None, is_none, length, map, take, drop, set as put, get_or, add-one, refl, sym, ◌∙◌, ap, arith}
use Rattle.std.specs.Prelude.{All, IfSome, slice_get}
use Rattle.std.proofs.lemmas.Bool.{le-ltb, and_parts, true≢false}
use Rattle.std.proofs.lemmas.List.{map-append}
use Rattle.std.proofs.lemmas.List.Elements.{All-head, All-tail, All-push, All-map, All-weaker}
use Rattle.model_base.specs.declared.deed.Record.{Record}
use Rattle.model_base.specs.declared.deed.Revocation.{Revocation}
use Rattle.model_base.specs.declared.deed.Deed.{Deed}
use Rattle.model_base.specs.declared.deed.Deed.TheVariants.{Revoking}
use Rattle.model_base.specs.Ranks.{rank}
use Rattle.model_base.specs.Privileges.{ended_by, place_of}
use Rattle.model_base.specs.Records.{cut, ended_at, recorded}
use Rattle.model_base.proofs.Replay.{by_cases}
use Rattle.model_base.proofs.Places.{proper-one}
use Rattle.model_base.proofs.Records.{is_listed, records-revoke}
use Rattle.model_base.proofs.Recorded.{All-both}
use Rattle.grants_base.specs.View.{AreAuthorised}
use Rattle.grants_base.specs.Index.{is_one_of}
use Rattle.grants_base.specs.Book.{Entries, IsCreatedBelow, IsLater, IsSoundBook, ShowsBook, owners_of, table_of_deed, with_ends}

none_is : (end : Option ℕ) → is_none end ≡ true → end ≡ None
none_is None is = refl
none_is (Some q) is = absurd (true≢false (sym is))

module _ (place : ℕ) (ended : List ℕ) where
  -- the grant of a record stays
  pub same_grant : (entry : Record) → (ended_at place ended entry).grant ≡ entry.grant
  same_grant entry =
      by_cases (is_none entry.end && is_listed (rank entry.grant) ended) (λ falls. rw falls refl) (λ stays. rw stays refl)

  recorded-ended : (entries : List Record) → recorded (map (ended_at place ended) entries) ≡ recorded entries
  recorded-ended [] = refl
  recorded-ended (entry ∷ entries) = rw (same_grant entry, recorded-ended entries) refl

  -- at a place up to that of the ends they don't count
  pub cut-ended : (low : ℕ) → low ≤ place → (entries : List Record) → cut low (map (ended_at place ended) entries) ≡ cut low entries
  cut-ended low le [] = refl
  cut-ended low le (entry ∷ entries) =
      let rest = cut-ended low le entries in
      by_cases (is_none entry.end && is_listed (rank entry.grant) ended)
      (λ falls.
      let none = none_is entry.end (and_parts (is_none entry.end) (is_listed (rank entry.grant) ended) falls).0 in
      rw (falls, le-ltb place low le, none, rest) refl)
      (λ stays. rw (stays, rest) refl)

  ends_above : (entry : Record) → (entry.grant.place < place) × IfSome entry.end (λ end. entry.grant.place < end)
      → IfSome (ended_at place ended entry).end (λ end. (ended_at place ended entry).grant.place < end)
  ends_above entry both =
      by_cases (is_none entry.end && is_listed (rank entry.grant) ended) (λ falls. rw falls both.0) (λ stays. rw stays both.1)

  authorised-ended : (owner : ℕ → Option ℕ) (before later : List Record) → All (λ (entry : Record). entry.grant.place < place) later
      → AreAuthorised owner before later → AreAuthorised owner (map (ended_at place ended) before) (map (ended_at place ended) later)
  authorised-ended owner before [] below authorised = tt
  authorised-ended owner before (entry ∷ later) below authorised =
      let under : Record → Type 0 = λ (e : Record). e.grant.place < place in
      let less : entry.grant.place < place = All-head under entry later below in
      let le : entry.grant.place ≤ place = omega arith in
      let rest = authorised-ended owner (before ++ entry ∷ []) later (All-tail under entry later below) authorised.1 in (
        rw (same_grant entry, cut-ended entry.grant.place le before) authorised.0,
        rw (map-append (ended_at place ended) before (entry ∷ [])) at rest,
      )

pub sound_revoke : (book : Entries) (place : ℕ) (ended : List ℕ) → IsSoundBook book → IsLater book place → IsSoundBook (with_ends book place ended)
sound_revoke book place ended sound later = record {
  few = sound.few;
  tables = sound.tables;
  rising = rw (recorded-ended place ended book.records) sound.rising;
  ends =
      let Below : Record → Type 0 = λ (entry : Record). entry.grant.place < place in
      let Above : Record → Type 0 = λ (entry : Record). IfSome entry.end (λ end. entry.grant.place < end) in
      All-map Above (ended_at place ended) book.records
      (All-weaker (λ (entry : Record). Below entry × Above entry) (λ (entry : Record). Above (ended_at place ended entry))
      (λ entry both. ends_above place ended entry both) book.records (All-both Below Above book.records later.grants sound.ends));
  created =
      let Created : Record → Type 0 = λ (entry : Record). IsCreatedBelow entry.grant.place (slice_get book.tables entry.grant.table) in
      All-map Created (ended_at place ended) book.records
      (All-weaker Created (λ (entry : Record). Created (ended_at place ended entry)) (λ entry created. rw (same_grant place ended entry) created) book.records sound.created);
  authorised = authorised-ended place ended (slice_get (owners_of book.tables)) [] book.records later.grants sound.authorised;
}

-- ranks that are the same, in whatever order, end the same
ended-same : (place : ℕ) (first second : List ℕ) → ((q : ℕ) → is_one_of first q ≡ is_one_of second q) → (entries : List Record)
    → map (ended_at place first) entries ≡ map (ended_at place second) entries
ended-same place first second same [] = refl
ended-same place first second same (entry ∷ entries) =
    rw (same (rank entry.grant), ended-same place first second same entries) refl

pub shows_revoke : (book : Entries) (owners : List ℕ) (deeds : List Deed) (revocation : Revocation) → revocation.table < length book.tables
    → ShowsBook book owners deeds → All (λ deed. place_of deed < revocation.place) deeds
    → ShowsBook (with_ends book revocation.place (ended_by owners deeds revocation)) owners (deeds ++ Revoking revocation ∷ [])
shows_revoke book owners deeds revocation within shows below = record {
  more = shows.more;
  begins = shows.begins;
  proper = proper-one owners [] deeds (Revoking revocation) shows.proper below;
  told = All-push (λ deed. table_of_deed deed < length book.tables) deeds (Revoking revocation) shows.told within;
  same = ap (map (ended_at revocation.place (ended_by owners deeds revocation))) shows.same ∙ sym (records-revoke owners deeds revocation);
}

map_step-suc : {X : Type 0} (f : X → X) (xs : List X) (i : ℕ) (x : X) → x ≡ get_or (map f (take i xs) ++ drop i xs) i x
    → put (map f (take i xs) ++ drop i xs) i (f x) ≡ map f (take (suc i) xs) ++ drop (suc i) xs
map_step-suc f [] zero x is = refl
map_step-suc f [] (suc i) x is = refl
map_step-suc f (y ∷ ys) zero x is = ap (λ z. f z ∷ ys) is
map_step-suc f (y ∷ ys) (suc i) x is = ap (λ r. f y ∷ r) (map_step-suc f ys i x is)

-- a list whose elements are replaced in turn
pub map_step : {X : Type 0} (f : X → X) (xs : List X) (i : ℕ) (x : X) (now : List X) (next : X) → now ≡ map f (take i xs) ++ drop i xs
    → x ≡ get_or now i x → next ≡ f x → put now i next ≡ map f (take (i + 1) xs) ++ drop (i + 1) xs
map_step f xs i x now next so_far is gives =
    ap (λ y. put now i y) gives ∙ ap (λ ys. put ys i (f x)) so_far ∙ map_step-suc f xs i x (is ∙ ap (λ ys. get_or ys i x) so_far)
    ∙ ap (λ k. map f (take k xs) ++ drop k xs) (sym (add-one i))

-- so it is with the book that a value shows
pub sound_revoked : (inside book : Entries) (place : ℕ) (ended : List ℕ) (now : List Record) → inside ≡ book → IsSoundBook inside → IsLater book place
    → now ≡ map (ended_at place ended) inside.records → IsSoundBook (record { tables = inside.tables; records = now })
sound_revoked inside book place ended now same sound later is =
    rw is (sound_revoke inside place ended sound (rw same later))

pub ended_book : (inside book : Entries) (place : ℕ) (set ended : List ℕ) (now : List Record) → inside ≡ book
    → now ≡ map (ended_at place set) inside.records → ((q : ℕ) → is_one_of set q ≡ is_one_of ended q)
    → record { tables = inside.tables; records = now } ≡ with_ends book place ended
ended_book inside book place set ended now same is members =
    rw (is, same, ended-same place set ended members book.records) refl
