-- The queue of replaced versions, without those that were replaced below a mark.
use Rattle.std.proofs.Common.{◌≡◌, ℕ, suc, ◌+◌, ◌-◌, ◌<◌, ◌≤◌, ℤ, true, not, ltb, Option, Some, None, List, [], ◌∷◌, ◌++◌, drop, filter, map, length, refl, sym, ◌∙◌, ap, subst, arith}
use Rattle.std.proofs.Math.Seq.{drop-append_seam}
use Rattle.std.specs.List.{AllByRecursion}
use Rattle.std.specs.Map.{lookup}
use Rattle.std.proofs.lemmas.Bool.Decides.{nat_tests}
use Rattle.std.proofs.lemmas.List.{append_assoc, length-append, map-append}
use Rattle.std.proofs.lemmas.List.Elements.{filter-append}
use Rattle.std.proofs.lemmas.List.Sums.{fold-append}
use Rattle.model_base.specs.declared.row.Key.{Key}
use Rattle.body.specs.RowMap.{key_eq}
use Rattle.body.proofs.Rows.{same_key-own}
use Rattle.chains.specs.declared.replaced.Dated.{Dated}
use Rattle.chains.specs.declared.replaced.Replaced.{Replaced}
use Rattle.chains.specs.declared.version.Version.{Version}
use Rattle.chains.specs.declared.writes.Written.{Written}
use Rattle.chains.specs.Keyed.{AreBacked, Held, held_in, replaced_of, replacing_write, version_at, versions_in}
use Rattle.chains.specs.Kept.{AreLateNoted, AreNoted, AreWrittenBelow, AreWrittenInOrder, IsFrom, IsStoreKept, is_noted, newest_is_noted, replacing_of, written_by, written_to}
use Rattle.chains.specs.Store.{AreBetween, is_version_of, newest_alone, newest_or, of_key, trimmed}
use Rattle.chains.proofs.Entries.{stands, Entries, Found, around, backed-behind, found, has-newest, none-both, own-is, own_of, replaced-behind}
use Rattle.chains.proofs.Keyed.{newest-of_key, stepped, all-pass}
use Rattle.chains.proofs.Order.{between-at, between-earlier, between-rising, high-all, low-none, rising-earlier, rising-from, rising-to}
use Rattle.chains.proofs.Sweeping.{all-filter, all-weaker}
use Rattle.model_base.proofs.Replay.{by_cases}

-- what is left of the versions of a key: all, or those after some of them, where the first that is left is below the mark
data IsBehind (mark : ℕ) (key : Key) : List Version → List Version → Type 0 where
  all : {own : List Version} → IsBehind mark key own own
  behind : (front : List Version) (first : Version) (more : List Version) → first.place < mark → is_version_of key first ≡ true
      → IsBehind mark key (front ++ first ∷ more) (first ∷ more)

behind-newest : (mark : ℕ) (key : Key) (own left : List Version) → IsBehind mark key own left → (place : ℕ) → mark ≤ place
    → newest_or None left place key ≡ newest_or None own place key
behind-newest mark key own left all place late = refl
behind-newest mark key own left (behind front first more less of) place late =
    hides None ∙ sym (fold-append (stepped place key) None front (first ∷ more) ∙ hides (newest_or None front place key))
  where
    hides : (row : Option (List ℤ)) → newest_or row (first ∷ more) place key ≡ newest_or first.row more place key
    hides row = let seen : ltb first.place place ≡ true = grind (arith, nat_tests) in rw (seen, of) refl

behind-noted : (mark : ℕ) (key : Key) (own left : List Version) → IsBehind mark key own left → (notes : List Written)
    → newest_is_noted notes left ≡ newest_is_noted notes own
behind-noted mark key own left all notes = refl
behind-noted mark key own left (behind front first more less of) notes =
    sym (fold-append (λ before version. is_noted notes version) true front (first ∷ more))

-- what holds of some versions and, without the first of them, of the others
behind-holds : (P : List Version → Type 0) → ((version : Version) (versions : List Version) → P (version ∷ versions) → P versions)
    → (mark : ℕ) (key : Key) (own left : List Version) → IsBehind mark key own left → P own → P left
behind-holds P next mark key own left all holds = holds
behind-holds P next mark key own left (behind front first more less of) holds = past front holds
  where
    past : (front : List Version) → P (front ++ first ∷ more) → P (first ∷ more)
    past [] holds = holds
    past (version ∷ front) holds = past front (next version (front ++ first ∷ more) holds)

-- where only the oldest is below the mark, all are kept
trimmed-whole : (mark end : ℕ) (versions : List Version) → AreBetween mark end (drop 1 versions) → trimmed mark versions ≡ versions
trimmed-whole mark end [] late = refl
trimmed-whole mark end (version ∷ versions) late =
    let low = low-none mark mark end versions (omega arith) late in
    let high = high-all mark mark end versions (omega arith) late in
    by_cases (ltb version.place mark) (λ hit. rw (hit, low, high) refl) (λ miss. rw (miss, low, high) refl)

-- of versions in order, the last of which is below the mark, all are
below-front : (mark from end : ℕ) (front : List Version) (version : Version) (more : List Version) → AreBetween from end (front ++ version ∷ more)
    → version.place < mark
    → (filter (λ (v : Version). ltb v.place mark) front ≡ front) × (filter (λ (v : Version). not (ltb v.place mark)) front ≡ [])
below-front mark from end [] version more between less = (refl, refl)
below-front mark from end (first ∷ front) version more between less =
    let rest = below-front mark first.place end front version more between.2 less in
    let before : first.place ≤ version.place = between-at first.place end front version more between.2 in
    let hit : ltb first.place mark ≡ true = grind (arith, nat_tests) in
    (rw (hit, rest.0) refl, rw (hit, rest.1) refl)

newest-last : (front : List Version) (version : Version) → newest_alone (front ++ version ∷ []) ≡ version ∷ []
newest-last front version =
    let long : length (front ++ version ∷ []) - 1 ≡ length front = omega (arith, length-append front (version ∷ [])) in
    ap (λ n. drop n (front ++ version ∷ [])) long ∙ drop-append_seam front (version ∷ [])

behind-trimmed : (mark end : ℕ) (key : Key) (own left : List Version) → IsBehind mark key own left → AreBetween 0 end own
    → AreBetween mark end (drop 1 left) → left ≡ trimmed mark own
behind-trimmed mark end key own left all ordered late = sym (trimmed-whole mark end left late)
behind-trimmed mark end key own left (behind front first more less of) ordered late =
    let parts = below-front mark 0 end front first more ordered less in
    let hit : ltb first.place mark ≡ true = grind (arith, nat_tests) in
    let low = low-none mark mark end more (omega arith) late in
    let high = high-all mark mark end more (omega arith) late in
    simp (filter-append, parts.0, parts.1, hit, low, high, newest-last)

-- the versions of a key that the first of the queue are of, and their writes
own-behind : (taken rest : List Replaced) (entries : Entries) (key : Key) → AreBacked (taken ++ rest) entries
    → of_key key (versions_in (taken ++ rest) entries) ≡ map (version_at key) (replaced_of key taken) ++ of_key key (versions_in rest entries)
own-behind taken rest entries key backed =
    let one = lookup (key_eq key) entries in
    own-is (taken ++ rest) key entries one backed.distinct refl
    ∙ parted one refl
    ∙ sym (ap (λ vs. map (version_at key) (replaced_of key taken) ++ vs) (own-is rest key entries one backed.distinct refl))
  where
    parted : (one : Option Dated) → lookup (key_eq key) entries ≡ one
        → own_of (taken ++ rest) key one ≡ map (version_at key) (replaced_of key taken) ++ own_of rest key one
    parted None is =
        rw (none-both (replaced_of key taken) (replaced_of key rest) (sym (replaced-behind key taken rest) ∙ backed.backed key is)).0 refl
    parted (Some dated) is = simp (filter-append, map-append, append_assoc)

as-many : (key : Key) (taken : List Replaced)
    → length (written_to key (map replacing_write taken)) ≡ length (map (version_at key) (replaced_of key taken))
as-many key [] = refl
as-many key (one ∷ taken) =
    by_cases (key_eq one.key key) (λ hit. simp (hit, as-many key taken)) (λ miss. simp (miss, as-many key taken))

-- where the writes of all versions but the oldest are some below the mark, as many as there are versions in front, and others
parts : (mark : ℕ) (front left : List Version) (taken later : List Written) → length taken ≡ suc (length front)
    → taken ++ later ≡ map written_by (front ++ left) → AreWrittenBelow mark taken
    → (first : Version) × (more : List Version) × (left ≡ first ∷ more) × (first.place < mark) × (later ≡ map written_by more)
parts mark front left [] later long is each = absurd (omega (arith, long))
parts mark [] [] (write ∷ taken) later long is each = cc
parts mark [] (first ∷ more) (write ∷ []) later long is each =
    let one : write ≡ written_by first = cc in
    let rest : later ≡ map written_by more = cc in
    (first, more, refl, subst (λ (w : Written). w.place < mark) one each.0, rest)
parts mark [] left (write ∷ other ∷ taken) later long is each = absurd (omega (arith, long))
parts mark (version ∷ front) left (write ∷ taken) later long is each =
    let rest : taken ++ later ≡ map written_by (front ++ left) = cc in
    parts mark front left taken later (omega (arith, long)) rest each.1

is-behind : (mark : ℕ) (front left versions : List Version) (key : Key) (taken later : List Written) → left ≡ of_key key versions
    → length taken ≡ length front → taken ++ later ≡ replacing_of (front ++ left) → AreWrittenBelow mark taken
    → IsBehind mark key (front ++ left) left × (later ≡ replacing_of left)
is-behind mark [] left versions key [] later of long is each = (all, is)
is-behind mark [] left versions key (write ∷ taken) later of long is each = absurd (omega (arith, long))
is-behind mark (version ∷ front) left versions key taken later of long is each =
    let at = parts mark front left taken later long is each in
    let own = (subst (AllByRecursion (λ version. is_version_of key version ≡ true)) (sym of ∙ at.2) (all-pass key versions)).0 in (
      subst (λ left. IsBehind mark key (version ∷ front ++ left) left) (sym at.2) (behind (version ∷ front) at.0 at.1 at.3 own),
      at.4 ∙ sym (ap replacing_of at.2),
    )

-- how many versions go
one-gone : (one : Replaced) (older : List Replaced) (newest : Dated) (entries : Entries) → Found one.key newest entries
    → length (versions_in (one ∷ older) entries) ≡ suc (length (versions_in older entries))
one-gone one older newest entries (stands before after front back) =
    let early = versions_in older before in
    let rest = map (version_at one.key) (replaced_of one.key older ++ newest ∷ []) ++ versions_in older after in
    let more : versions_in (one ∷ older) (before ++ (one.key, newest) ∷ after) ≡ early ++ version_at one.key one.version ∷ rest =
    around older (one ∷ older) one.key newest before after front back (λ k differ. simp differ) ∙ (simp same_key-own) in
    let left = around older older one.key newest before after front back (λ k differ. refl) in
    let long = λ (vs : List Version). length vs in
    omega (arith, ap long more, ap long left, length-append early rest, length-append early (version_at one.key one.version ∷ rest))

all-gone : (taken rest : List Replaced) (entries : Entries) → AreBacked (taken ++ rest) entries
    → length taken + length (versions_in rest entries) ≡ length (versions_in (taken ++ rest) entries)
all-gone [] rest entries backed = omega arith
all-gone (one ∷ taken) rest entries backed =
    let has = has-newest one.key entries (λ none. let no' = rw same_key-own at (backed.backed one.key none) in cc) in
    let others = all-gone taken rest entries (backed-behind (one ∷ []) (taken ++ rest) entries backed) in
    omega (arith, others, one-gone one (taken ++ rest) has.0 entries (found one.key has.0 entries backed.distinct has.1))

-- the queue without those that were replaced below the mark
pub record IsTrimmed (mark : ℕ) (old new : Held) (count : ℕ) : Type 0 where
  pub left : (key : Key) → of_key key new.versions ≡ trimmed mark (of_key key old.versions)
  pub newest : (place : ℕ) (key : Key) → mark ≤ place → newest_or None new.versions place key ≡ newest_or None old.versions place key
  pub kept : (absent : List Written) (first end : ℕ) → IsStoreKept old absent first end → first ≤ mark → mark ≤ end → IsStoreKept new absent mark end
  pub noted : (absent : List Written) → AreNoted old absent → AreNoted new absent
  pub gone : count + length new.versions ≡ length old.versions

pub trimmed-all : (mark : ℕ) (taken rest : List Replaced) (entries : Entries) (absent : List Written) (first end : ℕ)
    → AreBacked (taken ++ rest) entries → AreWrittenBelow mark (map replacing_write taken) → IsFrom mark (map replacing_write rest) → mark ≤ end
    → IsStoreKept (held_in (taken ++ rest) entries) absent first end
    → IsTrimmed mark (held_in (taken ++ rest) entries) (held_in rest entries) (length taken)
trimmed-all mark taken rest entries absent first end backed each from within kept = record {
  left = λ key.
      behind-trimmed mark end key (of_key key old.versions) (of_key key new.versions) (left key) (kept.ordered key)
      (between-rising mark end (drop 1 (of_key key new.versions))
      (subst (AreWrittenInOrder mark end) (both key).1 (rising-to key mark end new.replacing (rising first end kept within))));
  newest = λ place key late.
      newest-of_key None place key new.versions
      ∙ behind-newest mark key (of_key key old.versions) (of_key key new.versions) (left key) place late
      ∙ sym (newest-of_key None place key old.versions);
  kept = λ absent first end kept further within. record {
    within = within;
    ordered = λ key.
        behind-holds (AreBetween 0 end) (λ version versions between. between-earlier 0 version.place end versions (omega arith) between.2)
        mark key (of_key key old.versions) (of_key key new.versions) (left key) (kept.ordered key);
    replacing = λ key. (both key).1;
    rising = rising first end kept within;
    late = λ key.
        all-weaker _ _ (λ version late. grind (arith, nat_tests)) (of_key key new.versions)
        (behind-holds (AreLateNoted first absent) (λ version versions each. each.1)
        mark key (of_key key old.versions) (of_key key new.versions) (left key) (kept.late key));
    falling = kept.falling;
  };
  noted = λ absent noted key. behind-noted mark key (of_key key old.versions) (of_key key new.versions) (left key) absent ∙ noted key;
  gone = all-gone taken rest entries backed;
}
  where
    old : Held
    old = held_in (taken ++ rest) entries

    new : Held
    new = held_in rest entries

    both : (key : Key) → IsBehind mark key (map (version_at key) (replaced_of key taken) ++ of_key key new.versions) (of_key key new.versions)
        × (written_to key new.replacing ≡ replacing_of (of_key key new.versions))
    both key =
        is-behind mark (map (version_at key) (replaced_of key taken)) (of_key key new.versions) new.versions key
        (written_to key (map replacing_write taken)) (written_to key new.replacing) refl (as-many key taken)
        (sym (ap (written_to key) (map-append replacing_write taken rest) ∙ filter-append _ (map replacing_write taken) new.replacing)
        ∙ kept.replacing key ∙ ap replacing_of (own-behind taken rest entries key backed))
        (all-filter (λ (write : Written). write.place < mark) _ (map replacing_write taken) each)

    left : (key : Key) → IsBehind mark key (of_key key old.versions) (of_key key new.versions)
    left key = subst (λ own. IsBehind mark key own (of_key key new.versions)) (sym (own-behind taken rest entries key backed)) (both key).0

    rising-behind : (first end : ℕ) (front writes : List Written) → AreWrittenInOrder first end (front ++ writes) → AreWrittenInOrder first end writes
    rising-behind first end [] writes rising = rising
    rising-behind first end (write ∷ front) writes rising =
        rising-earlier first write.place end writes rising.0 (rising-behind write.place end front writes rising.2)

    rising : (first end : ℕ) {absent : List Written} → IsStoreKept old absent first end → mark ≤ end → AreWrittenInOrder mark end new.replacing
    rising first end kept within =
        rising-from mark first end new.replacing from within
        (rising-behind first end (map replacing_write taken) new.replacing
        (subst (AreWrittenInOrder first end) (map-append replacing_write taken rest) kept.rising))
