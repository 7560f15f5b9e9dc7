-- Versions that tell nothing are swept out, by the notes of the places where a row was absent.
use Rattle.std.proofs.Common.{◌≡◌, ℕ, suc, ◌+◌, ◌<◌, ◌≤◌, ℤ, Bool, true, false, ◌&&◌, cond, eqb, ltb, ◌⊎◌, inl, inr, Option, Some, None, List, [], ◌∷◌, ◌++◌, filter, fold, map, length, drop, get_or, refl, sym, ◌∙◌, ap, subst, arith, is_none}
use Rattle.std.specs.List.{AllByRecursion, list_any, position_or_len}
use Rattle.std.specs.Map.{keys_of, lookup}
use Rattle.std.specs.Prelude.{nat_lt, sum_by, swap_remove}
use Rattle.std.proofs.lemmas.Bool.{cond_both}
use Rattle.std.proofs.lemmas.Bool.Decides.{nat_tests}
use Rattle.std.proofs.lemmas.List.{append_assoc, get_or-map, length-append, length-map, map-append}
use Rattle.std.proofs.lemmas.List.Concat.{length-flat_map}
use Rattle.std.proofs.lemmas.List.Folds.{list_any-append}
use Rattle.std.proofs.lemmas.List.Sums.{fold-append, passes_at_first, sum_by-swap_remove}
use Rattle.indexmap.specs.IndexMap.{swap_remove_entry}
use Rattle.model_base.specs.declared.row.Key.{Key}
use Rattle.body.specs.RowMap.{key_eq}
use Rattle.chains.specs.declared.replaced.Dated.{Dated}
use Rattle.chains.specs.declared.replaced.Replaced.{Replaced}
use Rattle.chains.specs.declared.version.Version.{Version}
use Rattle.chains.specs.declared.writes.Written.{Written}
use Rattle.chains.specs.Keyed.{AreBacked, Held, held_in, replaced_of, replacing_write, version_at, versions_in, versions_of, without_first}
use Rattle.chains.specs.Kept.{AreLateNoted, AreNoted, AreWrittenInOrder, IsStoreKept, is_absent, is_noted, is_write_of, newest_is_noted, next_swept, replacing_of, written_by, written_to}
use Rattle.chains.specs.Store.{AreBetween, is_version_of, is_spent, newest_or, of_key, swept}
use Rattle.chains.proofs.Entries.{Entries, own-is}
use Rattle.chains.proofs.Keyed.{all-pass, key-is, of_key-first, of_key-other, newest-of_key}
use Rattle.chains.proofs.Order.{between-at, between-rising, rising-earlier, rising-to}
use Rattle.model_base.proofs.Replay.{by_cases}

-- what holds of each of some versions
pub all-weaker : {X : Type 0} (P Q : X → Type 0) → ((x : X) → P x → Q x) → (xs : List X) → AllByRecursion P xs → AllByRecursion Q xs
all-weaker P Q weaker [] each = tt
all-weaker P Q weaker (x ∷ xs) each = (weaker x each.0, all-weaker P Q weaker xs each.1)

pub all-append : {X : Type 0} (P : X → Type 0) (xs ys : List X) → AllByRecursion P xs → AllByRecursion P ys → AllByRecursion P (xs ++ ys)
all-append P [] ys each later = later
all-append P (x ∷ xs) ys each later = (each.0, all-append P xs ys each.1 later)

pub all-filter : {X : Type 0} (P : X → Type 0) (test : X → Bool) (xs : List X) → AllByRecursion P xs → AllByRecursion P (filter test xs)
all-filter P test [] each = tt
all-filter P test (x ∷ xs) each =
    let rest = all-filter P test xs each.1 in
    cond_both (test x) _ _ (AllByRecursion P) (λ hit. (each.0, rest)) (λ miss. rest)

-- a version that is noted stays so with more notes
noted-more : (notes more : List Written) (version : Version) → is_noted notes version ≡ true → is_noted (notes ++ more) version ≡ true
noted-more notes more version is = grind (arith, list_any-append (is_write_of version) notes more)

-- the newest is noted by other notes, where each is
newest-mono : (notes other : List Written) → ((version : Version) → is_noted notes version ≡ true → is_noted other version ≡ true)
    → (versions : List Version) (before after : Bool) → (before ≡ true → after ≡ true)
    → fold (λ row version. is_noted notes version) before versions ≡ true → fold (λ row version. is_noted other version) after versions ≡ true
newest-mono notes other each [] before after first is = first is
newest-mono notes other each (version ∷ versions) before after first is =
    newest-mono notes other each versions (is_noted notes version) (is_noted other version) (each version) is

-- where all are noted, the newest is
newest-all : (notes : List Written) (versions : List Version) → AllByRecursion (λ version. is_noted notes version ≡ true) versions
    → (before : Bool) → before ≡ true → fold (λ row version. is_noted notes version) before versions ≡ true
newest-all notes [] each before is = is
newest-all notes (version ∷ versions) each before is = newest-all notes versions each.1 (is_noted notes version) each.0

-- the versions in which the row is absent are noted by their writes
all-noted : (before : List Written) (versions : List Version)
    → AllByRecursion (λ version. is_noted (before ++ map written_by (filter is_absent versions)) version ≡ true) versions
all-noted before [] = tt
all-noted before (version ∷ versions) =
    let write = written_by version in
    let rest = map written_by (filter is_absent versions) in
    cond_both (is_absent version) _ _
    (λ (kept : List Version). AllByRecursion (λ version. is_noted (before ++ map written_by kept) version ≡ true) (version ∷ versions))
    (λ absent. (
      grind (arith, nat_tests, list_any-append (is_write_of version) before (write ∷ rest)),
      subst (λ notes. AllByRecursion (λ version. is_noted notes version ≡ true) versions) (append_assoc before (write ∷ []) rest)
          (all-noted (before ++ write ∷ []) versions),
    ))
    (λ present. (grind arith, all-noted before versions))

-- once some versions are put, and those in which the row is absent are noted: the newest of each key is noted, and the late ones
module _ (key : Key) (old cells new : List Version) (notes : List Written) (added : of_key key new ≡ of_key key old ++ of_key key cells) where
  abbrev all : List Written
  all = notes ++ map written_by (filter is_absent cells)

  all-cells : AllByRecursion (λ version. is_noted all version ≡ true) (of_key key cells)
  all-cells = all-filter (λ version. is_noted all version ≡ true) (is_version_of key) cells (all-noted notes cells)

  pub noted-put : newest_is_noted notes (of_key key old) ≡ true → newest_is_noted all (of_key key new) ≡ true
  noted-put is =
      ap (newest_is_noted all) added
      ∙ fold-append (λ row version. is_noted all version) true (of_key key old) (of_key key cells)
      ∙ newest-all all (of_key key cells) all-cells (newest_is_noted all (of_key key old))
      (newest-mono notes all (noted-more notes (map written_by (filter is_absent cells))) (of_key key old) true true (λ yes'. yes') is)

  pub late-put : (mark : ℕ) → AreLateNoted mark notes (of_key key old) → AreLateNoted mark all (of_key key new)
  late-put mark each =
      subst (AreLateNoted mark all) (sym added)
      (all-append _ (of_key key old) (of_key key cells)
      (all-weaker _ _ (λ version late. grind (arith, noted-more notes (map written_by (filter is_absent cells)) version)) (of_key key old) each)
      (all-weaker _ _ (λ version is. grind arith) (of_key key cells) all-cells))

-- the only version of a spent key
only : (mark : ℕ) (own : List Version) → is_spent mark own ≡ true → (version : Version) × (own ≡ version ∷ []) × (version.row ≡ None)
only mark [] spent = absurd (let no' : false ≡ true = spent in cc)
only mark (version ∷ []) spent = (version, refl, absent version.row (grind arith))
  where
    absent : (row : Option (List ℤ)) → is_none row ≡ true → row ≡ None
    absent None is = refl
    absent (Some row) is = cc
only mark (first ∷ second ∷ own) spent = absurd (let many : eqb (suc (suc (length own))) 1 ≡ false = grind (arith, nat_tests) in grind (arith, many))

-- what is left of the versions of one key: none where they are spent, or all
abbrev pub IsLeft : ℕ → List Version → List Version → Type 0
IsLeft mark own left = ((is_spent mark own ≡ true) × (left ≡ [])) ⊎ (left ≡ own)

by_left : (P : List Version → Type 0) (mark : ℕ) (own left : List Version) → IsLeft mark own left → (is_spent mark own ≡ true → P []) → P own → P left
by_left P mark own left (inl gone) spent stays = subst P (sym gone.1) (spent gone.0)
by_left P mark own left (inr same) spent stays = subst P (sym same) stays

module _ (mark : ℕ) (old new : Held) (left : (key : Key) → IsLeft mark (of_key key old.versions) (of_key key new.versions)) where
  -- what holds of the versions of a key, of none and of all
  of_left : (P : List Version → Type 0) (key : Key) → (is_spent mark (of_key key old.versions) ≡ true → P []) → P (of_key key old.versions)
      → P (of_key key new.versions)
  of_left P key = by_left P mark (of_key key old.versions) (of_key key new.versions) (left key)

  pub left-swept : (key : Key) → swept mark (of_key key new.versions) ≡ swept mark (of_key key old.versions)
  left-swept key = of_left (λ vs. swept mark vs ≡ swept mark (of_key key old.versions)) key (λ spent. rw spent refl) refl

  pub left-newest : (place : ℕ) (key : Key) → newest_or None new.versions place key ≡ newest_or None old.versions place key
  left-newest place key =
      newest-of_key None place key new.versions
      ∙ of_left (λ vs. newest_or None vs place key ≡ newest_or None (of_key key old.versions) place key) key
      (λ spent. let one = only mark (of_key key old.versions) spent in rw one.1 (grind (arith, one.2))) refl
      ∙ sym (newest-of_key None place key old.versions)

  pub left-kept : (absent : List Written) (end : ℕ) → new.replacing ≡ old.replacing → IsStoreKept old absent mark end
      → IsStoreKept new absent mark end
  left-kept absent end writes kept = record {
    within = kept.within;
    ordered = λ key. of_left (AreBetween 0 end) key (λ spent. omega arith) (kept.ordered key);
    replacing = λ key.
        ap (written_to key) writes
        ∙ of_left (λ vs. written_to key old.replacing ≡ replacing_of vs) key
        (λ spent. kept.replacing key ∙ ap replacing_of (only mark (of_key key old.versions) spent).1) (kept.replacing key);
    rising = subst (AreWrittenInOrder mark end) (sym writes) kept.rising;
    late = λ key. of_left (AreLateNoted mark absent) key (λ spent. tt) (kept.late key);
    falling = kept.falling;
  }

pub swept-is : (mark : ℕ) (own left : List Version) → left ≡ swept mark own → IsLeft mark own left
swept-is mark own left is = by_cases (is_spent mark own) (λ spent. inl (spent, rw spent at is)) (λ alive. inr (rw alive at is))

pub swept-alive : (mark : ℕ) (own : List Version) → is_spent mark (swept mark own) ≡ false
swept-alive mark own = cond_both (is_spent mark own) _ _ (λ vs. is_spent mark vs ≡ false) (λ spent. refl) (λ alive. alive)

-- the versions of a key, once those of a key are taken out where they are spent
pub next-left : (mark : ℕ) (versions : List Version) (gone key : Key) → IsLeft mark (of_key key versions) (of_key key (next_swept mark versions gone))
next-left mark versions gone key =
    cond_both (is_spent mark (of_key gone versions)) _ _ (λ vs. IsLeft mark (of_key key versions) (of_key key vs))
    (λ spent. by_cases (key_eq gone key)
    (λ same. subst (λ (k : Key). IsLeft mark (of_key k versions) (of_key k (without_first gone versions))) (key-is gone key same)
    (inl (spent, of_key-first gone versions ∙ ap (drop 1) (only mark (of_key gone versions) spent).1)))
    (λ differ. inr (of_key-other gone key versions differ)))
    (λ alive. inr refl)

next-alive : (mark : ℕ) (versions : List Version) (gone : Key) → is_spent mark (of_key gone (next_swept mark versions gone)) ≡ false
next-alive mark versions gone =
    cond_both (is_spent mark (of_key gone versions)) _ _ (λ vs. is_spent mark (of_key gone vs) ≡ false)
    (λ spent. ap (is_spent mark) (of_key-first gone versions ∙ ap (drop 1) (only mark (of_key gone versions) spent).1)) (λ alive. alive)

-- the newest version of a key that isn't spent is noted, where each of the mark or later is
late-each : (mark from end : ℕ) (notes : List Written) (versions : List Version) → mark ≤ from → AreBetween from end versions
    → AreLateNoted mark notes versions → AllByRecursion (λ version. is_noted notes version ≡ true) versions
late-each mark from end notes [] least between each = tt
late-each mark from end notes (version ∷ versions) least between each =
    let above : ltb version.place mark ≡ false = grind (arith, nat_tests, between.0) in
    (grind (arith, above, each.0), late-each mark version.place end notes versions (omega (arith, between.0)) between.2 each.1)

pub kept-noted : (mark end : ℕ) (held : Held) (absent : List Written) → IsStoreKept held absent mark end → (key : Key)
    → is_spent mark (of_key key held.versions) ≡ false → newest_is_noted absent (of_key key held.versions) ≡ true
kept-noted mark end held absent kept key alive =
    of_list (of_key key held.versions) (subst (AreWrittenInOrder mark end) (kept.replacing key) (rising-to key mark end held.replacing kept.rising))
    alive (kept.late key)
  where
    of_list : (own : List Version) → AreWrittenInOrder mark end (replacing_of own) → is_spent mark own ≡ false → AreLateNoted mark absent own
        → newest_is_noted absent own ≡ true
    of_list [] late alive each = refl
    of_list (version ∷ []) late alive each = grind (arith, each.0)
    of_list (first ∷ second ∷ more) late alive each =
        let all = late-each mark mark end absent (second ∷ more) (omega arith) (between-rising mark end (second ∷ more) late) each.1 in
        newest-all absent more all.1 (is_noted absent second) all.0

-- a note of a place below the mark may go
pub note-out : (mark end : ℕ) (held : Held) (write : Written) (later : List Written) → write.place < mark
    → IsStoreKept held (write ∷ later) mark end → IsStoreKept held later mark end
note-out mark end held write later less kept = record {
  within = kept.within;
  ordered = kept.ordered;
  replacing = kept.replacing;
  rising = kept.rising;
  late = λ key. all-weaker _ _ (λ version late. grind (arith, nat_tests)) (of_key key held.versions) (kept.late key);
  falling = rising-earlier 0 write.place end later kept.falling.0 kept.falling.2;
}

-- once the versions of the note's key are taken out where they are spent, the newest of each key is noted without it
pub next-noted : (mark end : ℕ) (old new : Held) (write : Written) (later : List Written)
    → ((key : Key) → of_key key new.versions ≡ of_key key (next_swept mark old.versions write.key))
    → IsStoreKept new later mark end → AreNoted old (write ∷ later) → AreNoted new later
next-noted mark end old new write later are kept noted = λ key.
    by_cases (is_spent mark (of_key key new.versions)) (λ spent. single key spent (only mark (of_key key new.versions) spent))
    (kept-noted mark end new later kept key)
  where
    single : (key : Key) → is_spent mark (of_key key new.versions) ≡ true
        → (version : Version) × (of_key key new.versions ≡ version ∷ []) × (version.row ≡ None)
        → newest_is_noted later (of_key key new.versions) ≡ true
    single key spent one =
        let own : is_version_of key one.0 ≡ true =
        (subst (AllByRecursion (λ version. is_version_of key version ≡ true)) one.1 (all-pass key new.versions)).0 in
        let before : newest_is_noted (write ∷ later) (of_key key new.versions) ≡ true =
        by_left (λ vs. newest_is_noted (write ∷ later) vs ≡ true) mark (of_key key old.versions) (of_key key new.versions)
        (subst (IsLeft mark (of_key key old.versions)) (sym (are key)) (next-left mark old.versions write.key key)) (λ spent. refl) (noted key) in
        let differ : key_eq write.key one.0.key ≡ false =
        by_cases (key_eq write.key one.0.key)
        (λ same. let alive : is_spent mark (of_key key new.versions) ≡ false =
        ap (is_spent mark) (are key)
        ∙ subst (λ (k : Key). is_spent mark (of_key k (next_swept mark old.versions write.key)) ≡ false)
        (key-is write.key one.0.key same ∙ key-is one.0.key key own) (next-alive mark old.versions write.key) in
        grind (arith, spent, alive))
        (λ differ. differ) in
        let is : is_noted (write ∷ later) one.0 ≡ true = subst (λ vs. newest_is_noted (write ∷ later) vs ≡ true) one.1 before in
        rw one.1 (grind (arith, differ, is))

-- no write from the mark on is of a version below it
none-late : (mark first end : ℕ) (version : Version) (writes : List Written) → AreWrittenInOrder first end writes → mark ≤ first
    → version.place < mark → list_any (is_write_of version) writes ≡ false
none-late mark first end version [] rising from less = refl
none-late mark first end version (write ∷ writes) rising from less =
    let differ : eqb write.place version.place ≡ false = grind (arith, nat_tests, rising.0) in
    grind (arith, differ, none-late mark write.place end version writes rising.2 (omega (arith, rising.0)) less)

-- once the notes are from the mark on, nothing is left to sweep
pub nothing-spent : (mark end : ℕ) (versions : List Version) (notes : List Written) → AreWrittenInOrder mark end notes
    → newest_is_noted notes versions ≡ true → swept mark versions ≡ versions
nothing-spent mark end [] notes rising is = refl
nothing-spent mark end (version ∷ []) notes rising is =
    by_cases (ltb version.place mark)
    (λ below. let less : version.place < mark = grind (arith, nat_tests) in
    grind (arith, is, none-late mark mark end version notes rising (omega arith) less))
    (λ above. rw above refl)
nothing-spent mark end (first ∷ second ∷ versions) notes rising is =
    let many : eqb (length (first ∷ second ∷ versions)) 1 ≡ false = grind (arith, nat_tests) in rw many refl

-- a key has a version: it is spent where its newest is below the mark and without a row, since a version that replaced another one isn't
-- below the mark
of-chain : (mark end : ℕ) (key : Key) (chain : List Dated) (newest : Dated)
    → AreWrittenInOrder mark end (replacing_of (map (version_at key) (chain ++ newest ∷ [])))
    → is_spent mark (map (version_at key) (chain ++ newest ∷ [])) ≡ (ltb newest.place mark && is_none newest.row)
of-chain mark end key [] newest rising = grind arith
of-chain mark end key (first ∷ chain) newest rising =
    let between = rw map-append at (between-rising mark end (map (version_at key) (chain ++ newest ∷ [])) rising) in
    let late = between-at mark end (map (version_at key) chain) (version_at key newest) [] between in
    let above : ltb newest.place mark ≡ false = grind (arith, nat_tests, late) in
    let long = length-map (chain ++ newest ∷ []) (version_at key) ∙ length-append chain (newest ∷ []) in
    let many : eqb (suc (length (map (version_at key) (chain ++ newest ∷ [])))) 1 ≡ false = grind (arith, nat_tests, long) in
    rw (many, above) refl

pub spent-found : (mark end : ℕ) (older : List Replaced) (entries : Entries) (absent : List Written) (key : Key) (newest : Dated)
    → IsStoreKept (held_in older entries) absent mark end → AreBacked older entries → lookup (key_eq key) entries ≡ Some newest
    → is_spent mark (of_key key (versions_in older entries)) ≡ (ltb newest.place mark && is_none newest.row)
spent-found mark end older entries absent key newest kept backed is =
    let own = own-is older key entries (Some newest) backed.distinct is in
    ap (is_spent mark) own
    ∙ of-chain mark end key (replaced_of key older) newest
    (subst (AreWrittenInOrder mark end) (kept.replacing key ∙ ap replacing_of own)
    (rising-to key mark end (map replacing_write older) kept.rising))

-- a spent key has an entry and no replaced version
single-chain : (mark : ℕ) (key : Key) (chain : List Dated) (newest : Dated)
    → is_spent mark (map (version_at key) (chain ++ newest ∷ [])) ≡ true → chain ≡ []
single-chain mark key [] newest spent = refl
single-chain mark key (first ∷ []) newest spent = let one = (only mark (version_at key first ∷ version_at key newest ∷ []) spent).1 in cc
single-chain mark key (first ∷ second ∷ chain) newest spent =
    let one = (only mark (map (version_at key) (first ∷ second ∷ chain ++ newest ∷ [])) spent).1 in cc

pub spent-alone : (mark : ℕ) (older : List Replaced) (entries : Entries) (key : Key) → AreBacked older entries
    → is_spent mark (of_key key (versions_in older entries)) ≡ true
    → (newest : Dated) × (lookup (key_eq key) entries ≡ Some newest) × (replaced_of key older ≡ [])
spent-alone mark older entries key backed spent = by_lookup (lookup (key_eq key) entries) refl
  where
    by_lookup : (one : Option Dated) → lookup (key_eq key) entries ≡ one
        → (newest : Dated) × (lookup (key_eq key) entries ≡ Some newest) × (replaced_of key older ≡ [])
    by_lookup None is = let no' : false ≡ true = sym (ap (is_spent mark) (own-is older key entries None backed.distinct is)) ∙ spent in cc
    by_lookup (Some newest) is =
        let own = own-is older key entries (Some newest) backed.distinct is in
        (newest, is, single-chain mark key (replaced_of key older) newest (sym (ap (is_spent mark) own) ∙ spent))

-- its entry is taken out: the versions of each key, and how many are left
pub swept-left : (mark : ℕ) (older : List Replaced) (entries new : Entries) (gone : Key) → AreBacked older entries → AreBacked older new
    → ((key : Key) → lookup (key_eq key) new ≡ cond (key_eq gone key) None (lookup (key_eq key) entries))
    → is_spent mark (of_key gone (versions_in older entries)) ≡ true
    → (key : Key) → of_key key (versions_in older new) ≡ of_key key (next_swept mark (versions_in older entries) gone)
swept-left mark older entries new gone backed also updates spent key =
    let versions = versions_in older entries in
    own-is older key new (cond (key_eq gone key) None (lookup (key_eq key) entries)) also.distinct (updates key)
    ∙ by_cases (key_eq gone key)
    (λ same. rw (same, spent) (sym (subst (λ (k : Key). of_key k (without_first gone versions) ≡ []) (key-is gone key same)
    (of_key-first gone versions ∙ ap (drop 1) (only mark (of_key gone versions) spent).1))))
    (λ differ. rw (differ, spent)
    (sym (of_key-other gone key versions differ ∙ own-is older key entries (lookup (key_eq key) entries) backed.distinct refl)))

pub swept-length : (older : List Replaced) (entries new : Entries) (key : Key) → replaced_of key older ≡ []
    → new ≡ swap_remove_entry (key_eq key) entries → length new + 1 ≡ length entries
    → length (versions_in older new) + 1 ≡ length (versions_in older entries)
swept-length older [] new key single is shorter = absurd (omega arith)
swept-length older (entry ∷ entries) new key single is shorter = by_cases (nat_lt at (length (keys_of all))) here (λ none. absurd (beyond none))
  where
    all : Entries
    all = entry ∷ entries

    at : ℕ
    at = position_or_len (key_eq key) (keys_of all)

    beyond : nat_lt at (length (keys_of all)) ≡ false → ⊥
    beyond none =
        let same = rw none at is in
        omega (arith, ap (λ (es : Entries). length es) same, shorter)

    here : nat_lt at (length (keys_of all)) ≡ true → length (versions_in older new) + 1 ≡ length (versions_in older all)
    here hit =
        let within : at < length (keys_of all) = grind (arith, nat_tests) in
        let inside : at < length all = omega (arith, within, length-map all (λ (e : Key × Dated). e.0)) in
        let counts = λ (e : Key × Dated). length (versions_of older e) in
        let taken = get_or all at entry in
        let passes : key_eq key taken.0 ≡ true =
        ap (key_eq key) (sym (get_or-map (λ (e : Key × Dated). e.0) all at entry entry.0 inside))
        ∙ passes_at_first (key_eq key) (keys_of all) entry.0 within in
        let none : replaced_of taken.0 older ≡ [] = subst (λ (k : Key). replaced_of k older ≡ []) (key-is key taken.0 passes) single in
        let one : counts taken ≡ 1 = simp none in
        let left : length (versions_in older new) ≡ sum_by counts (swap_remove all at entry) =
        ap (λ (es : Entries). length (versions_in older es)) (rw hit at is) ∙ length-flat_map (versions_of older) (swap_remove all at entry) in
        omega (arith, one, sum_by-swap_remove counts all at entry inside, left, length-flat_map (versions_of older) all)
