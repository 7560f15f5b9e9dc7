-- A store that goes one place on, with versions of that place or without, and one that is cut.
use Rattle.std.proofs.Common.{is_some, cond, drop, Some, ◌≡◌, ℕ, zero, suc, ◌+◌, ◌<◌, ◌≤◌, ℤ, Bool, true, false, ◌||◌, not, ltb, is_none, Option, None, List, [], ◌∷◌, ◌++◌, filter, get_or, map, length, take, refl, sym, ◌∙◌, ap, subst, arith}
use Rattle.std.proofs.lemmas.Bool.{cond_both, not-false, not-true}
use Rattle.std.proofs.lemmas.Bool.Decides.{nat_tests}
use Rattle.std.proofs.lemmas.List.{append-nil, append_assoc, map-append, take-append-drop}
use Rattle.std.proofs.lemmas.List.Elements.{filter-append}
use Rattle.std.proofs.lemmas.Map.Views.{any-filter_same}
use Rattle.model_base.specs.declared.row.Key.{Key}
use Rattle.model_base.specs.declared.statement.Access.{Access}
use Rattle.model_base.specs.Versions.{is_writing}
use Rattle.body.specs.RowMap.{key_eq}
use Rattle.chains.specs.declared.version.Version.{Version}
use Rattle.chains.specs.declared.writes.Written.{Written}
use Rattle.chains.specs.Keyed.{Held, held_below}
use Rattle.chains.specs.Kept.{written_to, AreChained, AreLateNoted, AreNoted, AreWrittenInOrder, IsStoreKept, is_absent, is_noted, is_write_of, newest_is_noted, replacing_after, replacing_of, written_by}
use Rattle.chains.specs.Store.{AreBetween, is_version_of, of_key, versions_by}
use Rattle.chains.proofs.Cutting.{low, low_writes}
use Rattle.chains.proofs.Keyed.{key-is}
use Rattle.chains.proofs.Order.{between-append, between-bound, between-filter, between-later, between-rising, between-snoc, between-start, low-none, rising-append, rising-earlier, rising-later, rising-skip, rising-snoc, rising-start, rising-versions, rising-earlier}
use Rattle.chains.proofs.Sweeping.{late-put, noted-put}
use Rattle.model_base.proofs.Replay.{by_cases}

-- the notes after a version was put
abbrev pub noted : Bool → List Written → Version → List Written
noted others writes version = cond others (writes ++ written_by version ∷ []) writes

-- the writes to a key stay those of its versions that replaced an older one
pub put-replacing : (old new : Held) (version : Version) → ((key : Key) → of_key key new.versions ≡ of_key key (old.versions ++ version ∷ []))
    → new.replacing ≡ replacing_after old version
    → (key : Key) → written_to key old.replacing ≡ replacing_of (of_key key old.versions)
    → written_to key new.replacing ≡ replacing_of (of_key key new.versions)
put-replacing old new version added writes key replacing =
    ap (written_to key) writes ∙ by_cases (is_version_of key version) own other
  where
    own : is_version_of key version ≡ true → written_to key (replacing_after old version) ≡ replacing_of (of_key key new.versions)
    own hit =
        let longer : of_key key new.versions ≡ of_key key old.versions ++ version ∷ [] = added key ∙ (simp (filter-append, hit)) in
        let asked = ap (λ (k : Key). ltb 0 (length (of_key k old.versions))) (key-is version.key key hit) in
        ap (λ b. written_to key (noted b old.replacing version)) asked
        ∙ by_list (of_key key old.versions) replacing
        ∙ sym (ap replacing_of longer)
      where
        by_list : (was : List Version) → written_to key old.replacing ≡ replacing_of was
            → written_to key (noted (ltb 0 (length was)) old.replacing version) ≡ replacing_of (was ++ version ∷ [])
        by_list [] is = is
        by_list (first ∷ later) is =
            let some : ltb 0 (suc (length later)) ≡ true = grind (arith, nat_tests) in
            rw some (simp (filter-append, hit, is) (sym (map-append written_by later (version ∷ []))))

    other : is_version_of key version ≡ false → written_to key (replacing_after old version) ≡ replacing_of (of_key key new.versions)
    other miss =
        let same : of_key key new.versions ≡ of_key key old.versions = added key ∙ (simp (filter-append, miss, append-nil)) in
        cond_both (ltb 0 (length (of_key version.key old.versions))) _ _ (λ ws. written_to key ws ≡ written_to key old.replacing)
        (λ some. simp (filter-append, miss, append-nil)) (λ none. refl)
        ∙ replacing
        ∙ sym (ap replacing_of same)

pub noted-rising : (first end : ℕ) (writes : List Written) (version : Version) (more : List Written) (others : Bool)
    → AreWrittenInOrder first end (writes ++ written_by version ∷ more) → AreWrittenInOrder first end (noted others writes version ++ more)
noted-rising first end writes version more true rising = rw append_assoc rising
noted-rising first end writes version more false rising = rising-skip first end writes (written_by version) more rising

-- the notes after one version more, of those in which the row is absent
pub noted-absent : (old : List Written) (done : List Version) (version : Version) (asked : Bool) → asked ≡ is_absent version
    → noted asked (old ++ map written_by (filter is_absent done)) version ≡ old ++ map written_by (filter is_absent (done ++ version ∷ []))
noted-absent old done version asked is =
    rw is
    (by_cases (is_absent version) (λ gone. simp (gone, filter-append, map-append, append_assoc)) (λ there. simp (there, filter-append, append-nil)))

-- a row is absent where it isn't there
pub none-asked : (row : Option (List ℤ)) (asked : Bool) → is_some row ≡ not asked → asked ≡ is_none row
none-asked None asked is = not-false asked (sym is)
none-asked (Some row) asked is = not-true asked (sym is)

-- the versions and the writes, once the first of some versions are put
pub chained-so-far : (old new : Held) (first end : ℕ) (versions : List Version) (count : ℕ) → AreChained old first → AreBetween first end versions
    → ((key : Key) → of_key key new.versions ≡ of_key key (old.versions ++ take count versions))
    → ((key : Key) → written_to key new.replacing ≡ replacing_of (of_key key new.versions))
    → ((from end : ℕ) → AreWrittenInOrder from end (old.replacing ++ map written_by versions)
    → AreWrittenInOrder from end (new.replacing ++ map written_by (drop count versions)))
    → AreChained new end
chained-so-far old new first end versions count chained between added replacing rising = record {
  ordered = λ key.
      let start = between-start first end (take count versions) (drop count versions) (rw (take-append-drop count versions) between) in
      subst (AreBetween 0 end) (sym (added key ∙ filter-append (is_version_of key) old.versions (take count versions)))
      (between-append 0 first end (of_key key old.versions) (of_key key (take count versions)) (chained.ordered key)
      (between-filter (is_version_of key) first end (take count versions) start));
  replacing = replacing;
  rising =
      rising-start 0 end new.replacing (map written_by (drop count versions))
      (rising 0 end (rising-append 0 first end old.replacing versions chained.rising between));
}

-- the end may be a later one
pub passed : {held : Held} {absent : List Written} {mark end : ℕ} → IsStoreKept held absent mark end → IsStoreKept held absent mark (end + 1)
passed {held} {absent} {mark} {end} kept = record {
  within = omega (arith, kept.within);
  ordered = λ key. between-later 0 end (end + 1) (of_key key held.versions) (omega arith) (kept.ordered key);
  replacing = kept.replacing;
  rising = rising-later mark end (end + 1) held.replacing (omega arith) kept.rising;
  late = kept.late;
  falling = rising-later 0 end (end + 1) absent (omega arith) kept.falling;
}

-- one version more, of the place before the end
written-noted : (first end : ℕ) (asked : Bool) (writes : List Written) (version : Version) → first ≤ version.place → version.place + 1 ≡ end
    → AreWrittenInOrder first end writes → AreWrittenInOrder first end (noted asked writes version)
written-noted first end asked writes version least last rising =
    cond_both asked _ _ (AreWrittenInOrder first end) (λ some. rising-snoc first end writes (written_by version) least last rising) (λ none. rising)

one-note : (asked : Bool) (absent : List Written) (version : Version) → asked ≡ is_absent version
    → noted asked absent version ≡ absent ++ map written_by (filter is_absent (version ∷ []))
one-note asked absent version is = rw is (by_cases (is_absent version) (λ gone. simp gone) (λ there. simp (there, append-nil)))

module _ (old new : Held) (absent : List Written) (mark end : ℕ) (version : Version) (asked : Bool) (is : asked ≡ is_absent version)
    (added : (key : Key) → of_key key new.versions ≡ of_key key (old.versions ++ version ∷ [])) (kept : IsStoreKept old absent mark end) where
  parts : (key : Key) → of_key key new.versions ≡ of_key key old.versions ++ of_key key (version ∷ [])
  parts key = added key ∙ filter-append (is_version_of key) old.versions (version ∷ [])

  pub put-kept : mark ≤ version.place → version.place + 1 ≡ end → new.replacing ≡ replacing_after old version
      → IsStoreKept new (noted asked absent version) mark end
  put-kept least last writes = record {
    within = kept.within;
    ordered = λ key.
        subst (AreBetween 0 end) (sym (parts key))
        (cond_both (is_version_of key version) _ _ (λ vs. AreBetween 0 end (of_key key old.versions ++ vs))
        (λ hit. between-snoc 0 end (of_key key old.versions) version (omega arith) last (kept.ordered key))
        (λ miss. rw append-nil (kept.ordered key)));
    replacing = λ key. put-replacing old new version added writes key (kept.replacing key);
    rising =
        subst (AreWrittenInOrder mark end) (sym writes)
        (written-noted mark end (ltb 0 (length (of_key version.key old.versions))) old.replacing version least last kept.rising);
    late = λ key.
        subst (λ (notes : List Written). AreLateNoted mark notes (of_key key new.versions)) (sym (one-note asked absent version is))
        (late-put key old.versions (version ∷ []) new.versions absent (parts key) mark (kept.late key));
    falling = written-noted 0 end asked absent version (omega arith) last kept.falling;
  }

  pub put-noted : AreNoted old absent → AreNoted new (noted asked absent version)
  put-noted are = λ key.
      ap (λ (notes : List Written). newest_is_noted notes (of_key key new.versions)) (one-note asked absent version is)
      ∙ noted-put key old.versions (version ∷ []) new.versions absent (parts key) (are key)

-- versions after the end
pub append-kept : (old new : Held) (absent : List Written) (mark end new_end : ℕ) (cells : List Version)
    → ((key : Key) → of_key key new.versions ≡ of_key key (old.versions ++ cells)) → AreBetween end new_end cells
    → ((key : Key) → written_to key new.replacing ≡ replacing_of (of_key key new.versions)) → AreWrittenInOrder mark new_end new.replacing
    → IsStoreKept old absent mark end → IsStoreKept new (absent ++ map written_by (filter is_absent cells)) mark new_end
append-kept old new absent mark end new_end cells added more replacing rising kept = record {
  within = omega (arith, kept.within, between-bound end new_end cells more);
  ordered = λ key.
      subst (AreBetween 0 new_end) (sym (parted key))
      (between-append 0 end new_end (of_key key old.versions) (of_key key cells) (kept.ordered key)
      (between-filter (is_version_of key) end new_end cells more));
  replacing = replacing;
  rising = rising;
  late = λ key. late-put key old.versions cells new.versions absent (parted key) mark (kept.late key);
  falling = rising-append 0 end new_end absent (filter is_absent cells) kept.falling (between-filter is_absent end new_end cells more);
}
  where
    parted : (key : Key) → of_key key new.versions ≡ of_key key old.versions ++ of_key key cells
    parted key = added key ∙ filter-append (is_version_of key) old.versions cells

-- the versions of a place, by its accesses
pub by-between : (place : ℕ) (accesses : List Access) (rows : List (Option (List ℤ))) → AreBetween place (place + 1) (versions_by place accesses rows)
by-between place [] rows = omega arith
by-between place (access ∷ accesses) [] = omega arith
by-between place (access ∷ accesses) (row ∷ rows) =
    let rest = by-between place accesses rows in
    cond_both (is_writing access) _ _ (AreBetween place (place + 1)) (λ writes. (omega arith, omega arith, rest)) (λ reads. rest)

pub by-more : (place : ℕ) (accesses : List Access) (rows : List (Option (List ℤ))) (index : ℕ) (access : Access) (row : Option (List ℤ))
    → index < length accesses → length accesses ≤ length rows → get_or accesses index access ≡ access → get_or rows index row ≡ row
    → versions_by place (take (index + 1) accesses) rows ≡ versions_by place (take index accesses) rows ++ versions_by place (access ∷ []) (row ∷ [])
by-more place [] rows index access row within fits is shows = absurd (omega arith)
by-more place (first ∷ accesses) [] index access row within fits is shows = absurd (omega arith)
by-more place (first ∷ accesses) (cell ∷ rows) zero access row within fits is shows =
    λ i. versions_by place (is i ∷ []) (shows i ∷ [])
by-more place (first ∷ accesses) (cell ∷ rows) (suc index) access row within fits is shows =
    let rest = by-more place accesses rows index access row (omega arith) (omega arith) is shows in
    let one : suc index + 1 ≡ suc (index + 1) = omega arith in
    rw one (by_cases (is_writing first) (λ writes. simp (writes, rest)) (λ reads. simp (reads, rest)))

-- the writes of the versions below a place
low-map : (first : ℕ) (versions : List Version) → low_writes first (map written_by versions) ≡ map written_by (low first versions)
low-map first [] = refl
low-map first (version ∷ versions) =
    by_cases (ltb version.place first) (λ hit. simp (hit, low-map first versions)) (λ miss. simp (miss, low-map first versions))

-- what is below a place, of writes and of versions in order
rising-low : (first from end : ℕ) (writes : List Written) → from ≤ first → AreWrittenInOrder from end writes
    → AreWrittenInOrder from first (low_writes first writes)
rising-low first from end [] least rising = least
rising-low first from end (write ∷ writes) least rising =
    by_cases (ltb write.place first)
    (λ hit. let less : write.place < first = grind (arith, nat_tests) in
    rw hit (rising.0, less, rising-low first write.place end writes (omega arith) rising.2))
    (λ miss. let late : first ≤ write.place = grind (arith, nat_tests) in
    rw (miss, none first write.place end writes late rising.2) least)
  where
    none : (first from end : ℕ) (writes : List Written) → first ≤ from → AreWrittenInOrder from end writes → low_writes first writes ≡ []
    none first from end [] least rising = refl
    none first from end (write ∷ writes) least rising =
        let miss : ltb write.place first ≡ false = grind (arith, nat_tests, rising.0) in
        rw miss (none first write.place end writes (omega (arith, rising.0)) rising.2)

between-low : (first from end : ℕ) (versions : List Version) → from ≤ first → AreBetween from end versions
    → AreBetween from first (low first versions)
between-low first from end versions least between =
    between-rising from first (low first versions)
    (subst (AreWrittenInOrder from first) (low-map first versions)
    (rising-low first from end (map written_by versions) least (rising-versions from end versions between)))

-- two filters in either order
filters : {X : Type 0} (p q : X → Bool) (xs : List X) → filter p (filter q xs) ≡ filter q (filter p xs)
filters p q [] = refl
filters p q (x ∷ xs) = grind (arith, filters p q xs)

low-replacing : (first end : ℕ) (own : List Version) → AreBetween 0 end own → low_writes first (replacing_of own) ≡ replacing_of (low first own)
low-replacing first end [] between = refl
low-replacing first end (version ∷ versions) between =
    low-map first versions
    ∙ by_cases (ltb version.place first) (λ hit. rw hit refl)
    (λ miss. let late : first ≤ version.place = grind (arith, nat_tests) in rw (miss, low-none first version.place end versions late between.2) refl)

noted-low : (first : ℕ) (version : Version) (notes : List Written) → version.place < first
    → is_noted (low_writes first notes) version ≡ is_noted notes version
noted-low first version notes less =
    ap (λ b. not (is_none version.row) || b)
    (any-filter_same (is_write_of version) (λ (write : Written). ltb write.place first) true (λ write own. grind (arith, nat_tests)) notes)

late-low : (first mark : ℕ) (notes : List Written) (versions : List Version) → AreLateNoted mark notes versions
    → AreLateNoted mark (low_writes first notes) (low first versions)
late-low first mark notes [] each = tt
late-low first mark notes (version ∷ versions) each =
    let rest = late-low first mark notes versions each.1 in
    cond_both (ltb version.place first) _ _ (AreLateNoted mark (low_writes first notes))
    (λ hit. (rw (noted-low first version notes (grind (arith, nat_tests))) each.0, rest)) (λ miss. rest)

pub cut-kept : {held : Held} {absent : List Written} {mark end : ℕ} (first : ℕ) → mark ≤ first → IsStoreKept held absent mark end
    → IsStoreKept (held_below first held) (low_writes first absent) mark first
cut-kept {held} {absent} {mark} {end} first least kept = record {
  within = least;
  ordered = λ key. subst (AreBetween 0 first) (sym (own key)) (between-low first 0 end (of_key key held.versions) (omega arith) (kept.ordered key));
  replacing = λ key.
      filters (λ (write : Written). key_eq write.key key) (λ (write : Written). ltb write.place first) held.replacing
      ∙ ap (low_writes first) (kept.replacing key)
      ∙ low-replacing first end (of_key key held.versions) (kept.ordered key)
      ∙ ap replacing_of (sym (own key));
  rising = rising-low first mark end held.replacing least kept.rising;
  late = λ key.
      subst (AreLateNoted mark (low_writes first absent)) (sym (own key)) (late-low first mark absent (of_key key held.versions) (kept.late key));
  falling = rising-low first 0 end absent (omega arith) kept.falling;
}
  where
    own : (key : Key) → of_key key (low first held.versions) ≡ low first (of_key key held.versions)
    own key = filters (is_version_of key) (λ (version : Version). ltb version.place first) held.versions

pub kept-chained : {held : Held} {absent : List Written} {mark end : ℕ} → IsStoreKept held absent mark end → AreChained held end
kept-chained {held} {absent} {mark} {end} kept = record {
  ordered = kept.ordered;
  replacing = kept.replacing;
  rising = rising-earlier 0 mark end held.replacing (omega arith) kept.rising;
}
