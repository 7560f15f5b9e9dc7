-- Versions of a place and of later ones are taken out: first those that replaced another one, then the others.
use Rattle.std.proofs.Common.{cond, ◌≡◌, ℕ, ◌<◌, ◌≤◌, true, false, ltb, List, [], ◌∷◌, ◌++◌, filter, map, refl, sym, ◌∙◌, ap, subst, arith}
use Rattle.std.proofs.lemmas.Bool.Decides.{nat_tests}
use Rattle.std.proofs.lemmas.List.{append-nil}
use Rattle.std.proofs.lemmas.List.Elements.{filter-append}
use Rattle.model_base.specs.declared.row.Key.{Key}
use Rattle.body.specs.RowMap.{key_eq}
use Rattle.body.proofs.Rows.{same_key-own}
use Rattle.chains.specs.declared.replaced.Replaced.{Replaced}
use Rattle.chains.specs.declared.version.Version.{Version}
use Rattle.chains.specs.declared.writes.Written.{Written}
use Rattle.chains.specs.Keyed.{Held, held_below, replacing_write, without_last}
use Rattle.chains.specs.Kept.{AreChained, AreWrittenBelow, AreWrittenInOrder, replacing_of, written_by, written_to}
use Rattle.chains.specs.Store.{AreBetween, is_version_of, of_key}
use Rattle.chains.proofs.Entries.{none-both}
use Rattle.chains.proofs.Keyed.{key-is, last-out}
use Rattle.chains.proofs.Order.{between-earlier, between-start, rising-start}
use Rattle.model_base.proofs.Replay.{by_cases}

abbrev pub low : ℕ → List Version → List Version
low first versions = filter (λ (version : Version). ltb version.place first) versions

abbrev pub low_writes : ℕ → List Written → List Written
low_writes first writes = filter (λ (write : Written). ltb write.place first) writes

-- the last of some items, by the last of what they are mapped to
map-last : {X Y : Type 0} (f : X → Y) (ys : List Y) (y : Y) (xs : List X) → ys ++ y ∷ [] ≡ map f xs
    → (init : List X) × (last : X) × (xs ≡ init ++ last ∷ []) × (ys ≡ map f init) × (y ≡ f last)
map-last f [] y [] is = cc
map-last f [] y (x ∷ []) is = let same : y ≡ f x = cc in ([], x, refl, refl, same)
map-last f [] y (x ∷ other ∷ xs) is = cc
map-last f (first ∷ ys) y [] is = cc
map-last f (first ∷ ys) y (x ∷ xs) is =
    let head : first ≡ f x = cc in
    let tail : ys ++ y ∷ [] ≡ map f xs = cc in
    let rest = map-last f ys y xs tail in
    (x ∷ rest.0, rest.1, ap (λ vs. x ∷ vs) rest.2, (λ i. head i ∷ rest.3 i), rest.4)

-- writes in order, of which the last is below a place, all are
pub all-below : (first from end : ℕ) (writes : List Written) → AreWrittenInOrder from end writes
    → ((earlier : List Written) (last : Written) → writes ≡ earlier ++ last ∷ [] → last.place < first) → AreWrittenBelow first writes
all-below first from end [] rising last = tt
all-below first from end (write ∷ []) rising last = (last [] write refl, tt)
all-below first from end (write ∷ other ∷ writes) rising last =
    let rest : AreWrittenBelow first (other ∷ writes) =
    all-below first write.place end (other ∷ writes) rising.2 (λ earlier one is. last (write ∷ earlier) one (ap (λ ws. write ∷ ws) is)) in
    (omega (arith, rising.2.0, rest.0), rest)

rising-below : (from end : ℕ) (writes : List Written) → AreWrittenInOrder from end writes → AreWrittenBelow end writes
rising-below from end [] rising = tt
rising-below from end (write ∷ writes) rising = (rising.1, rising-below write.place end writes rising.2)

pub below-kept : (first : ℕ) (writes : List Written) → AreWrittenBelow first writes → low_writes first writes ≡ writes
below-kept first [] each = refl
below-kept first (write ∷ writes) each =
    let hit : ltb write.place first ≡ true = grind (arith, nat_tests, each.0) in simp (hit, below-kept first writes each.1)

-- a write that isn't below the place is none of those below it
pub last-not-low : (first : ℕ) (writes : List Written) (write : Written) → first ≤ write.place
    → low_writes first writes ≡ low_writes first (writes ++ write ∷ [])
last-not-low first writes write least = let miss : ltb write.place first ≡ false = grind (arith, nat_tests) in simp (filter-append, miss, append-nil)

-- where the last version of a key stands, after the others of the key
data Last (key : Key) (version : Version) : List Version → List Version → Type 0 where
  ends : (front back : List Version) → is_version_of key version ≡ true → of_key key back ≡ []
      → Last key version (of_key key front) (front ++ version ∷ back)

last-behind : (key : Key) (version first : Version) (init versions : List Version) → Last key version init versions
    → Last key version (cond (is_version_of key first) (first ∷ init) init) (first ∷ versions)
last-behind key version first init versions (ends front back own none) = ends (first ∷ front) back own none

split : (key : Key) (version : Version) (versions init : List Version) → of_key key versions ≡ init ++ version ∷ [] → Last key version init versions
split key version [] [] is = cc
split key version [] (other ∷ init) is = cc
split key version (first ∷ versions) init is =
    by_cases (is_version_of key first) (λ hit. here hit init (split key version versions) (rw hit at is))
    (λ miss. rw miss at (last-behind key version first init versions (split key version versions init (rw miss at is))))
  where
    here : is_version_of key first ≡ true → (init : List Version)
        → ((init : List Version) → of_key key versions ≡ init ++ version ∷ [] → Last key version init versions)
        → first ∷ of_key key versions ≡ init ++ version ∷ [] → Last key version init (first ∷ versions)
    here hit [] splits is =
        let same : version ≡ first = cc in
        let none : of_key key versions ≡ [] = cc in
        subst (λ one. Last key version [] (one ∷ versions)) same (ends [] versions (subst (λ one. is_version_of key one ≡ true) (sym same) hit) none)
    here hit (one ∷ init) splits is =
        let same : first ≡ one = cc in
        let later : of_key key versions ≡ init ++ version ∷ [] = cc in
        let rest = last-behind key version first init versions (splits init later) in
        subst (λ one. Last key version (one ∷ init) (first ∷ versions)) same (rw hit at rest)

-- without it: the key's versions, those of another key, and what is below a place
record IsOut (key : Key) (version : Version) (init versions left : List Version) : Type 0 where
  own : of_key key left ≡ init
  other : (other : Key) → key_eq key other ≡ false → of_key other left ≡ of_key other versions
  below : (first : ℕ) → first ≤ version.place → low first left ≡ low first versions

is-out : (key : Key) (version : Version) (init versions : List Version) → Last key version init versions
    → IsOut key version init versions (without_last key versions)
is-out key version init versions (ends front back own none) =
    rw (last-out key front version back own none)
    (record {
      own = simp (filter-append, none, append-nil);
      other = λ other differ.
          let miss : is_version_of other version ≡ false = ap (λ (k : Key). key_eq k other) (key-is version.key key own) ∙ differ in
          simp (filter-append, miss);
      below = λ first least. let miss : ltb version.place first ≡ false = grind (arith, nat_tests) in simp (filter-append, miss);
    })

-- a write that replaced a version is last: its key's versions, and the last of them
record Newest (held : Held) (writes : List Written) (write : Written) : Type 0 where
  init : List Version
  last : Version
  is : of_key write.key held.versions ≡ init ++ last ∷ []
  written : write ≡ written_by last
  earlier : written_to write.key writes ≡ replacing_of init

newest : (held : Held) (writes : List Written) (write : Written) (end : ℕ) → held.replacing ≡ writes ++ write ∷ [] → AreChained held end
    → Newest held writes write
newest held writes write end replacing chained = by_list (of_key write.key held.versions) refl (sym whole ∙ chained.replacing write.key)
  where
    whole : written_to write.key held.replacing ≡ written_to write.key writes ++ write ∷ []
    whole = ap (written_to write.key) replacing ∙ (simp (filter-append, same_key-own))

    by_list : (own : List Version) → of_key write.key held.versions ≡ own → written_to write.key writes ++ write ∷ [] ≡ replacing_of own
        → Newest held writes write
    by_list [] is all = let no' = (none-both (written_to write.key writes) (write ∷ []) all).1 in cc
    by_list (first ∷ versions) is all =
        let at = map-last written_by (written_to write.key writes) write versions all in
        record { init = first ∷ at.0; last = at.1; is = is ∙ ap (λ vs. first ∷ vs) at.2; written = at.4; earlier = at.3 }

-- what stays when it is taken out
pub record IsCut (first : ℕ) (old new : Held) : Type 0 where
  pub below : held_below first new ≡ held_below first old
  pub chained : (end : ℕ) → AreChained old end → AreChained new end

pub last-cut : (first : ℕ) (old new : Held) (write : Written) (end : ℕ) → first ≤ write.place → old.replacing ≡ new.replacing ++ write ∷ []
    → new.versions ≡ without_last write.key old.versions → AreChained old end → IsCut first old new
last-cut first old new write end least replacing versions chained = record {
  below =
      let versions_below = out.below first (subst (λ (w : Written). first ≤ w.place) at.written least) in
      let writes_below = last-not-low first new.replacing write least ∙ ap (low_writes first) (sym replacing) in
      λ i. record { versions = versions_below i; replacing = writes_below i };
  chained = λ end chained. record {
    ordered = λ key.
        by_cases (key_eq write.key key)
        (λ same. subst (λ (k : Key). AreBetween 0 end (of_key k new.versions)) (key-is write.key key same) (subst (AreBetween 0 end) (sym out.own)
        (between-start 0 end at.init (at.last ∷ []) (subst (AreBetween 0 end) at.is (chained.ordered write.key)))))
        (λ differ. subst (AreBetween 0 end) (sym (out.other key differ)) (chained.ordered key));
    replacing = λ key.
        by_cases (key_eq write.key key)
        (λ same. subst (λ (k : Key). written_to k new.replacing ≡ replacing_of (of_key k new.versions)) (key-is write.key key same)
        (at.earlier ∙ ap replacing_of (sym out.own)))
        (λ differ. let as_was : written_to key old.replacing ≡ written_to key new.replacing =
        ap (written_to key) replacing ∙ (simp (filter-append, differ, append-nil)) in
        sym as_was ∙ chained.replacing key ∙ ap replacing_of (sym (out.other key differ)));
    rising = rising-start 0 end new.replacing (write ∷ []) (subst (AreWrittenInOrder 0 end) replacing chained.rising);
  };
}
  where
    at : Newest old new.replacing write
    at = newest old new.replacing write end replacing chained

    out : IsOut write.key at.last at.init old.versions new.versions
    out = subst (IsOut write.key at.last at.init old.versions) (sym versions) (is-out _ _ _ _ (split write.key at.last old.versions at.init at.is))

-- what is below a place anyway
low-all : (first : ℕ) (versions : List Version) → ((key : Key) → AreBetween 0 first (of_key key versions)) → low first versions ≡ versions
low-all first [] ordered = refl
low-all first (version ∷ versions) ordered =
    let own = rw same_key-own at (ordered version.key) in
    let hit : ltb version.place first ≡ true = grind (arith, nat_tests, own.1) in
    simp (hit, low-all first versions rest)
  where
    rest : (key : Key) → AreBetween 0 first (of_key key versions)
    rest key =
        by_cases (is_version_of key version)
        (λ hit. let between = rw hit at (ordered key) in between-earlier 0 version.place first (of_key key versions) between.0 between.2)
        (λ miss. rw miss at (ordered key))

pub whole-below : (first : ℕ) (held : Held) → AreChained held first → held_below first held ≡ held
whole-below first held chained =
    let versions = low-all first held.versions chained.ordered in
    let writes = below-kept first held.replacing (rising-below 0 first held.replacing chained.rising) in
    λ i. record { versions = versions i; replacing = writes i }

-- the last write of the queue is that of its last version
pub last-write : (older : List Replaced) (first : ℕ) → ((earlier : List Replaced) (last : Replaced) → older ≡ earlier ++ last ∷ [] → last.by < first)
    → (earlier : List Written) (last : Written) → map replacing_write older ≡ earlier ++ last ∷ [] → last.place < first
last-write older first below earlier last is =
    let at = map-last replacing_write earlier last older (sym is) in
    subst (λ (write : Written). write.place < first) (sym at.4) (below at.0 at.1 at.2)
