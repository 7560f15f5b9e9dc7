-- What a book says of the deeds that it shows, and that what there is to show of a need is sound.
use Rattle.std.proofs.Common.{◌≡◌, ℕ, zero, suc, ◌<◌, ◌++◌, ◌&&◌, not, Bool, true, false, List, [], ◌∷◌, Option, Some, None, length, get_or, refl, sym, ◌∙◌, ap, arith}
use Rattle.std.specs.Prelude.{◌==◌, Contains, Decides, slice_get}
use Rattle.std.specs.Option.{option_map_or}
use Rattle.std.proofs.lemmas.Bool.{and_parts, true≢false}
use Rattle.std.proofs.lemmas.List.{length-map}
use Rattle.std.proofs.lemmas.List.Elements.{All-contains_itself}
use Rattle.std.proofs.lemmas.Option.{slice_get-get_or}
use Rattle.model_base.specs.declared.deed.Cause.{Cause}
use Rattle.model_base.specs.declared.deed.Cause.TheVariants.{Never, Taken}
use Rattle.model_base.specs.declared.deed.Deed.{Deed}
use Rattle.model_base.specs.declared.deed.Grant.{Grant}
use Rattle.model_base.specs.declared.deed.Need.{Need}
use Rattle.model_base.specs.declared.deed.Record.{Record}
use Rattle.model_base.specs.Laws.{IsRising}
use Rattle.model_base.specs.Paths.{LeadsTo, path}
use Rattle.model_base.specs.Privileges.{IsProper, deeds_below, kept, owns}
use Rattle.model_base.specs.Records.{cut, grants_of, holds_by, in_force, last_loss_by, records}
use Rattle.model_base.proofs.Cuts.{deeds_below-proper, records-below}
use Rattle.model_base.proofs.Losses.{cause-records, holds_by-cut}
use Rattle.model_base.proofs.Parts.{part-all}
use Rattle.model_base.proofs.Paths.{leads-path, part-path}
use Rattle.model_base.proofs.Places.{IsRising-kept}
use Rattle.model_base.proofs.Records.{in_force-records}
use Rattle.model_base.proofs.Replay.{by_cases}
use Rattle.grants_base.specs.Book.{Entries, ShowsBook, owners_of, view_of}
use Rattle.grants_base.specs.View.{entries}
use Rattle.grants_base.specs.declared.entries.Creation.{Creation}
use Rattle.grants.proofs.BookLaws.{get_more}
use Rattle.grants.proofs.Passing.{owns_owner}
use Rattle.grants.proofs.SeenLaws.{entries-view}
use Rattle.explain.specs.Lines.{HaveOneGrantor, IsChain, IsSound, cause_before, holds_before, kept_before, path_before, ranks_of, shown_lost, shown_of}
use Rattle.explain.specs.Steps.{bears_path, grant_at, in_force_at}
use Rattle.explain.proofs.Leading.{chain_decided}
use Rattle.explain.proofs.RisingPlaces.{one-below, rises-along}

-- the grants in force before a place are those of the records, cut there
pub kept_at : (book : Entries) (owners : List ℕ) (deeds : List Deed) (place : ℕ) → ShowsBook book owners deeds
    → in_force_at place book.records ≡ kept_before owners deeds place
kept_at book owners deeds place shows =
    ap (λ (all : List Record). in_force (cut place all)) shows.same
    ∙ ap in_force (sym (records-below owners place deeds shows.proper))
    ∙ in_force-records owners (deeds_below place deeds) (deeds_below-proper owners place deeds shows.proper)

-- their ranks rise
pub kept-rise : (owners : List ℕ) (deeds : List Deed) (place : ℕ) → IsProper owners deeds → IsRising (kept_before owners deeds place)
kept-rise owners deeds place proper = IsRising-kept owners (deeds_below place deeds) (deeds_below-proper owners place deeds proper)

-- the owners begin with those of the book's tables
owner_same : (xs more : List ℕ) (i : ℕ) → i < length xs → slice_get (xs ++ more) i ≡ slice_get xs i
owner_same xs more i less = get_more xs more i (get_or xs i 0) (slice_get-get_or xs i 0 less) ∙ sym (slice_get-get_or xs i 0 less)

pub owner_at : (book : Entries) (owners : List ℕ) (deeds : List Deed) (table : ℕ) → ShowsBook book owners deeds → table < length book.tables
    → slice_get owners table ≡ slice_get (owners_of book.tables) table
owner_at book owners deeds table shows less =
    let within : table < length (owners_of book.tables) = omega (arith, length-map book.tables (λ (creation : Creation). creation.owner)) in
    ap (λ owned. slice_get owned table) shows.begins ∙ owner_same (owners_of book.tables) shows.more table within

-- so they tell who owns a table
pub owns_at : (book : Entries) (owners : List ℕ) (deeds : List Deed) (user table owner : ℕ) → ShowsBook book owners deeds → table < length book.tables
    → slice_get (owners_of book.tables) table ≡ Some owner → owns owners user table ≡ (owner == user)
owns_at book owners deeds user table owner shows less is = owns_owner owners user table owner (owner_at book owners deeds table shows less ∙ is)

-- the path by a view of the book is that before its place
pub path_shown : (book : Entries) (owners : List ℕ) (deeds : List Deed) (place user : ℕ) (need : Need) → ShowsBook book owners deeds
    → ranks_of (path owners (in_force (entries (view_of book place))) user need) ≡ path_before owners deeds place user need
path_shown book owners deeds place user need shows =
    ap (λ (grants : List Grant). ranks_of (path owners grants user need)) (ap in_force (entries-view book place) ∙ kept_at book owners deeds place shows)

-- the test of a chain decides whether it is one before a place
pub chain_at : (book : Entries) (owners : List ℕ) (deeds : List Deed) (place user owner : ℕ) (need : Need) (ranked : ℕ) (later : List ℕ) → ShowsBook book owners deeds
    → need.table < length book.tables → slice_get (owners_of book.tables) need.table ≡ Some owner
    → Decides (bears_path (in_force_at place book.records) owner user need later (grant_at ranked (in_force_at place book.records)))
    (IsChain owners (kept_before owners deeds place) user need (ranked ∷ later))
chain_at book owners deeds place user owner need ranked later shows less is =
    let same = kept_at book owners deeds place shows in
    let owned : slice_get owners need.table ≡ Some owner = owner_at book owners deeds need.table shows less ∙ is in
    rw same (chain_decided owners (kept_before owners deeds place) user owner need ranked later owned (kept-rise owners deeds place shows.proper))

pub chain_told : (book : Entries) (owners : List ℕ) (deeds : List Deed) (place user owner : ℕ) (need : Need) (ranked : ℕ) (later ranks : List ℕ) (all : List Record) (test : Bool)
    → ShowsBook book owners deeds → need.table < length book.tables → slice_get (owners_of book.tables) need.table ≡ Some owner
    → ranks ≡ ranked ∷ later → all ≡ book.records
    → test ≡ bears_path (in_force_at place all) owner user need later (grant_at ranked (in_force_at place all))
    → Decides test (IsChain owners (kept_before owners deeds place) user need ranks)
chain_told book owners deeds place user owner need ranked later ranks all test shows less is split same told =
    rw (split, told, same) (chain_at book owners deeds place user owner need ranked later shows less is)

-- a path of grants that isn't empty is a chain
path-chain : (owners : List ℕ) (deeds : List Deed) (place user : ℕ) (need : Need) → IsProper owners deeds → HaveOneGrantor (grants_of deeds)
    → owns owners user need.table ≡ false → holds_before owners deeds place user need ≡ true
    → IsChain owners (kept_before owners deeds place) user need (path_before owners deeds place user need)
path-chain owners deeds place user need proper one other held =
    let below = deeds_below place deeds in
    let way = path owners (kept owners below) user need in
    let leads = leads-path owners below user need held in
    record {
      chain = way;
      told = refl;
      some = some way leads;
      rising = rises-along owners below user need (deeds_below-proper owners place deeds proper) (one-below place deeds one);
      among = part-all (Contains (kept owners below)) (part-path owners (kept owners below) user need) (All-contains_itself (kept owners below));
      leads = leads;
    }
  where
    some : (chain : List Grant) → LeadsTo owners chain user need → 0 < length (ranks_of chain)
    some [] leads = absurd (true≢false (sym leads ∙ other))
    some (first ∷ chain) leads = omega arith

-- what was lost last at a place was held before it
lost-held : (owners : List ℕ) (entries : List Record) (user : ℕ) (need : Need) (place lost : ℕ) → last_loss_by owners entries user need place ≡ Some lost
    → holds_by owners (cut lost entries) user need ≡ true
lost-held owners entries user need zero lost is = absurd (cc)
lost-held owners entries user need (suc place) lost is =
    by_cases (holds_by owners (cut place entries) user need && not (holds_by owners (cut (suc place) entries) user need))
    (λ here.
    let found : Some place ≡ Some lost = rw here at is in
    let same : place ≡ lost = cc in
    let parts = and_parts (holds_by owners (cut place entries) user need) (not (holds_by owners (cut (suc place) entries) user need)) here in
    ap (λ at. holds_by owners (cut at entries) user need) (sym same) ∙ parts.0)
    (λ other. lost-held owners entries user need place lost (rw other at is))

taken-lost : (found : Option ℕ) (lost : ℕ) → option_map_or Taken found Never ≡ Taken lost → found ≡ Some lost
taken-lost None lost is = absurd (cc)
taken-lost (Some place) lost is = let same : place ≡ lost = cc in ap (λ p. Some p) same

lost-before : (owners : List ℕ) (deeds : List Deed) (place user : ℕ) (need : Need) (lost : ℕ) → IsProper owners deeds
    → cause_before owners deeds place user need ≡ Taken lost → holds_before owners deeds lost user need ≡ true
lost-before owners deeds place user need lost proper is =
    let by = last_loss_by owners (records owners deeds) user need place in
    let found : by ≡ Some lost = taken-lost by lost (sym (cause-records owners user need deeds place proper) ∙ is) in
    sym (holds_by-cut owners deeds lost user need proper) ∙ lost-held owners (records owners deeds) user need place lost found

-- what there is to show is sound, where the grants of a place have one grantor
pub shown-sound : (owners : List ℕ) (deeds : List Deed) (place user : ℕ) (need : Need) → IsProper owners deeds → HaveOneGrantor (grants_of deeds)
    → IsSound owners deeds place user need (shown_of owners deeds place user need)
shown-sound owners deeds place user need proper one =
    by_cases (owns owners user need.table)
    (λ owned. rw owned owned)
    (λ other. by_cases (holds_before owners deeds place user need)
    (λ held. rw (other, held) (path-chain owners deeds place user need proper one other held))
    (λ missing. rw (other, missing) (by_cause (cause_before owners deeds place user need) refl other missing)))
  where
    by_cause : (why : Cause) → cause_before owners deeds place user need ≡ why → owns owners user need.table ≡ false → holds_before owners deeds place user need ≡ false
        → IsSound owners deeds place user need (shown_lost owners deeds user need why)
    by_cause Never is other missing = (missing, is)
    by_cause (Taken lost) is other missing =
        (missing, is, path-chain owners deeds lost user need proper one other (lost-before owners deeds place user need lost proper is))
