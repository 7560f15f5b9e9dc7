-- Statements after a log change nothing of its places. Each needs what is on the log's tables, and who owns these is settled.
use Rattle.std.proofs.Common.{◌≡◌, ℕ, zero, suc, ◌+◌, ◌-◌, ◌<◌, ◌≤◌, Bool, false, not, ◌&&◌, List, [], ◌∷◌, ◌++◌, length, map, take, Option, Some, None, ℤ, refl, ap, ◌∙◌, arith}
use Rattle.std.specs.Prelude.{All, IfSome, nat_lt, slice_get, if◌then◌else◌}
use Rattle.std.specs.List.{find, range_with_len}
use Rattle.std.specs.Option.{option_map, option_map_or}
use Rattle.std.proofs.lemmas.Grind.{flat_map-append}
use Rattle.std.proofs.lemmas.List.{take-append-le}
use Rattle.std.proofs.lemmas.List.Elements.{All-head, All-tail, All-take}
use Rattle.model_base.specs.declared.deed.Deed.{Deed}
use Rattle.model_base.specs.declared.deed.Deed.TheVariants.{Granting, Revoking}
use Rattle.model_base.specs.declared.deed.Need.{Need}
use Rattle.model_base.specs.declared.outcome.DeedDone.{DeedDone}
use Rattle.model_base.specs.declared.outcome.Outcome.{Outcome}
use Rattle.model_base.specs.declared.reference.Reference.{Reference}
use Rattle.model_base.specs.declared.reference.Reference.TheVariants.{At}
use Rattle.model_base.specs.declared.statement.Access.{Access}
use Rattle.model_base.specs.declared.statement.Form.{Form}
use Rattle.model_base.specs.declared.statement.Statement.{Statement}
use Rattle.model_base.specs.Body.{Ending, aborted, completed, undeclared}
use Rattle.model_base.specs.Growing.{NeedsOwnTables, NeedsWithin}
use Rattle.model_base.specs.Outcomes.{World, at_place, body, cause, changed, creator, deed_done, deeds_of, empty_world, ended, judged, missing, needs, outcome, owners, step_form, world_after, world_before}
use Rattle.model_base.specs.Privileges.{IsProper, holds}
use Rattle.model_base.specs.References.{batch_references, last_before, prior, references, references_of, tables_of, writer}
use Rattle.model_base.specs.Versions.{accesses_of, version_cells, writes_of}
use Rattle.model_base.proofs.Growth.{Stands, deeds_before-stands, next-at_place}
use Rattle.model_base.proofs.MoreOwners.{all_same-more, same-more, tables-proper}
use Rattle.model_base.proofs.Owners.{cause-owners, ended_by-owners, holds-owners}
use Rattle.model_base.proofs.Replay.{by_cases}

-- what holds of each item holds of the one that is found
find-all : {X : Type 0} (P : X → Type 0) (test : X → Bool) (xs : List X) → All P xs → IfSome (find test xs) P
find-all P test [] all = tt
find-all P test (x ∷ xs) all =
    by_cases (test x)
    (λ passes. rw passes (All-head P x xs all))
    (λ fails. rw fails (find-all P test xs (All-tail P x xs all)))

-- and of the one at an index
get-all : {X : Type 0} (P : X → Type 0) (xs : List X) (i : ℕ) → All P xs → IfSome (slice_get xs i) P
get-all P [] i all = tt
get-all P (x ∷ xs) zero all = All-head P x xs all
get-all P (x ∷ xs) (suc i) all = get-all P xs i (All-tail P x xs all)

-- one place results in the same with more tables
module _ (own more : List ℕ) (world : World) (proper : IsProper own world.deeds) where
  -- who holds what, and why it isn't held
  held-same : (user : ℕ) (need : Need) → need.table < length own → holds (own ++ more) world.deeds user need ≡ holds own world.deeds user need
  held-same user need low =
      holds-owners (own ++ more) own world.deeds user need (all_same-more own more _ (tables-proper own world.deeds proper)) (same-more own more need.table low)

  cause-same : (user : ℕ) (need : Need) → need.table < length own → cause (own ++ more) world.deeds user need ≡ cause own world.deeds user need
  cause-same user need low =
      cause-owners (own ++ more) own world.deeds user need (all_same-more own more _ (tables-proper own world.deeds proper)) (same-more own more need.table low)

  -- the first need that isn't held
  find-same : (user : ℕ) (needed : List Need) → All (λ (need : Need). need.table < length own) needed
      → find (λ need. not (holds (own ++ more) world.deeds user need)) needed ≡ find (λ need. not (holds own world.deeds user need)) needed
  find-same user [] low = refl
  find-same user (need ∷ needed) low =
      let P : Need → Type 0 = λ n. n.table < length own in
      let here = held-same user need (All-head P need needed low) in
      let rest = find-same user needed (All-tail P need needed low) in
      by_cases (holds own world.deeds user need)
      (λ held. rw (here, held) rest)
      (λ lacks. rw (here, lacks) refl)

  -- what a deed results in, and a body
  deed-same : (deeds : List Deed) → deed_done (own ++ more) world deeds ≡ deed_done own world deeds
  deed-same [] = refl
  deed-same (Granting grant ∷ deeds) = refl
  deed-same (Revoking revocation ∷ deeds) =
      ap DeedDone.Revoked (ended_by-owners (own ++ more) own world.deeds revocation (all_same-more own more _ (tables-proper own world.deeds proper)))

  ended-same : (deeds : List Deed) (ending : Ending) → ended (own ++ more) world deeds ending ≡ ended own world deeds ending
  ended-same deeds (completed rows outputs) = ap (Outcome.Done outputs) (deed-same deeds)
  ended-same deeds (aborted step reason) = refl
  ended-same deeds (undeclared step) = refl

  module _ (place : ℕ) (statement : Statement) where
    judged-same : (lack : Option Need) → IfSome lack (λ (need : Need). need.table < length own)
        → judged (own ++ more) place world statement lack ≡ judged own place world statement lack
    judged-same (Some need) low = ap (λ why. (Outcome.Denied need why, world)) (cause-same statement.user need low)
    judged-same None low =
        let deeds = deeds_of place statement.user statement.form in
        let ending = body world.rows statement.form in
        ap (λ (o : Outcome). (o, changed world deeds ending)) (ended-same deeds ending)

    missing-same : (form : Form) → All (λ (need : Need). need.table < length own) (needs form)
        → judged (own ++ more) place world statement (missing (own ++ more) world statement.user form)
        ≡ judged own place world statement (missing own world statement.user form)
    missing-same form low =
        ap (judged (own ++ more) place world statement) (find-same statement.user (needs form) low)
        ∙ judged-same (missing own world statement.user form) (find-all (λ (need : Need). need.table < length own) _ (needs form) low)

    form-same : (form : Form) → All (λ (need : Need). need.table < length own) (needs form)
        → step_form (own ++ more) place world statement form ≡ step_form own place world statement form
    form-same (Form.Create table columns) low = refl
    form-same (Form.Run accesses steps deed) low = missing-same (Form.Run accesses steps deed) low
    form-same (Form.Deed deed) low = missing-same (Form.Deed deed) low

    place-same : NeedsWithin (length own) statement → at_place (own ++ more) place world statement ≡ at_place own place world statement
    place-same low = form-same statement.form low

-- so does a run
run-same : (own more : List ℕ) (place : ℕ) (world : World) (statements : List Statement) → Stands own place world.deeds → All (NeedsWithin (length own)) statements
    → world_after (own ++ more) place world statements ≡ world_after own place world statements
run-same own more place world [] stands low = refl
run-same own more place world (statement ∷ statements) stands low =
    let here = place-same own more world stands.proper place statement (All-head (NeedsWithin (length own)) statement statements low) in
    let next = at_place own place world statement in
    ap (λ (result : Outcome × World). world_after (own ++ more) (place + 1) result.1 statements) here
    ∙ run-same own more (place + 1) next.1 statements ((next-at_place own place world statement).stands stands) (All-tail (NeedsWithin (length own)) statement statements low)

pub owners-append : (log more : List Statement) → owners (log ++ more) ≡ owners log ++ owners more
owners-append log more = flat_map-append (λ (s : Statement). creator s.user s.form) log more

-- an item of the first list is at its index with more after it
pub get-front : {X : Type 0} (xs ys : List X) (i : ℕ) → i < length xs → slice_get (xs ++ ys) i ≡ slice_get xs i
get-front [] ys i low = absurd (omega arith)
get-front (x ∷ xs) ys zero low = refl
get-front (x ∷ xs) ys (suc i) low = get-front xs ys i (omega arith)

module _ (log more : List Statement) where
  -- what is before a place
  pub world-stands : (place : ℕ) → NeedsOwnTables log → place ≤ length log → world_before (log ++ more) place ≡ world_before log place
  world-stands place own low =
      ap (λ (front : List Statement). world_after (owners (log ++ more)) 0 empty_world front) (take-append-le place log more low)
      ∙ ap (λ (users : List ℕ). world_after users 0 empty_world (take place log)) (owners-append log more)
      ∙ run-same (owners log) (owners more) 0 empty_world (take place log) (deeds_before-stands log 0)
      (All-take (NeedsWithin (length (owners log))) place log own)

  -- the outcome of a place
  some-same : (place : ℕ) (found : Option Statement) → IfSome found (NeedsWithin (length (owners log)))
      → option_map (λ s. (at_place (owners log ++ owners more) place (world_before log place) s).0) found
      ≡ option_map (λ s. (at_place (owners log) place (world_before log place) s).0) found
  some-same place None low = refl
  some-same place (Some statement) low =
      ap (λ (result : Outcome × World). Some result.0)
      (place-same (owners log) (owners more) (world_before log place) (deeds_before-stands log place).proper place statement low)

  pub outcome-stands : (place : ℕ) → NeedsOwnTables log → place < length log → outcome (log ++ more) place ≡ outcome log place
  outcome-stands place own low =
      let comes : List ℕ → World → Option Statement → Option Outcome = λ users world found. option_map (λ s. (at_place users place world s).0) found in
      ap (λ users. comes users (world_before (log ++ more) place) (slice_get (log ++ more) place)) (owners-append log more)
      ∙ ap (λ world. comes (owners log ++ owners more) world (slice_get (log ++ more) place)) (world-stands place own (omega arith))
      ∙ ap (comes (owners log ++ owners more) (world_before log place)) (get-front log more place low)
      ∙ some-same place (slice_get log place) (get-all (NeedsWithin (length (owners log))) log place own)

  -- the version cells of a place
  pub cells-stand : (place : ℕ) → NeedsOwnTables log → place < length log → version_cells (log ++ more) place ≡ version_cells log place
  cells-stand place own low =
      let cells : World → Option Statement → List (Option (List ℤ)) =
      λ world found. map (λ (access : Access). world.rows access.key.table access.key.row) (option_map_or writes_of found []) in
      ap (λ world. cells world (slice_get (log ++ more) place)) (world-stands (place + 1) own (omega arith))
      ∙ ap (cells (world_before log (place + 1))) (get-front log more place low)

  -- the last place before another
  last-stands : (test : Statement → Bool) (first place : ℕ) → place ≤ length log → last_before test (log ++ more) first place ≡ last_before test log first place
  last-stands test first zero low = refl
  last-stands test first (suc place) low =
      let from : Option Statement → Reference → Reference = λ found rest. if not (nat_lt place first) && option_map_or test found false then At place else rest in
      ap (λ found. from found (last_before test (log ++ more) first place)) (get-front log more place (omega arith))
      ∙ ap (from (slice_get log place)) (last-stands test first place (omega arith))

  pub writer-stands : (first place : ℕ) (access : Access) → place ≤ length log → writer (log ++ more) first place access ≡ writer log first place access
  writer-stands first place access low = last-stands _ first place low

  pub prior-stands : (first place table : ℕ) → place ≤ length log → prior (log ++ more) first place table ≡ prior log first place table
  prior-stands first place table low = last-stands _ first place low

-- maps are the same where each item has the same
map-same : {X Y : Type 0} (f g : X → Y) (xs : List X) → ((x : X) → f x ≡ g x) → map f xs ≡ map g xs
map-same f g [] same = refl
map-same f g (x ∷ xs) same = ap (λ y. y ∷ map f xs) (same x) ∙ ap (λ ys. g x ∷ ys) (map-same f g xs same)

range-same : {Y : Type 0} (f g : ℕ → Y) (first count : ℕ) → ((n : ℕ) → first ≤ n → n < first + count → f n ≡ g n)
    → map f (range_with_len first count) ≡ map g (range_with_len first count)
range-same f g first zero same = refl
range-same f g first (suc count) same =
    ap (λ y. y ∷ map f (range_with_len (first + 1) count)) (same first (omega arith) (omega arith))
    ∙ ap (λ ys. g first ∷ ys) (range-same f g (first + 1) count (λ n above below. same n (omega arith) (omega arith)))

module _ (log more : List Statement) where
  -- what a place is referred to
  of-same : (first place : ℕ) (statement : Statement) → place ≤ length log
      → references_of (log ++ more) first place statement ≡ references_of log first place statement
  of-same first place statement low =
      ap (λ rows. rows ++ map (prior (log ++ more) first place) (tables_of statement.form))
      (map-same (writer (log ++ more) first place) (writer log first place) (accesses_of statement.form) (λ access. writer-stands log more first place access low))
      ∙ ap (λ deeds. map (writer log first place) (accesses_of statement.form) ++ deeds)
      (map-same (prior (log ++ more) first place) (prior log first place) (tables_of statement.form) (λ table. prior-stands log more first place table low))

  some-referred : (first place : ℕ) (found : Option Statement) → place ≤ length log
      → option_map_or (references_of (log ++ more) first place) found [] ≡ option_map_or (references_of log first place) found []
  some-referred first place None low = refl
  some-referred first place (Some statement) low = of-same first place statement low

  pub references-stand : (first place : ℕ) → place < length log → references (log ++ more) first place ≡ references log first place
  references-stand first place low =
      ap (λ found. option_map_or (references_of (log ++ more) first place) found []) (get-front log more place low)
      ∙ some-referred first place (slice_get log place) (omega arith)

  -- and each place of a batch
  pub batch-stands : (first end : ℕ) → end ≤ length log → batch_references (log ++ more) first end ≡ batch_references log first end
  batch-stands first end low =
      range-same (references (log ++ more) first) (references log first) first (end - first) (λ n above below. references-stand first n (omega arith))
