-- What a placer stores of a place, and what it keeps.
use Rattle.std.proofs.Common.{◌≡◌, ◌<◌, ◌≤◌, ◌⊎◌, ◌+◌, ◌++◌, ◌∷◌, ℕ, zero, suc, true, Some, List, [], get_or, length, map, refl, sym, ap, ◌∙◌, subst, arith, inl, inr, eq-eqb}
use Rattle.std.specs.Prelude.{slice_get}
use Rattle.std.specs.List.{range_with_len}
use Rattle.std.specs.Option.{option_map_or}
use Rattle.std.proofs.lemmas.Bool.{cases_lt}
use Rattle.std.proofs.lemmas.List.{get_or-append-add, get_or-map, get_or_append_left, length-append, length-map}
use Rattle.model_base.specs.declared.reference.Reference.{Reference}
use Rattle.model_base.specs.declared.reference.Reference.TheVariants.{Base}
use Rattle.model_base.specs.declared.statement.Access.{Access}
use Rattle.model_base.specs.declared.statement.Statement.{Statement}
use Rattle.model_base.specs.References.{prior, references_of, tables_of, writer}
use Rattle.model_base.specs.Versions.{accesses_of}
use Rattle.placing.specs.declared.latest.Latest.{Latest}
use Rattle.placing.specs.Latest.{IsLatest, is_own_row, is_own_table, own_prior, own_writer}
use Rattle.placing.specs.Parts.{Referral, access_referral, key_partition, referrals_of, table_partition, table_referral}
use Rattle.placing.proofs.Going.{own-prior-is, own-writer-is, up-to-next}
use Rattle.bohm_core_base.specs.declared.event.Event.TheVariants.{Place}
use Rattle.bohm_core_base.specs.Batch.{Batch, reference_words}
use Rattle.log_batch.specs.Laws.{IsOfLog, word_of}
use Rattle.log_batch.specs.Supplied.{LogRange, batch_of, range_of}
use Rattle.log_batch.proofs.SoundReferences.{references_same}
use Rattle.filling.specs.Keys.{Key}
use Rattle.words.specs.declared.knowledge.Knowledge.{Knowledge}
use Rattle.words.specs.Layout.{partition_at, reference_at}
use Rattle.words.specs.Passes.{PassState, PlacerState, Words, gone_on, open_pass, placed_on}
use Rattle.words.specs.Meanings.{StoredAll}
use Rattle.words.specs.Views.{In, front_in, with_cut, with_placing, with_stored}
use Rattle.filling.specs.declared.placer.Placer.{Placer}
use Rattle.filling.specs.Placers.{AreNewPlacers, IsAt, IsNewPlacer, IsPlacerIn, OnlyStores, StoredBelow, placer_front, storing, with_all_cut}

module _ (ranged : LogRange) (of_log : IsOfLog (range_of ranged)) (index : ℕ) (statement : Statement) (at : slice_get ranged.log.statements (ranged.first + index) ≡ Some statement) where
  abbrev log : List Statement
  log = ranged.log.statements

  abbrev place : ℕ
  place = ranged.first + index

  abbrev rows : List Reference
  rows = map (writer log ranged.first place) (accesses_of statement.form)

  abbrev deeds : List Reference
  deeds = map (prior log ranged.first place) (tables_of statement.form)

  -- the place has a reference for each access, and then one for each of its tables
  references-are : reference_words (batch_of ranged) index ≡ map (word_of ranged.first) (rows ++ deeds)
  references-are =
      references_same (range_of ranged) of_log index
      ∙ ap (λ found. map (word_of ranged.first) (option_map_or (references_of log ranged.first place) found [])) at

  -- each into the partition of its row, or of the deeds on its table
  partitions-are : (batch_of ranged).partitions_of index
      ≡ map (λ (slot : Referral). slot.partition) (referrals_of ranged.partitions log ranged.first place statement)
  partitions-are =
      ap (λ found. map (λ (slot : Referral). slot.partition) (option_map_or (referrals_of ranged.partitions log ranged.first place) found [])) at

  pub references-count : length (reference_words (batch_of ranged) index) ≡ length (accesses_of statement.form) + length (tables_of statement.form)
  references-count =
      let all = ap (λ (words : List ℕ). length words) references-are in
      let words = length-map (rows ++ deeds) (word_of ranged.first) in
      let both = length-append rows deeds in
      let first = length-map (accesses_of statement.form) (writer log ranged.first place) in
      let second = length-map (tables_of statement.form) (prior log ranged.first place) in
      omega arith

  pub row-word : (number : ℕ) (access : Access) → number < length (accesses_of statement.form) → access ≡ get_or (accesses_of statement.form) number access
      → reference_at (batch_of ranged) index number ≡ word_of ranged.first (writer log ranged.first place access)
  row-word number access within is =
      let count = length-map (accesses_of statement.form) (writer log ranged.first place) in
      let both = length-append rows deeds in
      ap (λ words. get_or words number 0) references-are
      ∙ get_or-map (word_of ranged.first) (rows ++ deeds) number Base 0 (omega arith)
      ∙ ap (word_of ranged.first)
      (get_or_append_left rows deeds Base number (omega arith)
      ∙ get_or-map (writer log ranged.first place) (accesses_of statement.form) number access Base within
      ∙ ap (writer log ranged.first place) (sym is))

  pub table-word : (number table : ℕ) → number < length (tables_of statement.form) → table ≡ get_or (tables_of statement.form) number 0
      → reference_at (batch_of ranged) index (length (accesses_of statement.form) + number) ≡ word_of ranged.first (prior log ranged.first place table)
  table-word number table within is =
      let count = length-map (accesses_of statement.form) (writer log ranged.first place) in
      let more = length-map (tables_of statement.form) (prior log ranged.first place) in
      let both = length-append rows deeds in
      ap (λ words. get_or words (length (accesses_of statement.form) + number) 0) references-are
      ∙ get_or-map (word_of ranged.first) (rows ++ deeds) (length (accesses_of statement.form) + number) Base 0 (omega arith)
      ∙ ap (word_of ranged.first)
      (ap (λ n. get_or (rows ++ deeds) (n + number) Base) (sym count)
      ∙ get_or-append-add rows deeds number Base
      ∙ get_or-map (prior log ranged.first place) (tables_of statement.form) number 0 Base within
      ∙ ap (prior log ranged.first place) (sym is))

  abbrev row-slots : List Referral
  row-slots = map (access_referral ranged.partitions log ranged.first place) (accesses_of statement.form)

  abbrev table-slots : List Referral
  table-slots = map (table_referral ranged.partitions log ranged.first place) (tables_of statement.form)

  abbrev none : Referral
  none = record { partition = 0; reference = Base }

  pub row-partition : (number : ℕ) (access : Access) → number < length (accesses_of statement.form) → access ≡ get_or (accesses_of statement.form) number access
      → partition_at (batch_of ranged) index number ≡ key_partition ranged.partitions access.key.table access.key.row
  row-partition number access within is =
      let count = length-map (accesses_of statement.form) (access_referral ranged.partitions log ranged.first place) in
      let both = length-append row-slots table-slots in
      ap (λ found. get_or found number 0) partitions-are
      ∙ get_or-map (λ (slot : Referral). slot.partition) (row-slots ++ table-slots) number none 0 (omega arith)
      ∙ ap (λ (slot : Referral). slot.partition)
      (get_or_append_left row-slots table-slots none number (omega arith)
      ∙ get_or-map (access_referral ranged.partitions log ranged.first place) (accesses_of statement.form) number access none within
      ∙ ap (access_referral ranged.partitions log ranged.first place) (sym is))

  pub table-partition : (number table : ℕ) → number < length (tables_of statement.form) → table ≡ get_or (tables_of statement.form) number 0
      → partition_at (batch_of ranged) index (length (accesses_of statement.form) + number) ≡ table_partition ranged.partitions table
  table-partition number table within is =
      let count = length-map (accesses_of statement.form) (access_referral ranged.partitions log ranged.first place) in
      let more = length-map (tables_of statement.form) (table_referral ranged.partitions log ranged.first place) in
      let both = length-append row-slots table-slots in
      ap (λ found. get_or found (length (accesses_of statement.form) + number) 0) partitions-are
      ∙ get_or-map (λ (slot : Referral). slot.partition) (row-slots ++ table-slots) (length (accesses_of statement.form) + number) none 0 (omega arith)
      ∙ ap (λ (slot : Referral). slot.partition)
      (ap (λ n. get_or (row-slots ++ table-slots) (n + number) none) (sym count)
      ∙ get_or-append-add row-slots table-slots number none
      ∙ get_or-map (table_referral ranged.partitions log ranged.first place) (tables_of statement.form) number 0 none within
      ∙ ap (table_referral ranged.partitions log ranged.first place) (sym is))

-- who stores one reference only stores, and so does who stores some and then more
pub stores-none : (token : PlacerState) → OnlyStores token token
stores-none token = refl

pub stores-then : (token middle after : PlacerState) → OnlyStores token middle → OnlyStores middle after → OnlyStores token after
stores-then token middle after first second = second ∙ ap (λ (from : PlacerState). storing from after.view.stored) first

-- where it is stands
pub at-stays : (words : Words Key) (key : Key) (token after : PlacerState) (latest : Latest) (statement : Statement) → OnlyStores token after
    → IsAt words key token latest statement → IsAt words key after latest statement
at-stays words key token after latest statement only is =
    subst (λ (t : PlacerState). IsAt words key t latest statement) (sym only) record {
      same_table = is.same_table;
      key = is.key;
      of_log = is.of_log;
      within = is.within;
      at = is.at;
      partition = is.partition;
      partitions = is.partitions;
      latest = is.latest;
    }

-- before any number nothing has to be stored
pub stored-none : (batch : Batch) (view : Knowledge) → StoredBelow batch view 0
stored-none batch view number low within mine = absurd (omega arith)

less-or-last : (number count : ℕ) → number < count + 1 → (number < count) ⊎ (number ≡ count)
less-or-last number count low = by_cases (cases_lt number count)
  where
    by_cases : (number < count) ⊎ (count ≤ number) → (number < count) ⊎ (number ≡ count)
    by_cases (inl less) = inl less
    by_cases (inr most) = inr (omega arith)

in-front : (number : ℕ) (stored more : List ℕ) → In number stored → In number (stored ++ more)
in-front number [] more is = absurd is
in-front number (other ∷ stored) more (inl same) = inl same
in-front number (other ∷ stored) more (inr is) = inr (in-front number stored more is)

in-last : (number : ℕ) (stored : List ℕ) → In number (stored ++ number ∷ [])
in-last number [] = inl refl
in-last number (other ∷ stored) = inr (in-last number stored)

-- one reference more is stored
pub stored-more : (batch : Batch) (token after : PlacerState) (count : ℕ) → after ≡ placed_on token (with_stored token.view count)
    → StoredBelow batch token.view count → StoredBelow batch after.view (count + 1)
stored-more batch token after count is before =
    subst (λ (t : PlacerState). StoredBelow batch t.view (count + 1)) (sym is)
    (λ number low within mine. by_order number (less-or-last number count low) within mine)
  where
    by_order : (number : ℕ) → (number < count) ⊎ (number ≡ count) → number < length (reference_words batch (front_in token.view))
        → partition_at batch (front_in token.view) number ≡ token.view.partition → In number (token.view.stored ++ count ∷ [])
    by_order number (inl low) within mine = in-front number token.view.stored (count ∷ []) (before number low within mine)
    by_order number (inr same) within mine = rw same (in-last count token.view.stored)

-- or isn't into the partition
pub stored-other : (batch : Batch) (view : Knowledge) (count : ℕ) → (partition_at batch (front_in view) count ≡ view.partition → ⊥)
    → StoredBelow batch view count → StoredBelow batch view (count + 1)
stored-other batch view count other before number low within mine = by_order (less-or-last number count low)
  where
    by_order : (number < count) ⊎ (number ≡ count) → In number view.stored
    by_order (inl low) = before number low within mine
    by_order (inr same) = absurd (other (ap (λ n. partition_at batch (front_in view) n) (sym same) ∙ mine))

-- the word of what a placer found for an access into its partition is that of the batch
pub found-row : (words : Words Key) (key : Key) (token : PlacerState) (latest : Latest) (statement : Statement) → IsAt words key token latest statement
    → (number : ℕ) (access : Access) → number < length (accesses_of statement.form) → access ≡ get_or (accesses_of statement.form) number access
    → key_partition words.key.batch.partitions access.key.table access.key.row ≡ token.view.partition
    → word_of words.key.batch.first (own_writer latest access) ≡ reference_at (batch_of words.key.batch) (front_in token.view) number
found-row words key token latest statement is number access within here mine =
    let ranged = words.key.batch in
    let same : key_partition latest.partitions access.key.table access.key.row ≡ latest.partition =
    ap (λ n. key_partition n access.key.table access.key.row) is.partitions ∙ mine ∙ sym is.partition in
    let own : is_own_row latest access.key.table access.key.row ≡ true = eq-eqb _ _ same in
    ap (word_of ranged.first) (own-writer-is latest ranged.log.statements ranged.first (ranged.first + front_in token.view) access is.latest own)
    ∙ sym (row-word ranged is.of_log (front_in token.view) statement is.at number access within here)

-- and so is that of what it found for a table
pub found-table : (words : Words Key) (key : Key) (token : PlacerState) (latest : Latest) (statement : Statement) → IsAt words key token latest statement
    → (number table : ℕ) → number < length (tables_of statement.form) → table ≡ get_or (tables_of statement.form) number 0
    → table_partition words.key.batch.partitions table ≡ token.view.partition
    → word_of words.key.batch.first (own_prior latest table)
    ≡ reference_at (batch_of words.key.batch) (front_in token.view) (length (accesses_of statement.form) + number)
found-table words key token latest statement is number table within here mine =
    let ranged = words.key.batch in
    let same : table_partition latest.partitions table ≡ latest.partition =
    ap (λ n. table_partition n table) is.partitions ∙ mine ∙ sym is.partition in
    let own : is_own_table latest table ≡ true = eq-eqb _ _ same in
    ap (word_of ranged.first) (own-prior-is latest ranged.log.statements ranged.first (ranged.first + front_in token.view) table is.latest own)
    ∙ sym (table-word ranged is.of_log (front_in token.view) statement is.at number table within here)

-- this many references are all of the place
pub stored-all : (words : Words Key) (key : Key) (token : PlacerState) (latest : Latest) (statement : Statement) → IsAt words key token latest statement
    → StoredBelow (batch_of words.key.batch) token.view (length (accesses_of statement.form) + length (tables_of statement.form))
    → StoredAll (batch_of words.key.batch) token.view
stored-all words key token latest statement is below number within mine =
    below number (let count = references-count words.key.batch is.of_log (front_in token.view) statement is.at in omega arith) within mine

-- who stores and then goes on has only placed a place
pub stores-advance : (token middle after : PlacerState) → OnlyStores token middle → after ≡ placed_on middle (with_placing middle.view)
    → after ≡ placed_on token (with_placing token.view)
stores-advance token middle after only is = is ∙ ap (λ (t : PlacerState). placed_on t (with_placing t.view)) only

-- one place more is placed
pub front-more : (view : Knowledge) → front_in (with_placing view) ≡ suc (front_in view)
front-more view = let one = length-append view.placings (Place view.partition ∷ []) in omega arith

pub placer-more : (words : Words Key) (placer after : Placer) → IsPlacerIn words placer → placer_front placer < words.key.batch.size
    → after.finder.latest.partition ≡ placer.finder.latest.partition → after.finder.latest.partitions ≡ placer.finder.latest.partitions
    → IsLatest after.finder.latest words.key.batch.log.statements words.key.batch.first (words.key.batch.first + placer_front placer)
    → after.token ≡ placed_on placer.token (with_placing placer.token.view) → IsPlacerIn words after
placer-more words placer after is low partition partitions latest moved =
    let mine : after.token.view.partition ≡ placer.token.view.partition = ap (λ (t : PlacerState). t.view.partition) moved in
    let front : placer_front after ≡ suc (placer_front placer) = ap (λ (t : PlacerState). front_in t.view) moved ∙ front-more placer.token.view in
    record {
      same_table = ap (λ (t : PlacerState). t.table) moved ∙ is.same_table;
      within = (let within = is.within in omega arith);
      most = omega arith;
      partition = partition ∙ is.partition ∙ sym mine;
      partitions = partitions ∙ is.partitions;
      up_to = rw front (up-to-next after.finder.latest words.key.batch.log.statements words.key.batch.first (placer_front placer) latest);
    }

-- the partitions below one are not it
pub not-below : (from count number : ℕ) → from + count ≤ number → In number (range_with_len from count) → ⊥
not-below from zero number past is = is
not-below from (suc count) number past (inl same) = absurd (omega arith)
not-below from (suc count) number past (inr is) = not-below (from + 1) count number (omega arith) is

pub range-more : (from count : ℕ) → range_with_len from (suc count) ≡ range_with_len from count ++ (from + count) ∷ []
range-more from zero = ap (λ n. n ∷ []) (let same : from ≡ from + 0 = omega arith in same)
range-more from (suc count) =
    let last : (from + 1) + count ≡ from + suc count = omega arith in
    ap (λ rest. from ∷ rest) (range-more (from + 1) count ∙ ap (λ n. range_with_len (from + 1) count ++ n ∷ []) last)

-- one placer more was cut
pub cut-more : (pass next last : PassState) (partition : ℕ) → next ≡ gone_on pass (with_all_cut pass.view partition)
    → last ≡ gone_on next (with_cut next.view partition) → last ≡ gone_on pass (with_all_cut pass.view (partition + 1))
cut-more pass next last partition before is =
    let more : range_with_len 0 partition ++ partition ∷ [] ≡ range_with_len 0 (partition + 1) = range-last partition in
    is
    ∙ ap (λ (p : PassState). gone_on p (with_cut p.view partition)) before
    ∙ ap (λ (numbers : List ℕ). gone_on pass (record pass.view { cut = numbers })) more
  where
    range-last : (n : ℕ) → range_with_len 0 n ++ n ∷ [] ≡ range_with_len 0 (n + 1)
    range-last n =
        let same : 0 + n ≡ n = omega arith in
        let next : n + 1 ≡ suc n = omega arith in
        ap (λ m. range_with_len 0 n ++ m ∷ []) (sym same) ∙ sym (range-more 0 n) ∙ ap (λ m. range_with_len 0 m) (sym next)

snoc-cases : {A : Type 0} (xs : List A) (x : A) (i : ℕ) (y : A) → slice_get (xs ++ x ∷ []) i ≡ Some y
    → (slice_get xs i ≡ Some y) ⊎ ((i ≡ length xs) × (y ≡ x))
snoc-cases [] x zero y is = inr (refl, (let same : x ≡ y = cc in sym same))
snoc-cases [] x (suc i) y is = absurd cc
snoc-cases (z ∷ xs) x zero y is = inl is
snoc-cases (z ∷ xs) x (suc i) y is = later (snoc-cases xs x i y is)
  where
    later : (slice_get xs i ≡ Some y) ⊎ ((i ≡ length xs) × (y ≡ x)) → (slice_get xs i ≡ Some y) ⊎ ((suc i ≡ suc (length xs)) × (y ≡ x))
    later (inl at) = inl at
    later (inr last) = inr (ap (λ n. suc n) last.0, last.1)

pub placers-more : (words : Words Key) (placers : List Placer) (placer : Placer) (partition : ℕ) → AreNewPlacers words partition placers
    → IsNewPlacer words partition placer → AreNewPlacers words (partition + 1) (placers ++ placer ∷ [])
placers-more words placers placer partition are is = record {
  every = (let every = are.every in let all = length-append placers (placer ∷ []) in omega arith);
  each = λ other found at. by_cases other found (snoc-cases placers placer other found at);
}
  where
    by_cases : (other : ℕ) (found : Placer) → (slice_get placers other ≡ Some found) ⊎ ((other ≡ length placers) × (found ≡ placer))
        → IsNewPlacer words other found
    by_cases other found (inl at) = are.each other found at
    by_cases other found (inr last) = rw (last.1, last.0 ∙ are.every) is

pub begin-cut : (words : Words Key) (pass : PassState) → pass ≡ open_pass words → pass ≡ gone_on pass (with_all_cut pass.view 0)
begin-cut words pass is = subst (λ (p : PassState). p ≡ gone_on p (with_all_cut p.view 0)) (sym is) refl

pub no-placers : (words : Words Key) → AreNewPlacers words 0 []
no-placers words = record {
  every = refl;
  each = λ partition placer at. absurd (cc);
}
