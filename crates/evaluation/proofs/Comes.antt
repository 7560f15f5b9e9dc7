-- What a place results in, by what it is shown: its words, and the records that it ends.
use Rattle.std.proofs.Common.{length, ◌≡◌, ◌<◌, ◌+◌, ◌==◌, ℕ, ℤ, Bool, true, false, List, [], ◌∷◌, ◌++◌, Option, Some, None, map, refl, sym, ap, ◌∙◌}
use Rattle.std.specs.Prelude.{All, IsSome, IsTrue, is_some, slice_get}
use Rattle.std.specs.List.{list_any}
use Rattle.std.specs.Option.{option_map_or}
use Rattle.std.proofs.lemmas.Bool.{eq-eqb}
use Rattle.std.proofs.lemmas.List.Folds.{list_any-append}
use Rattle.std.proofs.lemmas.List.Elements.{All-cons, All-nil}
use Rattle.std.proofs.lemmas.Option.{slice_get_within}
use Rattle.std.proofs.lemmas.Bool.{or_left, or_right}
use Rattle.model_base.specs.declared.deed.Deed.{Deed}
use Rattle.model_base.specs.declared.deed.Deed.TheVariants.{Revoking}
use Rattle.model_base.specs.declared.deed.Grant.{Grant}
use Rattle.model_base.specs.declared.deed.Need.{Need}
use Rattle.model_base.specs.declared.deed.Revocation.{Revocation}
use Rattle.model_base.specs.declared.statement.Form.{Form}
use Rattle.model_base.specs.declared.statement.Statement.{Statement}
use Rattle.model_base.specs.DeedsLeft.{revocation_of}
use Rattle.model_base.specs.Privileges.{ended_by}
use Rattle.model_base.specs.Ranks.{rank}
use Rattle.model_base.specs.Outcomes.{at_place, deeds_before, deeds_of, needs, owners, rows_before}
use Rattle.model_base.specs.References.{deed_tables, tables_of}
use Rattle.model_base.proofs.Covered.{contrary}
use Rattle.model_base.proofs.Ended.{ended_by-covered_records}
use Rattle.model_base.proofs.Ends.{is_ended}
use Rattle.model_base.proofs.Made.{deeds_of-one}
use Rattle.model_base.proofs.Replay.{by_cases}
use Rattle.body.specs.Shape.{HasColumns, HaveColumns, IsNumber, IsRowOf}
use Rattle.body.proofs.Shapes.{logs_have_shape}
use Rattle.own_words.specs.Places.{own_words, words_at}
use Rattle.sequencer.specs.Whole.{columns_by}
use Rattle.bohm_core_base.specs.Batch.{Batch, is_listed, rank_at, batch_slots, was_done}
use Rattle.bohm_core_base.specs.Serial.{serial_ends, serial_words, batch_world_before}
use Rattle.bohm_core_base.proofs.Endings.{ends-by}
use Rattle.bohm_core_base.proofs.Whole.{deeds-proper, serial-at, serial-only}
use Rattle.log_batch.specs.Laws.{IsOfLog}
use Rattle.log_batch.specs.Supplied.{LogRange, batch_of, range_of}
use Rattle.log_batch.proofs.SerialNeeds.{AreOn, needs-listed}
use Rattle.log_batch.proofs.SerialRuns.{serial_runs_agree}
use Rattle.log_batch.proofs.Sound.{batches_are_sound}
use Rattle.log_batch.proofs.SoundTables.{listed_once}
use Rattle.evaluation.specs.Answering.{ended_by_deeds}
use Rattle.evaluation.proofs.Listed.{listed-holds}
use Rattle.evaluation.proofs.OnlyRevocation.{no_revocation, only_revocation}
use Rattle.evaluation.proofs.Slots.{slot-rank}

-- the words of a place of a log
pub words-are : (columns : ℕ → ℕ) (log : List Statement) (place : ℕ) (statement : Statement) → slice_get log place ≡ Some statement
    → words_at columns log place ≡ own_words columns statement.form (at_place (owners log) place (record { rows = rows_before log place; deeds = deeds_before log place }) statement)
words-are columns log place statement at = rw at refl

-- the rows before a place have the columns of their tables
pub rows-fit : (ranged : LogRange) → IsOfLog (range_of ranged) → (place : ℕ) → HaveColumns (columns_by ranged.log.names) (rows_before ranged.log.statements place)
rows-fit ranged is place table row =
    by_row (rows_before ranged.log.statements place table row) (logs_have_shape (columns_by ranged.log.names) ranged.log.statements place is.fits table row)
  where
    by_row : (found : Option (List ℤ)) → IsRowOf IsNumber (columns_by ranged.log.names table) found → HasColumns (columns_by ranged.log.names table) found
    by_row None fits = tt
    by_row (Some numbers) fits = fits.0

-- a view that says of a statement's tables says of the tables of its needs
pub needs-covered : (owner : ℕ → Option ℕ) (form : Form) → All (λ table. IsSome (owner table)) (tables_of form)
    → All (λ (need : Need). IsTrue (is_some (owner need.table))) (needs form)
needs-covered owner form all = each (needs form) (needs-listed form)
  where
    each : (needed : List Need) → AreOn (is_listed (tables_of form)) needed → All (λ (need : Need). IsTrue (is_some (owner need.table))) needed
    each [] on = All-nil (λ (need : Need). IsTrue (is_some (owner need.table)))
    each (need ∷ needed) on =
        All-cons (λ (need : Need). IsTrue (is_some (owner need.table))) need needed
        (listed-holds (λ table. IsSome (owner table)) (tables_of form) need.table all on.0) (each needed on.1)

-- and of its deed's table
pub deed-covered : (owner : ℕ → Option ℕ) (form : Form) → All (λ table. IsSome (owner table)) (tables_of form)
    → All (λ table. IsSome (owner table)) (deed_tables form)
deed-covered owner form all =
    each (deed_tables form) (λ table listed. listed_once (map (λ (need : Need). need.table) (needs form) ++ deed_tables form) table
    (list_any-append (λ other. other == table) (map (λ (need : Need). need.table) (needs form)) (deed_tables form)
    ∙ or_right (is_listed (map (λ (need : Need). need.table) (needs form)) table) (is_listed (deed_tables form) table) listed))
  where
    each : (tables : List ℕ) → ((table : ℕ) → is_listed tables table ≡ true → is_listed (tables_of form) table ≡ true) → All (λ table. IsSome (owner table)) tables
    each [] listed = All-nil (λ table. IsSome (owner table))
    each (table ∷ tables) listed =
        All-cons (λ table. IsSome (owner table)) table tables
        (listed-holds (λ table. IsSome (owner table)) (tables_of form) table all (listed table (or_left (table == table) (is_listed tables table) (eq-eqb table table refl))))
        (each tables (λ other there. listed other (or_right (table == other) (is_listed tables other) there)))

-- the records that a place ends which was done
module _ (ranged : LogRange) (of_log : IsOfLog (range_of ranged)) (index : ℕ) (within : index < ranged.size) (statement : Statement) (at : slice_get ranged.log.statements (ranged.first + index) ≡ Some statement) (done : was_done (serial_words (batch_of ranged) index) ≡ true) where
  abbrev batch : Batch
  batch = batch_of ranged

  abbrev place : ℕ
  place = ranged.first + index

  abbrev log : List Statement
  log = ranged.log.statements

  deeds-are : batch.deeds index ≡ deeds_of place statement.user statement.form
  deeds-are = rw at refl

  -- the grants that a revocation takes out of force are those whose records it ends
  revoked : (revocation : Revocation) (slot : ℕ) → slot < length (batch_slots batch) → batch.deeds index ≡ Revoking revocation ∷ []
      → is_ended (owners log) (batch_world_before batch index).deeds (Revoking revocation) (rank_at batch slot) ≡ serial_ends batch index slot
  revoked revocation slot low is =
      let sound = batches_are_sound (range_of ranged) of_log in
      by_cases (is_ended (owners log) (batch_world_before batch index).deeds (Revoking revocation) (rank_at batch slot))
      (λ ends. rw ends (sym (serial-at batch sound index slot revocation within done is ends)))
      (λ left. by_cases (serial_ends batch index slot)
      (λ ends.
      let only = serial-only batch sound index slot low ends in
      let both : Some revocation ≡ Some only.revocation = ap revocation_of (sym is ∙ only.deed) in
      let same : revocation ≡ only.revocation = cc in
      contrary (is_ended (owners log) (batch_world_before batch index).deeds (Revoking revocation) (rank_at batch slot))
      (ap (λ one. is_ended (owners log) (batch_world_before batch index).deeds (Revoking one) (rank_at batch slot)) same ∙ only.ended) left)
      (λ none. rw (left, none) refl))

  -- where there is none, none ends
  unrevoked : (slot : ℕ) → slot < length (batch_slots batch) → revocation_of (deeds_of place statement.user statement.form) ≡ None
      → false ≡ serial_ends batch index slot
  unrevoked slot low none =
      let sound = batches_are_sound (range_of ranged) of_log in
      by_cases (serial_ends batch index slot)
      (λ ends.
      let only = serial-only batch sound index slot low ends in
      absurd (no_revocation (deeds_of place statement.user statement.form) only.revocation none (sym deeds-are ∙ only.deed)))
      (λ none. sym none)

  -- so the ranks that its deeds end are those of the slots that the serial run ends there
  pub ends-told : (slot : ℕ) (grant : Grant) → slice_get (batch_slots batch) slot ≡ Some grant
      → list_any (λ ended. ended == rank grant) (ended_by_deeds (owners log) (deeds_before log place) (deeds_of place statement.user statement.form)) ≡ serial_ends batch index slot
  ends-told slot grant found = by_revocation (revocation_of (deeds_of place statement.user statement.form)) refl
    where
      low : slot < length (batch_slots batch)
      low = slice_get_within (batch_slots batch) slot grant found

      by_revocation : (made : Option Revocation) → revocation_of (deeds_of place statement.user statement.form) ≡ made
          → list_any (λ ended. ended == rank grant) (option_map_or (ended_by (owners log) (deeds_before log place)) made []) ≡ serial_ends batch index slot
      by_revocation None is = unrevoked slot low is
      by_revocation (Some revocation) is =
          let sound = batches_are_sound (range_of ranged) of_log in
          let all : ℕ → Bool = λ table. true in
          let before : List Deed = (batch_world_before batch index).deeds in
          let proper = deeds-proper batch sound index in
          let same : before ≡ deeds_before log place = (serial_runs_agree (range_of ranged) of_log index).deeds in
          let alone = only_revocation (deeds_of place statement.user statement.form) revocation (deeds_of-one place statement.user statement.form) is in
          ap (λ deeds. list_any (λ ended. ended == rank grant) (ended_by (owners log) deeds revocation)) (sym same)
          ∙ ap (λ at. list_any (λ ended. ended == at) (ended_by (owners log) before revocation)) (sym (slot-rank ranged of_log index slot grant found))
          ∙ sym (ap (λ ended. list_any (λ one. one == rank_at batch slot) ended) (ended_by-covered_records (owners log) all before revocation proper refl))
          ∙ ends-by (owners log) all before revocation (rank_at batch slot) proper refl
          ∙ revoked revocation slot low (deeds-are ∙ alone)
