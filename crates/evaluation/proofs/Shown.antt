-- The rows that references show, word by word, and that they are those of the log.
use Rattle.std.proofs.Common.{◌≡◌, ◌<◌, ◌+◌, ◌++◌, ℕ, zero, suc, List, [], ◌∷◌, Some, drop, get_or, length, map, take, refl, sym, ap, ◌∙◌, arith}
use Rattle.std.specs.Prelude.{slice_get}
use Rattle.std.proofs.lemmas.List.{get_or-map, get_or_append_left, length-append, length-map, map-append, take_more}
use Rattle.model_base.specs.declared.row.Key.{Key}
use Rattle.model_base.specs.declared.statement.Access.{Access as Declared}
use Rattle.model_base.specs.declared.statement.Statement.{Statement}
use Rattle.model_base.specs.Outcomes.{rows_before}
use Rattle.model_base.specs.Versions.{accesses_of}
use Rattle.body.proofs.Shapes.{logs_have_shape}
use Rattle.own_words.specs.Words.{signed}
use Rattle.bohm_core_base.specs.Batch.{Access, Batch, prior_reference, reference_words, writer_reference}
use Rattle.bohm_core_base.proofs.Rows.{final_row, row-right}
use Rattle.log_batch.specs.Laws.{IsOfLog}
use Rattle.log_batch.specs.Shown.{access_of, row_bits, row_numbers}
use Rattle.log_batch.specs.Supplied.{LogRange, batch_of, range_of}
use Rattle.log_batch.proofs.Sound.{batches_are_sound}
use Rattle.log_batch.proofs.SerialNumbers.{numbers-bits}
use Rattle.log_batch.proofs.SerialRuns.{serial_runs_agree}
use Rattle.evaluation.specs.ReadSource.{IsReferred, Reader, row_referred}

-- what is after the first few words
pub get_or-drop : (words : List ℕ) (first number : ℕ) → get_or (drop first words) number 0 ≡ get_or words (first + number) 0
get_or-drop words zero number =
    let none : 0 + number ≡ number = omega arith in
    ap (λ n. get_or words n 0) (sym none)
get_or-drop [] (suc first) number = refl
get_or-drop (word ∷ words) (suc first) number =
    let more : suc first + number ≡ suc (first + number) = omega arith in
    get_or-drop words first number ∙ ap (λ n. get_or (word ∷ words) n 0) (sym more)

-- one number more
pub numbers-more : (first column : ℕ) (words : List ℕ) → first + column < length words
    → map signed (take (column + 1) (drop first words)) ≡ map signed (take column (drop first words)) ++ signed (get_or words (first + column) 0) ∷ []
numbers-more first column words within =
    let left : column < length (drop first words) = drop-left words first column within in
    rw (take_more (drop first words) column 0 left, map-append signed (take column (drop first words)) (get_or (drop first words) column 0 ∷ []), get_or-drop words first column) refl
  where
    drop-left : (words : List ℕ) (first column : ℕ) → first + column < length words → column < length (drop first words)
    drop-left words zero column within = omega arith
    drop-left [] (suc first) column within = absurd (omega arith)
    drop-left (word ∷ words) (suc first) column within = drop-left words first column (omega arith)

-- the row that a reference shows, in the words of the machine's proofs
row-final : (batch : Batch) (key : Key) (word : ℕ) → row_referred batch key word ≡ final_row batch key word
row-final batch key zero = refl
row-final batch key (suc index) = refl

-- rows before a place of the log have numbers of 64 bits
pub numbers-told : (ranged : LogRange) → IsOfLog (range_of ranged) → (place : ℕ) (key : Key)
    → row_numbers (row_bits (rows_before ranged.log.statements place key.table key.row)) ≡ rows_before ranged.log.statements place key.table key.row
numbers-told ranged is place key =
    let range = range_of ranged in
    numbers-bits (range.columns key.table) (rows_before range.log place key.table key.row)
    (logs_have_shape range.columns range.log place is.fits key.table key.row)

module _ (ranged : LogRange) (index : ℕ) (statement : Statement) (at : slice_get ranged.log.statements (ranged.first + index) ≡ Some statement) (number : ℕ) (within : number < length (accesses_of statement.form)) (access : Declared) (here : access ≡ get_or (accesses_of statement.form) number access) where
  abbrev batch : Batch
  batch = batch_of ranged

  -- the references of the machine, first those of the accesses
  pub by_access : (number < length (reference_words batch index)) × (get_or (reference_words batch index) number 0 ≡ writer_reference batch index access.key)
  unfolding reference_words
  by_access =
      let declared : batch.accesses index ≡ map access_of (accesses_of statement.form) = rw at refl in
      let count : length (map access_of (accesses_of statement.form)) ≡ length (accesses_of statement.form) = length-map (accesses_of statement.form) access_of in
      let first : List ℕ = map (λ (one : Access). writer_reference batch index one.key) (map access_of (accesses_of statement.form)) in
      let last : List ℕ = map (λ table. prior_reference batch index table) (batch.tables index) in
      let long : length first ≡ length (accesses_of statement.form) = length-map (map access_of (accesses_of statement.form)) (λ (one : Access). writer_reference batch index one.key) ∙ count in
      let both = length-append first last in
      let same : reference_words batch index ≡ first ++ last = ap (λ (accesses : List Access). map (λ (one : Access). writer_reference batch index one.key) accesses ++ last) declared in (
        rw same (omega arith),
        ap (λ (words : List ℕ). get_or words number 0) same
            ∙ get_or_append_left first last 0 number (omega arith)
            ∙ get_or-map (λ (one : Access). writer_reference batch index one.key) (map access_of (accesses_of statement.form)) number (access_of access) 0 (omega arith)
            ∙ ap (λ (one : Access). writer_reference batch index one.key) (get_or-map access_of (accesses_of statement.form) number access (access_of access) within ∙ ap access_of (sym here)),
      )

  -- so the place of one is referred to
  pub referred-by : (other : ℕ) → get_or (reference_words batch index) number 0 ≡ suc other → IsReferred (record { batch = batch; index = index }) other
  referred-by other shows = record { number = number; within = by_access.0; here = shows }

  -- and shows the row before the place
  pub row-by : IsOfLog (range_of ranged) → row_numbers (row_referred batch access.key (get_or (reference_words batch index) number 0))
      ≡ rows_before ranged.log.statements (ranged.first + index) access.key.table access.key.row
  row-by is =
      ap (λ word. row_numbers (row_referred batch access.key word)) by_access.1
      ∙ ap row_numbers
      (row-final batch access.key (writer_reference batch index access.key)
      ∙ sym (row-right batch (batches_are_sound (range_of ranged) is) index access.key)
      ∙ (serial_runs_agree (range_of ranged) is index).rows access.key)
      ∙ numbers-told ranged is (ranged.first + index) access.key

-- a reader is what its parts are
pub reader-is : (reader : Reader) (batch : Batch) (index : ℕ) → reader.batch ≡ batch → index ≡ reader.index → reader ≡ record { batch = batch; index = index }
reader-is reader batch index of at =
    let with_batch : Batch → Reader = λ b. record { batch = b; index = reader.index } in
    let with_index : ℕ → Reader = λ i. record { batch = batch; index = i } in
    ap with_batch of ∙ ap with_index (sym at)
