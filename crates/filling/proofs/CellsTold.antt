-- The cells of a place tell the versions that it leaves.
use Rattle.std.proofs.Common.{◌≡◌, ◌<◌, ◌+◌, ◌++◌, ◌^◌, ℕ, ℤ, pos, negsuc, zero, suc, List, [], ◌∷◌, Option, Some, None, drop, length, map, take, refl, ap, sym, ◌∙◌, subst, arith, append_assoc}
use Rattle.std.specs.Prelude.{filter, slice_get}
use Rattle.std.specs.Int.{w64}
use Rattle.std.specs.Int.RustNames.{FitsSigned}
use Rattle.std.specs.List.{flat_map}
use Rattle.std.specs.Option.{option_map_or}
use Rattle.std.proofs.lemmas.Bool.{ltb-true}
use Rattle.std.proofs.lemmas.List.{append-nil}
use Rattle.std.proofs.lemmas.List.Elements.{All-weaker}
use Rattle.model_base.specs.declared.statement.Access.{Access}
use Rattle.model_base.specs.declared.statement.Statement.{Statement}
use Rattle.model_base.specs.Outcomes.{World, at_place, empty_world, owners, rows_before, world_after, world_before}
use Rattle.model_base.specs.Rows.{Rows}
use Rattle.model_base.specs.Versions.{accesses_of, is_writing, writes_of}
use Rattle.model_base.proofs.Replay.{by_cases}
use Rattle.body.specs.Shape.{HaveShape, IsNumber, IsRowOf}
use Rattle.body.proofs.Shapes.{logs_have_shape}
use Rattle.own_words.specs.Places.{cells, words_at}
use Rattle.own_words.specs.Words.{FitsColumns, header, outputs_of, row_of, row_words}
use Rattle.own_words.proofs.Undoing.{header_length, row_length, row_told}
use Rattle.sequencer.specs.Log.{Accepted}
use Rattle.sequencer.specs.Whole.{IsWhole, columns_by}
use Rattle.chains.specs.declared.version.Version.{Version}
use Rattle.chains.specs.Store.{versions_at}
use Rattle.filling.specs.Cells.{versions_told}
use Rattle.filling.proofs.Told.{all-fit, fits, found, left, words-are}

number-fits : (value : ℤ) → IsNumber value → FitsSigned w64 value
number-fits (pos n) fit = record { sfits = ltb-true n 9223372036854775808 fit }
number-fits (negsuc n) fit = record { sfits = ltb-true n 9223372036854775808 fit }

row-fits : (columns : ℕ) (row : Option (List ℤ)) → IsRowOf IsNumber columns row → FitsColumns columns row
row-fits columns None shape = tt
row-fits columns (Some row) shape = (shape.0, All-weaker IsNumber (FitsSigned w64) number-fits row shape.1)

drop-front : {X : Type 0} (n : ℕ) (xs ys : List X) → length xs ≡ n → drop n (xs ++ ys) ≡ ys
drop-front zero [] ys same = refl
drop-front zero (x ∷ xs) ys same = absurd (omega (arith, same))
drop-front (suc n) [] ys same = absurd (omega (arith, same))
drop-front (suc n) (x ∷ xs) ys same = drop-front n xs ys (omega (arith, same))

-- the version of an access, by the rows after a place
abbrev version_of : ℕ → Rows → Access → Version
version_of place rows access = record { place = place; key = access.key; row = rows access.key.table access.key.row }

module _ (columns : ℕ → ℕ) (place : ℕ) (rows : Rows) (shaped : HaveShape columns rows) where
  abbrev words_of : List Access → List ℕ
  words_of accesses = flat_map (λ (access : Access). row_words (columns access.key.table) (rows access.key.table access.key.row)) (filter is_writing accesses)

  pub cells-tell : (accesses : List Access) (more : List ℕ) → versions_told columns place accesses (words_of accesses ++ more) ≡ map (version_of place rows) (filter is_writing accesses)
  cells-tell [] more = refl
  cells-tell (access ∷ accesses) more =
      let count = columns access.key.table in
      let row = rows access.key.table access.key.row in
      let fit = row-fits count row (shaped access.key.table access.key.row) in
      let rest = words_of accesses ++ more in
      let joined : (row_words count row ++ words_of accesses) ++ more ≡ row_words count row ++ rest = append_assoc (row_words count row) (words_of accesses) more in
      let first : row_of count (row_words count row ++ rest) ≡ row = row_told count row rest fit in
      let behind : drop (1 + count) (row_words count row ++ rest) ≡ rest = drop-front (1 + count) (row_words count row) rest (row_length count row fit) in
      by_cases (is_writing access)
      (λ writes.
      rw (writes, joined, first, behind)
      (ap (λ versions. version_of place rows access ∷ versions) (cells-tell accesses more)))
      (λ reads. rw reads (cells-tell accesses more))

-- what is in a list at a place, after which it is taken
pub took : {X : Type 0} (n : ℕ) (xs : List X) (x : X) → slice_get xs n ≡ Some x → take (suc n) xs ≡ take n xs ++ x ∷ []
took n [] x at = absurd (cc)
took zero (y ∷ xs) x at = let same : y ≡ x = cc in ap (λ z. z ∷ []) same
took (suc n) (y ∷ xs) x at = ap (λ zs. y ∷ zs) (took n xs x at)

taken-length : {X : Type 0} (n : ℕ) (xs : List X) (x : X) → slice_get xs n ≡ Some x → length (take n xs) ≡ n
taken-length n [] x at = absurd (cc)
taken-length zero (y ∷ xs) x at = refl
taken-length (suc n) (y ∷ xs) x at = ap suc (taken-length n xs x at)

pub world_after-append : (own : List ℕ) (place : ℕ) (world : World) (xs ys : List Statement)
    → world_after own place world (xs ++ ys) ≡ world_after own (place + length xs) (world_after own place world xs) ys
world_after-append own place world [] ys = let e : place ≡ place + 0 = omega arith in ap (λ (p : ℕ). world_after own p world ys) e
world_after-append own place world (x ∷ xs) ys =
    let e : place + 1 + length xs ≡ place + suc (length xs) = omega arith in
    world_after-append own (place + 1) (at_place own place world x).1 xs ys
    ∙ ap (λ (p : ℕ). world_after own p (world_after own (place + 1) (at_place own place world x).1 xs) ys) e

-- what is after a place of a log
pub world-next : (log : List Statement) (place : ℕ) (statement : Statement) → slice_get log place ≡ Some statement
    → world_before log (place + 1) ≡ (at_place (owners log) place (world_before log place) statement).1
world-next log place statement at =
    let same : 0 + length (take place log) ≡ place = omega (arith, taken-length place log statement at) in
    let one : place + 1 ≡ suc place = omega arith in
    ap (λ (p : ℕ). world_before log p) one
    ∙ ap (λ (xs : List Statement). world_after (owners log) 0 empty_world xs) (took place log statement at)
    ∙ world_after-append (owners log) 0 empty_world (take place log) (statement ∷ [])
    ∙ ap (λ (p : ℕ). (at_place (owners log) p (world_before log place) statement).1) same

-- so the words after the header tell the versions of the place
pub versions_left : (log : Accepted) (place : ℕ) (statement : Statement) (own : List ℕ) → IsWhole log → slice_get log.statements place ≡ Some statement
    → place < 2 ^ 64 → own ≡ words_at (columns_by log.names) log.statements place
    → versions_told (columns_by log.names) place (accesses_of statement.form) (drop (4 + outputs_of statement.form) own) ≡ versions_at log.statements place
versions_left log place statement own whole at low words =
    let columns = columns_by log.names in
    let rows = (left log whole place statement at).rows in
    let front = header statement.form (found log whole place statement at) in
    let fit = fits log whole place statement at low in
    let next : rows_before log.statements (place + 1) ≡ rows = ap (λ (w : World). w.rows) (world-next log.statements place statement at) in
    let shaped : HaveShape columns rows = subst (HaveShape columns) next (logs_have_shape columns log.statements (place + 1) (all-fit log whole place statement at)) in
    ap (λ ws. versions_told columns place (accesses_of statement.form) (drop (4 + outputs_of statement.form) ws)) (words ∙ words-are log whole place statement at)
    ∙ ap (versions_told columns place (accesses_of statement.form))
    (drop-front (4 + outputs_of statement.form) front (cells columns statement.form rows) (header_length statement.form (found log whole place statement at) fit.details)
    ∙ sym (append-nil (cells columns statement.form rows)))
    ∙ cells-tell columns place rows shaped (accesses_of statement.form) []
    ∙ ap (λ (r : Rows). map (version_of place r) (filter is_writing (accesses_of statement.form))) (sym next)
    ∙ sym (ap (λ (s : Option Statement). map (version_of place (rows_before log.statements (place + 1))) (option_map_or writes_of s [])) at)
