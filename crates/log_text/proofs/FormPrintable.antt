-- The words of a form are printable.
use Rattle.std.proofs.Common.{◌≡◌, ℕ, Bool, true, false, List, [], ◌∷◌, ◌++◌, map, Option, Some, None, refl, arith}
use Rattle.std.specs.Prelude.{decimal, codes}
use Rattle.std.specs.List.{AllByRecursion, flat_map, list_all}
use Rattle.model_base.specs.declared.statement.Operation.{Operation}
use Rattle.model_base.specs.declared.statement.Operation.TheVariants.{Add, Sub, Mul, Less, Same}
use Rattle.model_base.specs.declared.statement.RowName.{RowName}
use Rattle.model_base.specs.declared.statement.RowName.TheVariants.{Number, Held}
use Rattle.log_text.specs.declared.statement.RawStep.{RawStep}
use Rattle.log_text.specs.declared.statement.RawStep.TheVariants.{Const, Compute, Has, Load, Store, Insert, Delete, Check, Skip, Out}
use Rattle.log_text.specs.declared.statement.RawForm.{RawForm}
use Rattle.log_text.specs.declared.statement.RawForm.TheVariants.{Create, Run, Deed}
use Rattle.log_text.specs.declared.statement.RawDeed.{RawDeed}
use Rattle.log_text.specs.declared.statement.RawDeed.TheVariants.{Grant, Revoke}
use Rattle.line_words.specs.StepWords.{operation_word}
use Rattle.line_words.specs.Access.{access_word, letters, letter_if, IsAccess}
use Rattle.log_text.specs.Statement.{body_words, deed_words, kinds_word, last_deed, further_step, step_words, row_word, form_words, IsDeed, IsFormInGrammar, IsLastDeed, IsStep, IsRowNumber, IsRegister}
use Rattle.line_words.specs.Words.{is_printable}
use Rattle.model_base.specs.declared.deed.Kinds.{Kinds}
use Rattle.line_words.specs.declared.access.RawAccess.{RawAccess}
use Rattle.std.proofs.lemmas.Bool.{and_from}
use Rattle.log_text.proofs.GranteeLists.{printable_grantees}
use Rattle.line_words.proofs.Printable.{IsPrintable, printable_name, printable_decimal, printable_signed, printable_append}

both : (xs ys : List (List ℕ)) → AllByRecursion IsPrintable xs → AllByRecursion IsPrintable ys → AllByRecursion IsPrintable (xs ++ ys)
both [] ys h k = k
both (x ∷ xs) ys h k = (h.0, both xs ys h.1 k)

letter_if_printable : (b : Bool) (c : ℕ) → is_printable c ≡ true → IsPrintable (letter_if b c)
letter_if_printable true c h = and_from (is_printable c) true h refl
letter_if_printable false c h = refl

letters_printable : (k : Kinds) → IsPrintable (letters k)
letters_printable k =
    printable_append (letter_if k.read 82) _ (letter_if_printable k.read 82 refl)
    (printable_append (letter_if k.insert 73) _ (letter_if_printable k.insert 73 refl)
    (printable_append (letter_if k.update 85) _ (letter_if_printable k.update 85 refl) (letter_if_printable k.delete 68 refl)))

colon : (w : List ℕ) → IsPrintable w → IsPrintable (58 ∷ w)
colon w h = and_from (is_printable 58) (list_all is_printable w) refl h

access : (a : RawAccess) → IsAccess a → IsPrintable (access_word a)
access a h =
    printable_append a.table (58 ∷ (decimal a.row ++ 58 ∷ letters a.kinds)) (printable_name a.table h.0)
    (colon (decimal a.row ++ 58 ∷ letters a.kinds) (printable_append (decimal a.row) (58 ∷ letters a.kinds) (printable_decimal a.row (omega (arith, h.1))) (colon (letters a.kinds) (letters_printable a.kinds))))

accesses : (xs : List RawAccess) → AllByRecursion IsAccess xs → AllByRecursion IsPrintable (map access_word xs)
accesses [] h = tt
accesses (x ∷ xs) h = (access x h.0, accesses xs h.1)

register : (n : ℕ) → IsRegister n → IsPrintable (decimal n)
register n h = printable_decimal n (omega arith)

registers : (rs : List ℕ) → AllByRecursion IsRegister rs → AllByRecursion IsPrintable (map decimal rs)
registers [] h = tt
registers (r ∷ rs) h = (register r h.0, registers rs h.1)

row : (r : RowName) → IsRowNumber r → IsPrintable (row_word r)
row (Number n) h = printable_decimal n (omega (arith, h))
row (Held n) h = printable_append (codes "r") (decimal n) refl (register n h)

operation_printable : (operation : Operation) → IsPrintable (operation_word operation)
operation_printable Add = refl
operation_printable Sub = refl
operation_printable Mul = refl
operation_printable Less = refl
operation_printable Same = refl

step : (s : RawStep) → IsStep s → AllByRecursion IsPrintable (step_words s)
step (Const to value) h = (refl, (register to h.0, (printable_signed value h.1, tt)))
step (Compute operation to left right) h =
    (operation_printable operation, (register to h.0, (register left h.1, (register right h.2, tt))))
step (Has to table r) h = (refl, (register to h.0, (printable_name table h.1, (row r h.2, tt))))
step (Load to table r column) h = (refl, (register to h.0, (printable_name table h.1, (row r h.2, (printable_decimal column (omega (arith, h.3)), tt)))))
step (Store table r column from) h = (refl, (printable_name table h.0, (row r h.1, (printable_decimal column (omega (arith, h.2)), (register from h.3, tt)))))
step (Insert table r from) h = (refl, (printable_name table h.0, (row r h.1, registers from h.4)))
step (Delete table r) h = (refl, (printable_name table h.0, (row r h.1, tt)))
step (Check of) h = (refl, (register of h, tt))
step (Skip of steps) h = (refl, (register of h.0, (printable_decimal steps (omega (arith, h.1)), tt)))
step (Out of) h = (refl, (register of h, tt))

steps : (ss : List RawStep) → AllByRecursion IsStep ss → AllByRecursion IsPrintable (flat_map further_step ss)
steps [] h = tt
steps (s ∷ ss) h = (refl, both (step_words s) (flat_map further_step ss) (step s h.0) (steps ss h.1))

made_printable : (r i u d : Bool) → IsPrintable (kinds_word (record { read = r; insert = i; update = u; delete = d }))
made_printable true true true true = refl
made_printable true true true false = refl
made_printable true true false true = refl
made_printable true true false false = refl
made_printable true false true true = refl
made_printable true false true false = refl
made_printable true false false true = refl
made_printable true false false false = refl
made_printable false true true true = refl
made_printable false true true false = refl
made_printable false true false true = refl
made_printable false true false false = refl
made_printable false false true true = refl
made_printable false false true false = refl
made_printable false false false true = refl
made_printable false false false false = refl

kinds_printable : (k : Kinds) → IsPrintable (kinds_word k)
kinds_printable k = made_printable k.read k.insert k.update k.delete

deed : (d : RawDeed) → IsDeed d → AllByRecursion IsPrintable (deed_words d)
deed (Grant k t g true) h = (refl, (kinds_printable k, (printable_name t h.1, (printable_grantees g h.2.2, (refl, tt)))))
deed (Grant k t g false) h = (refl, (kinds_printable k, (printable_name t h.1, (printable_grantees g h.2.2, tt))))
deed (Revoke k t g) h = (refl, (kinds_printable k, (printable_name t h.1, (printable_grantees g h.2.2, tt))))

ending : (d : Option RawDeed) → IsLastDeed d → AllByRecursion IsPrintable (last_deed d)
ending None h = tt
ending (Some d) h = (refl, deed d h)

pub form_printable : (f : RawForm) → IsFormInGrammar f → AllByRecursion IsPrintable (form_words f)
form_printable (Create t n) h = (refl, (printable_name t h.0, (printable_decimal n (omega (arith, h)), tt)))
form_printable (Run xs ss d) h =
    (refl, both (map access_word xs) (body_words ss d) (accesses xs h.2) (both (flat_map further_step ss) (last_deed d) (steps ss h.5) (ending d h.6)))
form_printable (Deed d) h = deed d h
