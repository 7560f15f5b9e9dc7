-- The words of a form fit their places.
use Rattle.std.proofs.Common.{◌&&◌, ◌≡◌, Bool, ℕ, ◌+◌, ◌<◌, ◌≤◌, not, true, false, ltb, List, [], ◌∷◌, ◌++◌, length, map, drop, Option, Some, None, refl, ap, sym, ◌∙◌, arith, add-zero}
use Rattle.std.specs.Prelude.{decimal, IsTrue, if◌then◌else◌}
use Rattle.std.specs.List.{list_any, AllByRecursion, sum_by}
use Rattle.std.proofs.lemmas.List.Sums.{sum_by-cons}
use Rattle.std.proofs.lemmas.Bool.{lt-ltb}
use Rattle.line_words.specs.Words.{first_word, is_name, plain}
use Rattle.line_words.specs.Faults.{or_else, unless}
use Rattle.line_words.specs.declared.fault.LineFault.TheVariants.{BadName}
use Rattle.log_text.specs.declared.statement.RawStep.{RawStep}
use Rattle.log_text.specs.declared.statement.RawStep.TheVariants.{Const, Compute, Has, Load, Store, Insert, Delete, Check, Skip, Out}
use Rattle.log_text.specs.declared.statement.RawForm.{RawForm}
use Rattle.log_text.specs.declared.statement.RawForm.TheVariants.{Create, Run, Deed}
use Rattle.log_text.specs.declared.statement.RawDeed.{RawDeed}
use Rattle.log_text.specs.declared.grantees.RawGrantee.{RawGrantee}
use Rattle.model_base.specs.declared.deed.Kinds.{Kinds}
use Rattle.model_base.specs.Outcomes.{kinds_in}
use Rattle.log_text.specs.Versions.{MayHaveParts}
use Rattle.log_text.specs.declared.statement.RawDeed.TheVariants.{Grant, Revoke}
use Rattle.line_words.specs.Access.{access_fault, access_word, IsAccess}
use Rattle.line_words.specs.declared.access.RawAccess.{RawAccess}
use Rattle.log_text.specs.Statement.{body_words, deed_words, kinds_word, option_words, step_words, form_words, IsDeed, IsDeedOf, IsFormInGrammar, IsFormOf, IsLastDeed, IsLastDeedOf, IsStep, IsRegister, outs_of}
use Rattle.log_text.specs.Grantees.{grantees_word, is_everyone, AreGrantees}
use Rattle.log_text.specs.Fault.{Expected, expected_behind, expected_in_deed, expected_in_grant, fault_from, misfit, OfForm, OfGrantees, OfKinds, OfName, OfNext, OfOption, OfStep, OfBar, OfMore, register_fault, is_bar}
use Rattle.line_words.proofs.Plain.{plain_of_decimal}
use Rattle.log_text.proofs.Rows.{register_fits, row_fits}
use Rattle.log_text.proofs.Bars.{no_bar, decimal_ne_bar, access_ne_bar}
use Rattle.log_text.proofs.AccessFit.{access_fits}
use Rattle.line_words.proofs.Whole.{whole_of_decimal}
use Rattle.log_text.proofs.KindLists.{kinds_fit}
use Rattle.log_text.proofs.GranteeLists.{grantees_fit, public_parts}
use Rattle.line_words.proofs.StepNames.{named_operation}
use Rattle.log_text.proofs.OperationWords.{begins_no_deed}
use Rattle.log_text.proofs.Tails.{IsTail, body_is_tail, body_more}

-- one more register of an INSERT
one_more : (w : List ℕ) (v n steps outs : ℕ) (ws : List (List ℕ)) → is_bar w ≡ false → ltb n 8 ≡ true → register_fault (plain w) ≡ None →
    fault_from (OfMore v n steps outs ∷ []) (w ∷ ws) ≡ fault_from (OfMore v (n + 1) steps outs ∷ []) ws
one_more w v n steps outs ws a b c = rw (a, b, c) refl

-- one more access
one_access : (w : List ℕ) (v n : ℕ) (ws : List (List ℕ)) → is_bar w ≡ false → ltb n 16 ≡ true → access_fault w ≡ None →
    fault_from (OfNext v n ∷ []) (w ∷ ws) ≡ fault_from (OfNext v (n + 1) ∷ []) ws
one_access w v n ws a b c = rw (a, b, c) refl

more_as_bar : (tail : List (List ℕ)) (v n steps outs : ℕ) → IsTail tail → fault_from (OfMore v n steps outs ∷ []) tail ≡ fault_from (OfBar v steps outs ∷ []) tail
more_as_bar [] v n steps outs is = refl
more_as_bar (w ∷ ws) v n steps outs is = rw is refl

next_as_bar : (tail : List (List ℕ)) (v n : ℕ) → IsTail tail → fault_from (OfNext v n ∷ []) tail ≡ fault_from (OfBar v 0 0 ∷ []) tail
next_as_bar [] v n is = refl
next_as_bar (w ∷ ws) v n is = rw is refl

registers_fit : (rs : List ℕ) (v n steps outs : ℕ) (tail : List (List ℕ)) → IsTail tail → n + length rs ≤ 8 → AllByRecursion IsRegister rs →
    fault_from (OfMore v n steps outs ∷ []) (map decimal rs ++ tail) ≡ fault_from (OfBar v steps outs ∷ []) tail
registers_fit [] v n steps outs tail is low h = more_as_bar tail v n steps outs is
registers_fit (r ∷ rs) v n steps outs tail is low h =
    one_more (decimal r) v n steps outs (map decimal rs ++ tail) (no_bar (decimal r) (decimal_ne_bar r (omega (arith, h.0)))) (lt-ltb n 8 (omega arith)) (register_fits r h.0)
    ∙ registers_fit rs v (n + 1) steps outs tail is (omega arith) h.1

accesses_fit : (xs : List RawAccess) (v n : ℕ) (tail : List (List ℕ)) → IsTail tail → n + length xs ≤ 16 → AllByRecursion IsAccess xs →
    fault_from (OfNext v n ∷ []) (map access_word xs ++ tail) ≡ fault_from (OfBar v 0 0 ∷ []) tail
accesses_fit [] v n tail is low h = next_as_bar tail v n is
accesses_fit (x ∷ xs) v n tail is low h =
    one_access (access_word x) v n (map access_word xs ++ tail) (no_bar (access_word x) (access_ne_bar x h.0)) (lt-ltb n 16 (omega arith)) (access_fits x h.0) ∙ accesses_fit xs v (n + 1) tail is (omega arith) h.1

step_fits : (s : RawStep) (tail : List (List ℕ)) (v n o : ℕ) → IsTail tail → n < 64 → o + outs_of s ≤ 8 → IsStep s →
    fault_from (OfStep v n o ∷ []) (step_words s ++ tail) ≡ fault_from (OfBar v (n + 1) (o + outs_of s) ∷ []) tail
step_fits (Const to value) tail v n o is low few h = rw (lt-ltb n 64 low, register_fits to h.0, whole_of_decimal value h.1, add-zero) refl
step_fits (Compute operation to left right) tail v n o is low few h =
    rw (begins_no_deed operation, named_operation operation, lt-ltb n 64 low, register_fits to h.0, register_fits left h.1, register_fits right h.2, add-zero) refl
step_fits (Has to table row) tail v n o is low few h = rw (lt-ltb n 64 low, register_fits to h.0, h.1, row_fits row h.2, add-zero) refl
step_fits (Load to table row column) tail v n o is low few h =
    rw (lt-ltb n 64 low, register_fits to h.0, h.1, row_fits row h.2, plain_of_decimal column h.3, add-zero) refl
step_fits (Store table row column from) tail v n o is low few h =
    rw (lt-ltb n 64 low, h.0, row_fits row h.1, plain_of_decimal column h.2, register_fits from h.3, add-zero) refl
step_fits (Insert t r []) tail v n o is low few h = absurd (omega (arith, h.2))
step_fits (Insert t r (x ∷ xs)) tail v n o is low few h =
    let p : fault_from (OfStep v n o ∷ []) (step_words (Insert t r (x ∷ xs)) ++ tail) ≡ fault_from (OfMore v 1 (n + 1) o ∷ []) (map decimal xs ++ tail) =
    rw (lt-ltb n 64 low, h.0, row_fits r h.1, register_fits x h.4.0) refl in
    p ∙ registers_fit xs v 1 (n + 1) o tail is (omega (arith, h.3)) h.4.1 ∙ ap (λ k. fault_from (OfBar v (n + 1) k ∷ []) (tail)) (sym (add-zero o))
step_fits (Delete table row) tail v n o is low few h = rw (lt-ltb n 64 low, h.0, row_fits row h.1, add-zero) refl
step_fits (Check of) tail v n o is low few h = rw (lt-ltb n 64 low, register_fits of h, add-zero) refl
step_fits (Skip of steps) tail v n o is low few h = rw (lt-ltb n 64 low, register_fits of h.0, plain_of_decimal steps h.1, add-zero) refl
step_fits (Out of) tail v n o is low few h = rw (lt-ltb n 64 low, lt-ltb o 8 (omega arith), register_fits of h) refl

-- OPTION or the end, or the end alone
option_fits : (o everyone : Bool) → IsTrue (not (o && everyone)) → fault_from ((if true && not everyone then OfOption ∷ [] else []) ++ []) (option_words o) ≡ None
option_fits true true may = absurd cc
option_fits true false may = refl
option_fits false true may = refl
option_fits false false may = refl

-- the grantees of a grant, and what is after them
grantees_on : (v : ℕ) (g : List RawGrantee) (o : Bool) → AreGrantees g → MayHaveParts v (length g) → IsTrue (not (o && list_any is_everyone g))
    → fault_from (OfGrantees v true ∷ []) (grantees_word g ∷ option_words o) ≡ None
grantees_on v g o is lists may =
    ap (λ f. or_else f (fault_from (expected_behind (OfGrantees v true) (grantees_word g) ++ []) (option_words o))) (grantees_fit v g is lists)
    ∙ ap (λ b. fault_from ((if true && not b then OfOption ∷ [] else []) ++ []) (option_words o)) (public_parts v g is lists)
    ∙ option_fits o (list_any is_everyone g) may

-- those of a revocation, which are the last word
grantees_last : (v : ℕ) (g : List RawGrantee) → AreGrantees g → MayHaveParts v (length g) → fault_from (OfGrantees v false ∷ []) (grantees_word g ∷ []) ≡ None
grantees_last v g is lists = ap (λ f. or_else f None) (grantees_fit v g is lists)

option_if : (b : Bool) (ws : List (List ℕ)) → fault_from ((if true && not b then OfOption ∷ [] else []) ++ []) ws ≡ fault_from (if b then [] else OfOption ∷ []) ws
option_if true ws = refl
option_if false ws = refl

-- after the grantees of a grant
pub grant_goes : (v : ℕ) (k : Kinds) (t : List ℕ) (g : List RawGrantee) (ws : List (List ℕ)) → misfit (OfKinds v) (kinds_word k) ≡ None → is_name t ≡ true → AreGrantees g → MayHaveParts v (length g)
    → fault_from (expected_in_grant v) (kinds_word k ∷ t ∷ grantees_word g ∷ ws) ≡ fault_from (if list_any is_everyone g then [] else OfOption ∷ []) ws
grant_goes v k t g ws fits is are lists =
    ap (λ f. or_else f (fault_from (OfName ∷ OfGrantees v true ∷ []) (t ∷ grantees_word g ∷ ws))) fits
    ∙ ap (λ b. or_else (unless b BadName) (fault_from (OfGrantees v true ∷ []) (grantees_word g ∷ ws))) is
    ∙ ap (λ f. or_else f (fault_from (expected_behind (OfGrantees v true) (grantees_word g) ++ []) ws)) (grantees_fit v g are lists)
    ∙ ap (λ b. fault_from ((if true && not b then OfOption ∷ [] else []) ++ []) ws) (public_parts v g are lists)
    ∙ option_if (list_any is_everyone g) ws

-- what follows the word that begins a deed
parties_fit : (v : ℕ) (k : Kinds) (t : List ℕ) (ps : List Expected) (ws : List (List ℕ)) → 1 ≤ length (kinds_in k) → MayHaveParts v (length (kinds_in k)) → is_name t ≡ true
    → fault_from ps ws ≡ None → fault_from (OfKinds v ∷ OfName ∷ ps) (kinds_word k ∷ t ∷ ws) ≡ None
parties_fit v k t ps ws some lists is rest =
    ap (λ f. or_else f (fault_from (OfName ∷ ps) (t ∷ ws))) (kinds_fit v k some lists) ∙ ap (λ b. or_else (unless b BadName) (fault_from ps ws)) is ∙ rest

deed_follows : (d : RawDeed) (v : ℕ) → IsDeed d → IsDeedOf v d → fault_from (expected_in_deed v (first_word (deed_words d)) ++ []) (drop 1 (deed_words d)) ≡ None
deed_follows (Grant k t g o) v h j = parties_fit v k t (OfGrantees v true ∷ []) (grantees_word g ∷ option_words o) h.0 j.0 h.1 (grantees_on v g o h.2 j.1 h.3)
deed_follows (Revoke k t g) v h j = parties_fit v k t (OfGrantees v false ∷ []) (grantees_word g ∷ []) h.0 j.0 h.1 (grantees_last v g h.2 j.1)

-- the words of a deed, where a step may be
deed_fits : (d : RawDeed) (v n o : ℕ) → IsDeed d → IsDeedOf v d → fault_from (OfStep v n o ∷ []) (deed_words d) ≡ None
deed_fits (Grant k t g o) v n m h j = deed_follows (Grant k t g o) v h j
deed_fits (Revoke k t g) v n m h j = deed_follows (Revoke k t g) v h j

body_fits : (ss : List RawStep) (d : Option RawDeed) (v n o : ℕ) → n + length ss ≤ 64 → o + sum_by outs_of ss ≤ 8 → AllByRecursion IsStep ss → IsLastDeed d → IsLastDeedOf v d
    → fault_from (OfBar v n o ∷ []) (body_words ss d) ≡ None
body_fits [] None v n o low few h k j = refl
body_fits [] (Some d) v n o low few h k j = deed_fits d v n o k j
body_fits (s ∷ ss) d v n o low few h k j =
    let e = sum_by-cons outs_of s ss in
    ap (fault_from (OfBar v n o ∷ [])) (body_more s ss d)
    ∙ step_fits s (body_words ss d) v n o (body_is_tail ss d) (omega arith) (omega (arith, e)) h.0
    ∙ body_fits ss d v (n + 1) (o + outs_of s) (omega arith) (omega (arith, e)) h.1 k j

pub form_fits : (v : ℕ) (f : RawForm) → IsFormInGrammar f → IsFormOf v f → fault_from (OfForm v ∷ []) (form_words f) ≡ None
form_fits v (Create t n) h j = rw (h.0, plain_of_decimal n h.1) refl
form_fits v (Run [] ss d) h j = absurd (omega arith)
form_fits v (Run (x ∷ xs) ss d) h j =
    let p : fault_from (OfForm v ∷ []) (form_words (Run (x ∷ xs) ss d)) ≡ fault_from (OfNext v 1 ∷ []) (map access_word xs ++ body_words ss d) = rw (access_fits x h.2.0) refl in
    p ∙ accesses_fit xs v 1 (body_words ss d) (body_is_tail ss d) (omega (arith, h.1)) h.2.1 ∙ body_fits ss d v 0 0 (omega (arith, h.3)) (omega (arith, h.4)) h.5 h.6 j
form_fits v (Deed (Grant k t g o)) h j = deed_follows (Grant k t g o) v h j
form_fits v (Deed (Revoke k t g)) h j = deed_follows (Revoke k t g) v h j
