-- No two accesses of a statement that the log takes name one row.
use Rattle.std.proofs.Common.{◌≡◌, ℕ, pos, ◌<◌, ◌++◌, Bool, true, false, not, cond, List, [], ◌∷◌, length, map, Some, None, refl, ap, sym, ◌∙◌, subst}
use Rattle.std.specs.Prelude.{bytes_eq, ◌==◌, ◌&&◌, get_or}
use Rattle.std.specs.List.{find, list_any}
use Rattle.std.specs.Ordering.{int_eq}
use Rattle.std.proofs.lemmas.Bool.{and_parts, eq-eqb, eqb-true, false_from_ne_true, not-true, true≢false}
use Rattle.std.proofs.Math.Bool.{or-true}
use Rattle.std.proofs.lemmas.Bool.Decides.{Decides-int_eq}
use Rattle.std.proofs.lemmas.List.Folds.{list_any-append}
use Rattle.std.proofs.lemmas.List.Sums.{passes_at_first}
use Rattle.std.proofs.lemmas.Slice.Eq.{bytes_eq-Decides}
use Rattle.model_base.specs.declared.statement.Access.{Access}
use Rattle.model_base.specs.Body.{is_of}
use Rattle.model_base.specs.Versions.{accesses_of}
use Rattle.body.specs.Laws.{AreApart, IsOther}
use Rattle.log_text.specs.Statement.{Sentence}
use Rattle.line_words.specs.declared.access.RawAccess.{RawAccess}
use Rattle.log_text.specs.declared.statement.RawForm.{RawForm}
use Rattle.sequencer.specs.Names.{is_known, number_of}
use Rattle.sequencer.specs.Catalog.{Names, deed_in, numbered, numbered_access, numbered_form, with_users}
use Rattle.sequencer.specs.Refusal.{access_refusal, accesses_refusal, form_refusal, refusal, same_row, refuse_unless}
use Rattle.sequencer.specs.declared.refused.Refused.{Refused}
use Rattle.sequencer.proofs.Passed.{both_none, form_passes, known-below, passes}

-- the name of a number that is of a name
name_at : (names : List (List ℕ)) (name : List ℕ) → number_of names name < length names → name ≡ get_or names (number_of names name) []
name_at names name low = (bytes_eq-Decides name (get_or names (number_of names name) [])).0 (passes_at_first (bytes_eq name) names [] low)

-- a known name and another with its number are one
pub one_name : (names : List (List ℕ)) (name other : List ℕ) → is_known names name ≡ true → number_of names name ≡ number_of names other → name ≡ other
one_name names name other known same =
    let low : number_of names name < length names = known-below names name known in
    name_at names name low ∙ ap (λ (number : ℕ). get_or names number []) same
    ∙ sym (name_at names other (subst (λ (number : ℕ). number < length names) same low))

-- two accesses with one key are to one row, where the table of the first is known
same_from_key : (names : Names) (users : List (List ℕ)) (access other : RawAccess) → is_known names.tables access.table ≡ true
    → is_of (number_of names.tables other.table) (pos other.row) (numbered_access (record names { users = users }) access) ≡ true → same_row access other ≡ true
same_from_key names users access other known e =
    let parts = and_parts (number_of names.tables access.table == number_of names.tables other.table) (int_eq (pos access.row) (pos other.row)) e in
    let number = eqb-true (number_of names.tables access.table) (number_of names.tables other.table) parts.0 in
    let table : access.table ≡ other.table = one_name names.tables access.table other.table known number in
    let rows : pos access.row ≡ pos other.row = (Decides-int_eq (pos access.row) (pos other.row)).0 parts.1 in
    let row : access.row ≡ other.row = cc in
    ap (λ (b : Bool). b && bytes_eq access.table other.table) (eq-eqb access.row other.row row)
    ∙ (bytes_eq-Decides access.table other.table).1 table

-- an access is among these for every access to its row
abbrev pub IsAmong : RawAccess → List RawAccess → Type 0
IsAmong access earlier = (other : RawAccess) → same_row other access ≡ true → list_any (same_row other) earlier ≡ true

stays_among : (access next : RawAccess) (earlier : List RawAccess) → IsAmong access earlier → IsAmong access (earlier ++ next ∷ [])
stays_among access next earlier among other same = rw (list_any-append (same_row other) earlier (next ∷ []), among other same) refl

last_among : (access : RawAccess) (earlier : List RawAccess) → IsAmong access (earlier ++ access ∷ [])
last_among access earlier other same =
    rw (list_any-append (same_row other) earlier (access ∷ []), same, or-true (list_any (same_row other) earlier)) refl

-- no access that the log takes is to the row of an earlier one
others : (names : Names) (users : List (List ℕ)) (first : RawAccess) (earlier accesses : List RawAccess) → IsAmong first earlier
    → accesses_refusal names earlier accesses ≡ None
    → IsOther (map (numbered_access (record names { users = users })) accesses) (number_of names.tables first.table) first.row
others names users first earlier [] among e = refl
others names users first earlier (access ∷ accesses) among e =
    let named : Names = record names { users = users } in
    let test : Access → Bool = is_of (number_of names.tables first.table) (pos first.row) in
    let found : List Access = map (numbered_access named) accesses in
    let parts = both_none (access_refusal names earlier access) _ e in
    let here = both_none (refuse_unless (is_known names.tables access.table) Refused.UnknownTable) _ parts.0 in
    let known = passes (is_known names.tables access.table) Refused.UnknownTable here.0 in
    let new = not-true (list_any (same_row access) earlier) (passes (not (list_any (same_row access) earlier)) Refused.DuplicateAccess here.1) in
    let other : test (numbered_access named access) ≡ false =
    false_from_ne_true (test (numbered_access named access))
    (λ same. true≢false (sym (among access (same_from_key names users access first known same)) ∙ new)) in
    ap (λ (b : Bool). cond b (Some (numbered_access named access)) (find test found)) other
    ∙ others names users first (earlier ++ access ∷ []) accesses (stays_among first access earlier among) parts.1

apart_from : (names : Names) (users : List (List ℕ)) (earlier accesses : List RawAccess) → accesses_refusal names earlier accesses ≡ None
    → AreApart (map (numbered_access (record names { users = users })) accesses)
apart_from names users earlier [] e = tt
apart_from names users earlier (access ∷ accesses) e =
    let parts = both_none (access_refusal names earlier access) (accesses_refusal names (earlier ++ access ∷ []) accesses) e in
    (others names users access (earlier ++ access ∷ []) accesses (last_among access earlier) parts.1, apart_from names users (earlier ++ access ∷ []) accesses parts.1)

form_apart : (names : Names) (users : List (List ℕ)) (form : RawForm) → form_refusal names form ≡ None
    → AreApart (accesses_of (numbered_form (record names { users = users }) form))
form_apart names users (RawForm.Run accesses steps deed) e =
    apart_from names users [] accesses (both_none (accesses_refusal names [] accesses) _ e).0
form_apart names users form e = tt

pub apart_accesses : (names : Names) (sentence : Sentence) → refusal names sentence ≡ None → AreApart (accesses_of (numbered names sentence).form)
apart_accesses names sentence e = form_apart names (with_users names sentence.user (deed_in sentence.form)).users sentence.form (form_passes names sentence e)
