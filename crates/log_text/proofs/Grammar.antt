-- Lines and the statements that they read as.
use Rattle.std.proofs.Common.{◌≡◌, ◌≢◌, ℕ, ◌<◌, ◌≤◌, Bool, true, false, ltb, cond, eqb, List, [], ◌∷◌, length, Option, Some, None, Result, Ok, Err, refl, ap, sym, ◌∙◌, subst, arith}
use Rattle.std.specs.Prelude.{MatchResult, IfOk, IfErr, OnOk}
use Rattle.std.specs.List.{list_all, join_with_byte}
use Rattle.std.proofs.lemmas.List.Splits.{join_with_byte-slice_split}
use Rattle.std.proofs.lemmas.Bool.{le-ltb, lt-ltb, cond-true, cond-false, ne_eqb}
use Rattle.line_words.specs.Words.{words, is_name}
use Rattle.log_text.specs.Statement.{Sentence, form_words, statement_words, spelling, IsFormInGrammar, IsFormOf, IsInGrammar, ReadsIn}
use Rattle.log_text.specs.declared.statement.RawForm.{RawForm}
use Rattle.log_text.specs.declared.statement.RawForm.TheVariants.{Create, Run, Deed}
use Rattle.log_text.specs.declared.statement.RawDeed.TheVariants.{Grant, Revoke}
use Rattle.log_text.specs.Versions.{version_number}
use Rattle.log_text.specs.declared.version.Version.{Version}
use Rattle.log_text.specs.Fault.{fault_in, fault_from, whole_fault, OfName, OfForm}
use Rattle.line_words.specs.Words.{is_printable}
use Rattle.line_words.specs.Faults.{IsFault}
use Rattle.line_words.specs.declared.fault.LineFault.{LineFault}
use Rattle.line_words.specs.declared.fault.LineFault.TheVariants.{TooLong, NotAscii, Empty, UnknownWord, BadNumber, BadName, TooManySteps, TooManyAccesses, BadRegister, TooManyGrantees, DuplicateGrantee, NoMemory}
use Rattle.log_text.proofs.OneSpelling.{one_form}
use Rattle.log_text.proofs.Fits.{form_fits}
use Rattle.log_text.proofs.FormPrintable.{form_printable}
use Rattle.line_words.proofs.Printable.{IsPrintable, printable_name, printable_join}

-- a line is the spelling of what it reads as
pub line_is_spelling : (line : List ℕ) (s : Sentence) → words line ≡ statement_words s → line ≡ spelling s
line_is_spelling line s same = sym (join_with_byte-slice_split 32 line) ∙ ap (join_with_byte 32) same

-- words that a short line has are those of a short statement
pub is_short : (line : List ℕ) (s : Sentence) → words line ≡ statement_words s → length line ≤ 4096 → length (spelling s) ≤ 4096
is_short line s e low = omega (arith, ap length (sym (join_with_byte-slice_split 32 line) ∙ ap (join_with_byte 32) e))

-- a line that is read
pub reads : (version : Version) (line user : List ℕ) (form : RawForm) → words line ≡ user ∷ form_words form → is_name user ≡ true → IsFormInGrammar form → IsFormOf (version_number version) form → length line ≤ 4096 → ReadsIn version line (record { user = user; form = form })
reads version line user form same named grammar of low = record {
  same = same;
  lists = of;
  grammar = record { user = named; form = grammar; short = is_short line (record { user = user; form = form }) same low };
}

-- the fields of a statement
same_statement : (s t : Sentence) → s.user ≡ t.user → s.form ≡ t.form → s ≡ t
same_statement s t u f =
    let make : List ℕ → RawForm → Sentence = λ user form. record { user = user; form = form } in
    ap (λ user. make user s.form) u ∙ ap (make t.user) f

-- a line reads as one statement
pub one_statement : (version : Version) (line : List ℕ) (s t : Sentence) → ReadsIn version line s → ReadsIn version line t → s ≡ t
one_statement version line s t a b =
    let e : statement_words s ≡ statement_words t = sym a.same ∙ b.same in
    let u : s.user ≡ t.user = cc in
    let f : form_words s.form ≡ form_words t.form = cc in
    same_statement s t u (one_form s.form t.form a.grammar.form b.grammar.form f)

-- the words of a statement fit their places
pub words_fit : (v : ℕ) (s : Sentence) → IsInGrammar s → IsFormOf v s.form → fault_from (OfName ∷ OfForm v ∷ []) (statement_words s) ≡ None
words_fit v s h of = rw h.user (form_fits v s.form h.form of)

printable_line : (version : Version) (line : List ℕ) (s : Sentence) → ReadsIn version line s → IsPrintable line
printable_line version line s r =
    subst IsPrintable (sym (line_is_spelling line s r.same)) (printable_join (statement_words s) (printable_name s.user r.grammar.user, form_printable s.form r.grammar.form))

two_words : (f : RawForm) (w : List ℕ) → ([] ∷ []) ≡ w ∷ form_words f → ⊥
two_words (Create t n) w e = cc
two_words (Run xs ss d) w e = cc
two_words (Deed (Grant k t g o)) w e = cc
two_words (Deed (Revoke k t g)) w e = cc

not_empty : (version : Version) (line : List ℕ) (s : Sentence) → ReadsIn version line s → length line ≡ 0 → ⊥
not_empty version [] s r e = two_words s.form s.user r.same
not_empty version (b ∷ bs) s r e = omega arith

third : {A : Type 0} (a b c : Bool) (x y z w : A) → a ≡ false → b ≡ false → c ≡ true → cond a x (cond b y (cond c z w)) ≡ z
third a b c x y z w p q r = cond-false a x (cond b y (cond c z w)) p ∙ cond-false b y (cond c z w) q ∙ cond-true c z w r

-- a line that reads as a statement has no fault
pub no_fault : (version : Version) (line : List ℕ) (s : Sentence) → ReadsIn version line s → fault_in version line ≡ None
no_fault version line s r =
    let short : length line ≤ 4096 = omega (arith, ap length (line_is_spelling line s r.same), r.grammar.short) in
    third (ltb 4096 (length line)) (eqb (length line) 0) (list_all is_printable line) (Some TooLong) (Some Empty) (fault_from (OfName ∷ OfForm (version_number version) ∷ []) (words line)) (Some NotAscii)
    (le-ltb 4096 (length line) short) (ne_eqb (length line) 0 (not_empty version line s r)) (printable_line version line s r)
    ∙ ap (fault_from (OfName ∷ OfForm (version_number version) ∷ [])) r.same ∙ words_fit (version_number version) s r.grammar r.lists

-- a line with a fault reads as nothing
pub faulty : (version : Version) (line : List ℕ) (s : Sentence) (f : LineFault) → fault_in version line ≡ Some f → ReadsIn version line s → ⊥
faulty version line s f e r = let n = no_fault version line s r in cc

-- a fault found at a line that reads as something is out of memory
pub only_memory : (version : Version) (line : List ℕ) (s : Sentence) (f : LineFault) → IsFault f (fault_in version line) → ReadsIn version line s → f ≡ NoMemory
only_memory version line s TooLong e r = absurd (faulty version line s TooLong e r)
only_memory version line s NotAscii e r = absurd (faulty version line s NotAscii e r)
only_memory version line s Empty e r = absurd (faulty version line s Empty e r)
only_memory version line s UnknownWord e r = absurd (faulty version line s UnknownWord e r)
only_memory version line s BadNumber e r = absurd (faulty version line s BadNumber e r)
only_memory version line s BadName e r = absurd (faulty version line s BadName e r)
only_memory version line s TooManySteps e r = absurd (faulty version line s TooManySteps e r)
only_memory version line s TooManyAccesses e r = absurd (faulty version line s TooManyAccesses e r)
only_memory version line s BadRegister e r = absurd (faulty version line s BadRegister e r)
only_memory version line s TooManyGrantees e r = absurd (faulty version line s TooManyGrantees e r)
only_memory version line s DuplicateGrantee e r = absurd (faulty version line s DuplicateGrantee e r)
only_memory version line s NoMemory e r = refl

pub only_one : (version : Version) (line : List ℕ) (r : Result Sentence LineFault) → IfOk r (λ s. ReadsIn version line s) → IfErr r (λ f. IsFault f (fault_in version line)) → (s : Sentence) → ReadsIn version line s → MatchResult r (λ found. found ≡ s) (λ f. f ≡ NoMemory)
only_one version line (Ok t) read fault s r = one_statement version line t s read r
only_one version line (Err f) read fault s r = only_memory version line s f fault r

pub sound : (version : Version) (line : List ℕ) (r : Result Sentence LineFault) → IfOk r (λ s. ReadsIn version line s) → OnOk r (fault_in version line ≡ None)
sound version line (Ok s) read = no_fault version line s read
sound version line (Err f) read = tt

-- a fault that was found, and is no out of memory, is the line's
pub found_fault : (f : LineFault) (o : Option LineFault) → IsFault f o → (f ≡ NoMemory → ⊥) → o ≡ Some f
found_fault TooLong o h ne = h
found_fault NotAscii o h ne = h
found_fault Empty o h ne = h
found_fault UnknownWord o h ne = h
found_fault BadNumber o h ne = h
found_fault BadName o h ne = h
found_fault TooManySteps o h ne = h
found_fault TooManyAccesses o h ne = h
found_fault BadRegister o h ne = h
found_fault TooManyGrantees o h ne = h
found_fault DuplicateGrantee o h ne = h
found_fault NoMemory o h ne = absurd (ne refl)

pub other_fault : (version : Version) (line : List ℕ) (r : Result Sentence LineFault) → IfErr r (λ f. IsFault f (fault_in version line)) → IfErr r (λ f. f ≢ NoMemory → fault_in version line ≡ Some f)
other_fault version line (Ok s) h = tt
other_fault version line (Err f) h = λ ne. found_fault f (fault_in version line) h ne

-- the fault of a whole line is the line's
whole_first : (long empty printable : Bool) (words : Option LineFault) (f : LineFault)
    → cond long (Some TooLong) (cond empty (Some Empty) (cond printable None (Some NotAscii))) ≡ Some f
    → cond long (Some TooLong) (cond empty (Some Empty) (cond printable words (Some NotAscii))) ≡ Some f
whole_first true empty printable words f is = is
whole_first false true printable words f is = is
whole_first false false true words f is = absurd (cc)
whole_first false false false words f is = is

whole_line : (version : Version) (line : List ℕ) (f : LineFault) → whole_fault line ≡ Some f → fault_in version line ≡ Some f
whole_line version line f is =
    whole_first (ltb 4096 (length line)) (eqb (length line) 0) (list_all is_printable line) (fault_from (OfName ∷ OfForm (version_number version) ∷ []) (words line)) f is

-- so a line that reads as a statement has none
pub whole_none : (version : Version) (line : List ℕ) (f : LineFault) (s : Sentence) → ReadsIn version line s → whole_fault line ≡ Some f → ⊥
whole_none version line f s reads is = faulty version line s f (whole_line version line f is) reads

-- a line that is too long has that fault
pub whole_long : (line : List ℕ) (f : LineFault) → 4096 < length line → whole_fault line ≡ Some f → TooLong ≡ f
whole_long line f long is =
    let there : Some TooLong ≡ Some f = sym (cond-true (ltb 4096 (length line)) (Some TooLong) _ (lt-ltb 4096 (length line) long)) ∙ is in cc
