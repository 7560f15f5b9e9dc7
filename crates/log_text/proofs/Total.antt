-- A line without a fault reads as a statement.
use Rattle.std.proofs.Common.{◌≡◌, ℕ, ◌+◌, ◌≤◌, ltb, eqb, cond, ◌||◌, List, [], ◌∷◌, ◌++◌, length, map, Some, None, refl, ap, sym, ◌∙◌, inl, inr, arith}
use Rattle.std.specs.Prelude.{codes, bytes_eq}
use Rattle.std.specs.List.{AllByRecursion, list_all}
use Rattle.std.proofs.lemmas.Bool.{cases_Bool, cond-true, cond-false, ltb-true, ltb-false}
use Rattle.std.proofs.lemmas.Slice.Eq.{bytes_eq-Decides}
use Rattle.line_words.specs.Words.{words}
use Rattle.line_words.specs.Access.{access_word, access_fault, IsAccess}
use Rattle.line_words.specs.Faults.{unless, or_else}
use Rattle.log_text.specs.Fault.{OfName, OfPlain, OfForm, OfAccess, OfNext, OfBar, fault_from, fault_in, line_fault, expected_behind, is_bar, is_deed}
use Rattle.line_words.specs.Words.{is_printable}
use Rattle.log_text.specs.Statement.{Sentence, Reads, ReadsIn, form_words, IsFormInGrammar, IsFormOf}
use Rattle.log_text.specs.Versions.{version_number}
use Rattle.log_text.specs.declared.version.Version.{Version}
use Rattle.log_text.specs.declared.version.Version.TheVariants.{One}
use Rattle.line_words.specs.declared.fault.LineFault.TheVariants.{TooLong, NotAscii, Empty, UnknownWord, TooManyAccesses}
use Rattle.line_words.specs.declared.access.RawAccess.{RawAccess}
use Rattle.log_text.specs.declared.statement.RawForm.{RawForm}
use Rattle.log_text.specs.declared.statement.RawForm.TheVariants.{Create, Run, Deed}
use Rattle.log_text.proofs.Grammar.{reads}
use Rattle.log_text.proofs.TotalWords.{both_none, unless_none, access_spells}
use Rattle.log_text.proofs.TotalSteps.{Further, deed_from, ended, further_from, name_next, plain_next, access_next}

-- the words begin with further accesses, when there are this many, and go on with the steps
record Accesses (v k : ℕ) (ws : List (List ℕ)) : Type 0 where
  accesses : List RawAccess
  left : List (List ℕ)
  further : Further v 0 0 left
  same : ws ≡ map access_word accesses ++ left
  room : k + length accesses ≤ 16
  each : AllByRecursion IsAccess accesses

accesses_from : (ws : List (List ℕ)) (v k : ℕ) → k ≤ 16 → fault_from (OfNext v k ∷ []) ws ≡ None → Accesses v k ws
accesses_from [] v k room e = record { accesses = []; left = []; further = further_from v 0 0 0 [] (omega arith) (omega arith) (omega arith) refl; same = refl; room = omega arith; each = tt }
accesses_from (w ∷ ws) v k room e = elim (cases_Bool (is_bar w)) [
  | inl bar ↦
      let f : fault_from (OfBar v 0 0 ∷ []) (w ∷ ws) ≡ None = rw bar (rw bar at e) in
      record { accesses = []; left = w ∷ ws; further = further_from v (length (w ∷ ws)) 0 0 (w ∷ ws) (omega arith) (omega arith) (omega arith) f; same = refl; room = omega arith; each = tt }
  | inr word ↦
      let f : or_else (cond (ltb k 16) (access_fault w) (Some TooManyAccesses)) (fault_from (OfNext v (k + 1) ∷ []) ws) ≡ None = rw word at e in
      let b = both_none (cond (ltb k 16) (access_fault w) (Some TooManyAccesses)) (fault_from (OfNext v (k + 1) ∷ []) ws) f in
      elim (cases_Bool (ltb k 16)) [
        | inl more ↦
            let a = access_spells w (sym (cond-true (ltb k 16) (access_fault w) (Some TooManyAccesses) more) ∙ b.0) in
            let below = ltb-true k 16 more in
            let t = accesses_from ws v (k + 1) (omega arith) b.1 in
            record {
              accesses = a.value ∷ t.accesses;
              left = t.left;
              further = t.further;
              same = ap (λ v. v ∷ ws) a.same ∙ ap (λ v. access_word a.value ∷ v) t.same;
              room = omega (arith, t.room);
              each = (a.good, t.each);
            }
        | inr full ↦ absurd (let g = sym (cond-false (ltb k 16) (access_fault w) (Some TooManyAccesses) full) ∙ b.0 in cc)
      ]
]

-- the words are those of a form
record Form (v : ℕ) (ws : List (List ℕ)) : Type 0 where
  form : RawForm
  same : ws ≡ form_words form
  grammar : IsFormInGrammar form
  lists : IsFormOf v form

create_from : (v : ℕ) (w : List ℕ) (ws : List (List ℕ)) → w ≡ codes "CREATE" → fault_from (OfName ∷ OfPlain ∷ []) ws ≡ None → Form v (w ∷ ws)
create_from v w ws is e =
    let t = name_next (OfPlain ∷ []) ws e in
    let n = plain_next [] t.rest t.goes in
    let first = t.same in
    let second = n.same in
    let third = ended n.rest n.goes in
    record { form = Create t.value n.value; same = cc; grammar = (t.good, n.good); lists = tt }

run_from : (v : ℕ) (w : List ℕ) (ws : List (List ℕ)) → w ≡ codes "RUN" → fault_from (OfAccess ∷ OfNext v 1 ∷ []) ws ≡ None → Form v (w ∷ ws)
run_from v w ws is e =
    let a = access_next (OfNext v 1 ∷ []) ws e in
    let t = accesses_from a.rest v 1 (omega arith) a.goes in
    let s = t.further in
    record {
      form = Run (a.value ∷ t.accesses) s.steps s.deed;
      same = ap (λ v. v ∷ ws) is ∙ ap (λ v. codes "RUN" ∷ v) (a.same ∙ ap (λ v. access_word a.value ∷ v) (t.same ∙ ap (λ v. map access_word t.accesses ++ v) s.same));
      grammar = (omega arith, omega (arith, t.room), (a.good, t.each), omega (arith, s.room), omega (arith, s.few), s.each, s.last);
      lists = s.lists;
    }

form_from : (v : ℕ) (ws : List (List ℕ)) → fault_from (OfForm v ∷ []) ws ≡ None → Form v ws
form_from v [] e = absurd cc
form_from v (w ∷ ws) e =
    let creates = bytes_eq w (codes "CREATE") in
    let runs = bytes_eq w (codes "RUN") in
    let b = both_none (unless (creates || runs || is_deed w) UnknownWord) (fault_from (expected_behind (OfForm v) w ++ []) ws) e in
    let some = unless_none (creates || runs || is_deed w) UnknownWord b.0 in
    elim (cases_Bool creates) [
      | inl create ↦ create_from v w ws ((bytes_eq-Decides w (codes "CREATE")).0 create) (rw create at b.1)
      | inr other ↦
          elim (cases_Bool runs) [
            | inl run ↦ run_from v w ws ((bytes_eq-Decides w (codes "RUN")).0 run) (rw (other, run) at b.1)
            | inr neither ↦
                let d = deed_from v w ws (rw (other, neither) at some) (rw (other, neither) at b.1) in
                record { form = Deed d.deed; same = d.same; grammar = d.is; lists = d.lists }
          ]
    ]

-- a line without a fault is short, and its words have none
passes : (version : Version) (line : List ℕ) → fault_in version line ≡ None → (length line ≤ 4096) × (fault_from (OfName ∷ OfForm (version_number version) ∷ []) (words line) ≡ None)
passes version line e =
    let long = ltb 4096 (length line) in
    let empty = eqb (length line) 0 in
    let clean = list_all is_printable line in
    let found = fault_from (OfName ∷ OfForm (version_number version) ∷ []) (words line) in
    let third = cond clean found (Some NotAscii) in
    let second = cond empty (Some Empty) third in
    elim (cases_Bool long) [
      | inl yes_long ↦ absurd (let f = sym (cond-true long (Some TooLong) second yes_long) ∙ e in cc)
      | inr short ↦
          let f = sym (cond-false long (Some TooLong) second short) ∙ e in
          elim (cases_Bool empty) [
            | inl is_empty ↦ absurd (let g = sym (cond-true empty (Some Empty) third is_empty) ∙ f in cc)
            | inr some ↦
                let g = sym (cond-false empty (Some Empty) third some) ∙ f in
                elim (cases_Bool clean) [
                  | inl is_clean ↦ (ltb-false 4096 (length line) short, sym (cond-true clean found (Some NotAscii) is_clean) ∙ g)
                  | inr unclean ↦ absurd (let h = sym (cond-false clean found (Some NotAscii) unclean) ∙ g in cc)
                ]
          ]
    ]

pub total_in : (version : Version) (line : List ℕ) → fault_in version line ≡ None → (sentence : Sentence) × ReadsIn version line sentence
total_in version line e =
    let p = passes version line e in
    let user = name_next (OfForm (version_number version) ∷ []) (words line) p.1 in
    let f = form_from (version_number version) user.rest user.goes in
    (record { user = user.value; form = f.form }, reads version line user.value f.form (user.same ∙ ap (λ v. user.value ∷ v) f.same) user.good f.grammar f.lists p.0)

pub total : (line : List ℕ) → line_fault line ≡ None → (sentence : Sentence) × Reads line sentence
total line e = total_in One line e
