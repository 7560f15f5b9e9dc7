-- The words of a form are those of no other.
use Rattle.std.proofs.Common.{◌≡◌, ℕ, Bool, true, false, Option, Some, None, eqb, get_or, ◌<◌, ◌^◌, List, [], ◌∷◌, ◌++◌, map, drop, ◌*◌, ◌+◌, refl, ap, sym, ◌∙◌, arith}
use Rattle.std.specs.Prelude.{decimal, codes}
use Rattle.std.specs.List.{AllByRecursion}
use Rattle.std.proofs.lemmas.Fmt.{decimal_injective}
use Rattle.std.proofs.lemmas.Bool.{eqb-false}
use Rattle.line_words.specs.StepWords.{operation_word, step_name}
use Rattle.line_words.specs.Words.{first_word}
use Rattle.line_words.specs.Access.{access_word, IsAccess}
use Rattle.line_words.specs.declared.access.RawAccess.{RawAccess}
use Rattle.log_text.specs.declared.statement.RawStep.{RawStep}
use Rattle.log_text.specs.declared.statement.RawStep.TheVariants.{Const, Compute, Has, Load, Store, Insert, Delete, Check, Skip, Out}
use Rattle.log_text.specs.declared.statement.RawForm.{RawForm}
use Rattle.log_text.specs.declared.statement.RawForm.TheVariants.{Create, Run, Deed}
use Rattle.log_text.specs.declared.statement.RawDeed.{RawDeed}
use Rattle.log_text.specs.declared.statement.RawDeed.TheVariants.{Grant, Revoke}
use Rattle.log_text.specs.Statement.{body_words, deed_words, last_deed, option_words, step_words, form_words, IsDeed, IsFormInGrammar, IsLastDeed, IsStep, IsRegister}
use Rattle.line_words.specs.declared.step_name.StepName.{StepName}
use Rattle.line_words.specs.declared.step_name.StepName.TheVariants as name
use Rattle.model_base.specs.declared.statement.Operation.{Operation}
use Rattle.log_text.proofs.Bars.{decimal_ne_bar, access_ne_bar, one_row}
use Rattle.line_words.proofs.Whole.{one_whole}
use Rattle.log_text.proofs.AccessFit.{one_access}
use Rattle.log_text.proofs.GranteeLists.{one_list}
use Rattle.log_text.proofs.KindLists.{one_kinds}
use Rattle.line_words.proofs.StepNames.{named_operation}
use Rattle.log_text.proofs.Tails.{IsTail, body_is_tail, body_more, no_step, no_tail}

one_accesses : (xs ys : List RawAccess) (vs ws : List (List ℕ)) → IsTail vs → IsTail ws → AllByRecursion IsAccess xs → AllByRecursion IsAccess ys → map access_word xs ++ vs ≡ map access_word ys ++ ws → (xs ≡ ys) × (vs ≡ ws)
one_accesses [] [] vs ws vt wt h k e = (refl, e)
one_accesses [] (y ∷ ys) vs ws vt wt h k e = absurd (no_tail vs (access_word y) (map access_word ys ++ ws) vt (access_ne_bar y k.0) e)
one_accesses (x ∷ xs) [] vs ws vt wt h k e = absurd (no_tail ws (access_word x) (map access_word xs ++ vs) wt (access_ne_bar x h.0) (sym e))
one_accesses (x ∷ xs) (y ∷ ys) vs ws vt wt h k e =
    let word : access_word x ≡ access_word y = cc in
    let head : x ≡ y = one_access x y h.0 k.0 word in
    let rest : map access_word xs ++ vs ≡ map access_word ys ++ ws = cc in
    let p = one_accesses xs ys vs ws vt wt h.1 k.1 rest in
    (cc, p.1)

one_registers : (xs ys : List ℕ) (vs ws : List (List ℕ)) → IsTail vs → IsTail ws → AllByRecursion IsRegister xs → AllByRecursion IsRegister ys → map decimal xs ++ vs ≡ map decimal ys ++ ws → (xs ≡ ys) × (vs ≡ ws)
one_registers [] [] vs ws vt wt h k e = (refl, e)
one_registers [] (y ∷ ys) vs ws vt wt h k e = absurd (no_tail vs (decimal y) (map decimal ys ++ ws) vt (decimal_ne_bar y (omega (arith, k.0))) e)
one_registers (x ∷ xs) [] vs ws vt wt h k e = absurd (no_tail ws (decimal x) (map decimal xs ++ vs) wt (decimal_ne_bar x (omega (arith, h.0))) (sym e))
one_registers (x ∷ xs) (y ∷ ys) vs ws vt wt h k e =
    let text : decimal x ≡ decimal y = cc in
    let head : x ≡ y = decimal_injective x y (omega (arith, h.0)) (omega (arith, k.0)) text in
    let rest : map decimal xs ++ vs ≡ map decimal ys ++ ws = cc in
    let p = one_registers xs ys vs ws vt wt h.1 k.1 rest in
    (cc, p.1)

-- equal lists of words have equal first words, and equal words after them
parts : {u v : List ℕ} {us ws : List (List ℕ)} → u ∷ us ≡ v ∷ ws → (u ≡ v) × (us ≡ ws)
parts e = (ap (λ ts. first_word ts) e, ap (drop 1) e)

behind : {u v : List ℕ} {us ws : List (List ℕ)} → u ∷ us ≡ v ∷ ws → us ≡ ws
behind e = (parts e).1

three_words : {u1 u2 u3 v1 v2 v3 : List ℕ} {us ws : List (List ℕ)} → u1 ∷ u2 ∷ u3 ∷ us ≡ v1 ∷ v2 ∷ v3 ∷ ws → (u1 ≡ v1) × (u2 ≡ v2) × (u3 ≡ v3) × (us ≡ ws)
three_words e = let p = parts e in let q = parts p.1 in let r = parts q.1 in (p.0, q.0, r.0, r.1)

-- the first letter and thrice the third: no two words of steps share it
abbrev letters : List (List ℕ) → ℕ
letters ws = get_or (first_word ws) 0 0 + 3 * get_or (first_word ws) 2 0

steps_apart : (s t : RawStep) (vs ws : List (List ℕ)) → eqb (letters (step_words s ++ vs)) (letters (step_words t ++ ws)) ≡ false → step_words s ++ vs ≡ step_words t ++ ws → ⊥
steps_apart s t vs ws differ e = eqb-false (letters (step_words s ++ vs)) (letters (step_words t ++ ws)) differ (ap letters e)

-- whether a step's name is that of an operation
abbrev is_computed : Option StepName → Bool
is_computed (Some (name.Compute operation)) = true
is_computed _ = false

-- the word of an operation begins no other step
no_other : (operation : Operation) (s : RawStep) (us vs : List (List ℕ)) → is_computed (step_name (first_word (step_words s ++ vs))) ≡ false → operation_word operation ∷ us ≡ step_words s ++ vs → ⊥
no_other operation s us vs other e =
    let computed = ap is_computed (named_operation operation) in
    let same : true ≡ false = sym computed ∙ ap (λ ws. is_computed (step_name (first_word ws))) e ∙ other in
    cc

-- the word of an operation is that of no other
one_operation : (o p : Operation) → operation_word o ≡ operation_word p → o ≡ p
one_operation o p e = let same : Some (name.Compute o) ≡ Some (name.Compute p) = sym (named_operation o) ∙ ap step_name e ∙ named_operation p in cc

same_register : (m n : ℕ) → IsRegister m → IsRegister n → decimal m ≡ decimal n → m ≡ n
same_register m n h k e = decimal_injective m n (omega arith) (omega arith) e

same_number : (m n : ℕ) → m < 2 ^ 32 → n < 2 ^ 32 → decimal m ≡ decimal n → m ≡ n
same_number m n h k e = decimal_injective m n (omega arith) (omega arith) e

one_step : (s t : RawStep) (vs ws : List (List ℕ)) → IsTail vs → IsTail ws → IsStep s → IsStep t → step_words s ++ vs ≡ step_words t ++ ws → (s ≡ t) × (vs ≡ ws)
one_step (Compute o d a b) (Compute p x y z) vs ws vt wt h k e =
    let w = parts e in
    let q = three_words w.1 in
    let f1 = one_operation o p w.0 in
    let f2 = same_register d x h.0 k.0 q.0 in
    let f3 = same_register a y h.1 k.1 q.1 in
    let f4 = same_register b z h.2 k.2 q.2 in
    (cc, q.3)
one_step (Compute o d a b) t vs ws vt wt h k e = absurd (no_other o t _ ws refl e)
one_step s (Compute o d a b) vs ws vt wt h k e = absurd (no_other o s _ vs refl (sym e))
one_step (Const d a) (Const x y) vs ws vt wt h k e =
    let p = parts (behind e) in
    let q = parts p.1 in
    let f1 = same_register d x h.0 k.0 p.0 in
    let f2 = one_whole a y h.1 k.1 q.0 in
    (ap (λ r. Const r a) f1 ∙ ap (Const x) f2, q.1)
one_step (Const d a) t vs ws vt wt h k e = absurd (steps_apart (Const d a) t vs ws refl e)
one_step (Has d t r) (Has x u q) vs ws vt wt h k e =
    let p = three_words (behind e) in
    let f1 = same_register d x h.0 k.0 p.0 in
    let f3 = one_row r q h.2 k.2 p.2 in
    (ap (λ n. Has n t r) f1 ∙ ap (λ n. Has x n r) p.1 ∙ ap (Has x u) f3, p.3)
one_step (Has d t r) u vs ws vt wt h k e = absurd (steps_apart (Has d t r) u vs ws refl e)
one_step (Load d t r c) (Load x u q y) vs ws vt wt h k e =
    let p = three_words (behind e) in
    let o = parts p.3 in
    let f1 = same_register d x h.0 k.0 p.0 in
    let f3 = one_row r q h.2 k.2 p.2 in
    let f4 = same_number c y h.3 k.3 o.0 in
    (ap (λ n. Load n t r c) f1 ∙ ap (λ n. Load x n r c) p.1 ∙ ap (λ n. Load x u n c) f3 ∙ ap (Load x u q) f4, o.1)
one_step (Load d t r c) u vs ws vt wt h k e = absurd (steps_apart (Load d t r c) u vs ws refl e)
one_step (Store t r c d) (Store u q y x) vs ws vt wt h k e =
    let p = three_words (behind e) in
    let o = parts p.3 in
    let f1 = same_register d x h.3 k.3 o.0 in
    let f3 = one_row r q h.1 k.1 p.1 in
    let f4 = same_number c y h.2 k.2 p.2 in
    (ap (λ n. Store n r c d) p.0 ∙ ap (λ n. Store u n c d) f3 ∙ ap (λ n. Store u q n d) f4 ∙ ap (Store u q y) f1, o.1)
one_step (Store t r c d) u vs ws vt wt h k e = absurd (steps_apart (Store t r c d) u vs ws refl e)
one_step (Insert t r xs) (Insert u q ys) vs ws vt wt h k e =
    let p = parts (behind e) in
    let o = parts p.1 in
    let f2 = one_row r q h.1 k.1 o.0 in
    let n = one_registers xs ys vs ws vt wt h.4 k.4 o.1 in
    (ap (λ v. Insert v r xs) p.0 ∙ ap (λ v. Insert u v xs) f2 ∙ ap (Insert u q) n.0, n.1)
one_step (Insert t r xs) u vs ws vt wt h k e = absurd (steps_apart (Insert t r xs) u vs ws refl e)
one_step (Delete t r) (Delete u q) vs ws vt wt h k e =
    let p = parts (behind e) in
    let o = parts p.1 in
    let f2 = one_row r q h.1 k.1 o.0 in
    (ap (λ v. Delete v r) p.0 ∙ ap (Delete u) f2, o.1)
one_step (Delete t r) u vs ws vt wt h k e = absurd (steps_apart (Delete t r) u vs ws refl e)
one_step (Check x) (Check y) vs ws vt wt h k e =
    let p = parts (behind e) in
    (ap Check (same_register x y h k p.0), p.1)
one_step (Check x) t vs ws vt wt h k e = absurd (steps_apart (Check x) t vs ws refl e)
one_step (Skip x m) (Skip y n) vs ws vt wt h k e =
    let p = parts (behind e) in
    let o = parts p.1 in
    let f1 = same_register x y h.0 k.0 p.0 in
    let f2 = same_number m n h.1 k.1 o.0 in
    (ap (λ r. Skip r m) f1 ∙ ap (Skip y) f2, o.1)
one_step (Skip x m) t vs ws vt wt h k e = absurd (steps_apart (Skip x m) t vs ws refl e)
one_step (Out x) (Out y) vs ws vt wt h k e =
    let p = parts (behind e) in
    (ap Out (same_register x y h k p.0), p.1)
one_step (Out x) t vs ws vt wt h k e = absurd (steps_apart (Out x) t vs ws refl e)

-- words whose first bytes differ
apart : (u v : List ℕ) → eqb (get_or u 0 0) (get_or v 0 0) ≡ false → u ≡ v → ⊥
apart u v differ e = eqb-false (get_or u 0 0) (get_or v 0 0) differ (ap (λ w. get_or w 0 0) e)

-- the words after a grantee tell whether the grant is with the option
one_option : (a b : Bool) → option_words a ≡ option_words b → a ≡ b
one_option true true e = refl
one_option true false e = cc
one_option false true e = cc
one_option false false e = refl

one_deed : (d e : RawDeed) → IsDeed d → IsDeed e → deed_words d ≡ deed_words e → d ≡ e
one_deed (Grant k t g o) (Grant l u h p) f j e =
    let w = three_words (behind e) in
    let e1 = one_kinds k l f.0 j.0 w.0 in
    let e3 = one_list g h f.2 j.2 w.2 in
    let e4 = one_option o p w.3 in
    ap (λ v. Grant v t g o) e1 ∙ ap (λ v. Grant l v g o) w.1 ∙ ap (λ v. Grant l u v o) e3 ∙ ap (Grant l u h) e4
one_deed (Grant k t g o) (Revoke l u h) f j e = absurd (apart (codes "GRANT") (codes "REVOKE") refl (parts e).0)
one_deed (Revoke k t g) (Grant l u h p) f j e = absurd (apart (codes "REVOKE") (codes "GRANT") refl (parts e).0)
one_deed (Revoke k t g) (Revoke l u h) f j e =
    let w = three_words (behind e) in
    let e1 = one_kinds k l f.0 j.0 w.0 in
    let e3 = one_list g h f.2 j.2 w.2 in
    ap (λ v. Revoke v t g) e1 ∙ ap (λ v. Revoke l v g) w.1 ∙ ap (Revoke l u) e3

-- a deed where a step stands
deed_or_step : (d : Option RawDeed) (t : RawStep) (ws : List (List ℕ)) → last_deed d ≡ codes "|" ∷ (step_words t ++ ws) → ⊥
deed_or_step None t ws e = cc
deed_or_step (Some d) t ws e = no_step d t ws cc

one_last : (d e : Option RawDeed) → IsLastDeed d → IsLastDeed e → last_deed d ≡ last_deed e → d ≡ e
one_last None None f j e = refl
one_last None (Some b) f j e = cc
one_last (Some a) None f j e = cc
one_last (Some a) (Some b) f j e =
    let words : deed_words a ≡ deed_words b = cc in
    ap Some (one_deed a b f j words)

one_body : (ss ts : List RawStep) (d e : Option RawDeed) → AllByRecursion IsStep ss → AllByRecursion IsStep ts → IsLastDeed d → IsLastDeed e → body_words ss d ≡ body_words ts e → (ss ≡ ts) × (d ≡ e)
one_body [] [] d e h k f j same = (refl, one_last d e f j same)
one_body [] (t ∷ ts) d e h k f j same = absurd (deed_or_step d t (body_words ts e) (same ∙ body_more t ts e))
one_body (s ∷ ss) [] d e h k f j same = absurd (deed_or_step e s (body_words ss d) (sym same ∙ body_more s ss d))
one_body (s ∷ ss) (t ∷ ts) d e h k f j same =
    let whole : codes "|" ∷ (step_words s ++ body_words ss d) ≡ codes "|" ∷ (step_words t ++ body_words ts e) = sym (body_more s ss d) ∙ same ∙ body_more t ts e in
    let rest : step_words s ++ body_words ss d ≡ step_words t ++ body_words ts e = cc in
    let p = one_step s t (body_words ss d) (body_words ts e) (body_is_tail ss d) (body_is_tail ts e) h.0 k.0 rest in
    let q = one_body ss ts d e h.1 k.1 f j p.1 in
    let r = p.0 in
    let first = q.0 in
    (cc, q.1)

-- which of the four words begins a form
abbrev first_letter : List (List ℕ) → ℕ
first_letter ws = get_or (first_word ws) 2 0

-- the third letter of CREATE, RUN, GRANT and REVOKE: E, N, A, V
letters_apart : (f g : RawForm) → eqb (first_letter (form_words f)) (first_letter (form_words g)) ≡ false → form_words f ≡ form_words g → ⊥
letters_apart f g differ e = eqb-false (first_letter (form_words f)) (first_letter (form_words g)) differ (ap first_letter e)

pub one_form : (f g : RawForm) → IsFormInGrammar f → IsFormInGrammar g → form_words f ≡ form_words g → f ≡ g
one_form (Create t m) (Create u n) f g e =
    let same_table : t ≡ u = cc in
    let same_text : decimal m ≡ decimal n = cc in
    let same : m ≡ n = decimal_injective m n (omega (arith, f)) (omega (arith, g)) same_text in
    cc
one_form (Create t m) (Run xs ss d) f g e = absurd (letters_apart (Create t m) (Run xs ss d) refl e)
one_form (Create t m) (Deed (Grant k u h o)) f g e = absurd (letters_apart (Create t m) (Deed (Grant k u h o)) refl e)
one_form (Create t m) (Deed (Revoke k u h)) f g e = absurd (letters_apart (Create t m) (Deed (Revoke k u h)) refl e)
one_form (Run xs ss d) (Create t m) f g e = absurd (letters_apart (Run xs ss d) (Create t m) refl e)
one_form (Run xs ss d) (Deed (Grant k u h o)) f g e = absurd (letters_apart (Run xs ss d) (Deed (Grant k u h o)) refl e)
one_form (Run xs ss d) (Deed (Revoke k u h)) f g e = absurd (letters_apart (Run xs ss d) (Deed (Revoke k u h)) refl e)
one_form (Deed (Grant k u h o)) (Create t m) f g e = absurd (letters_apart (Deed (Grant k u h o)) (Create t m) refl e)
one_form (Deed (Revoke k u h)) (Create t m) f g e = absurd (letters_apart (Deed (Revoke k u h)) (Create t m) refl e)
one_form (Deed (Grant k u h o)) (Run xs ss d) f g e = absurd (letters_apart (Deed (Grant k u h o)) (Run xs ss d) refl e)
one_form (Deed (Revoke k u h)) (Run xs ss d) f g e = absurd (letters_apart (Deed (Revoke k u h)) (Run xs ss d) refl e)
one_form (Deed a) (Deed b) f g e = ap Deed (one_deed a b f g e)
one_form (Run xs ss c) (Run ys ts d) f g e =
    let rest : map access_word xs ++ body_words ss c ≡ map access_word ys ++ body_words ts d = cc in
    let p = one_accesses xs ys (body_words ss c) (body_words ts d) (body_is_tail ss c) (body_is_tail ts d) f.2 g.2 rest in
    let q = one_body ss ts c d f.5 g.5 f.6 g.6 p.1 in
    let r = p.0 in
    let steps = q.0 in
    let deeds = q.1 in
    cc
