-- Answers about several places of a log, and of one to which more is appended.
use Rattle.std.proofs.Common.{◌≡◌, ◌<◌, ◌≤◌, ◌+◌, ◌-◌, ◌++◌, ◌∷◌, [], ℕ, zero, suc, Bool, false, true, List, Option, None, Some, append_assoc, ap, arith, get_or, inl, inr, length, refl, subst, sym, take, ◌∙◌}
use Rattle.std.specs.Prelude.{Vec, codes, if◌then◌else◌, slice_get}
use Rattle.std.specs.declared.alloc.Global.{Global}
use Rattle.std.proofs.lemmas.Bool.{cases_lt}
use Rattle.std.specs.Option.{option_map, option_map_or}
use Rattle.std.proofs.lemmas.List.{append-nil, get_or_append_left, get_or_push, take_more}
use Rattle.model_base.specs.declared.outcome.Outcome.{Outcome}
use Rattle.model_base.specs.declared.statement.Statement.{Statement}
use Rattle.model_base.proofs.Growing.{outcome-stands}
use Rattle.explain.specs.declared.line.Line.{Line}
use Rattle.explain.specs.Explained.{explained, lines_for}
use Rattle.explain.proofs.Lines.{explained-sound}
use Rattle.sequencer.specs.Catalog.{Names}
use Rattle.sequencer.specs.Log.{Accepted}
use Rattle.sequencer.specs.Whole.{IsWhole}
use Rattle.report.specs.Report.{place_text}
use Rattle.batched_text.proofs.Reports.{needs-own}
use Rattle.audit_text.specs.Answer.{Answers, EndsAnswer}
use Rattle.audit_text.specs.Explanation.{explanation_text}
use Rattle.audit_text.specs.Places.{AreAnswered, AreAnswers, denied_places_from, is_denial, is_denied_at, question_at}

-- a place of the log has a statement
some-place : (log : List Statement) (place : ℕ) → place < length log → slice_get log place ≡ None → ⊥
some-place [] place low none = omega (arith, low)
some-place (statement ∷ log) zero low none = cc
some-place (statement ∷ log) (suc place) low none = some-place log place (omega (arith, low)) none

module _ (log : List Statement) (names : Names) (checked : Bool) where
  one-answer : (place : ℕ) (told : List ℕ) → Answers log names (question_at checked place) told → AreAnswers log names checked (place ∷ []) told
  one-answer place told answer = (told, ([], (answer, (refl, sym (append-nil told)))))

  -- the answers about some places, and then about others
  pub answers_then : (places later : List ℕ) (told next : List ℕ) → AreAnswers log names checked places told → AreAnswers log names checked later next
      → AreAnswers log names checked (places ++ later) (told ++ next)
  answers_then [] later told next first after = subst (AreAnswers log names checked later) (ap (λ (t : List ℕ). t ++ next) (sym first)) after
  answers_then (place ∷ places) later told next first after =
      let rest : List ℕ = first.1.0 in (
        first.0,
        (
          rest ++ next,
          (
            first.1.1.0,
            (
              answers_then places later rest next first.1.1.1.0 after,
              ap (λ (t : List ℕ). t ++ next) first.1.1.1.1 ∙ append_assoc first.0 rest next,
            ),
          ),
        ),
      )

  -- one more answer
  pub answers_more : (places : List ℕ) (place : ℕ) (told next : List ℕ) → AreAnswers log names checked places told → Answers log names (question_at checked place) next
      → AreAnswers log names checked (places ++ place ∷ []) (told ++ next)
  answers_more places place told next first answer = answers_then places (place ∷ []) told next first (one-answer place next answer)

  -- each place of a log has an answer
  ended-by : (b : Bool) (place : ℕ) (lines : List Line) → explained log place ≡ Some lines → (ending : List ℕ) × EndsAnswer log (question_at b place) lines ending
  ended-by true place lines is = (codes "checked\n", (explained-sound log place lines is, refl))
  ended-by false place lines is = ([], refl)

  some-answer : (place : ℕ) → place < length log → (told : List ℕ) × Answers log names (question_at checked place) told
  some-answer place low = by_statement (slice_get log place) refl
    where
      by_statement : (found : Option Statement) → slice_get log place ≡ found → (told : List ℕ) × Answers log names (question_at checked place) told
      by_statement None there = absurd (some-place log place low there)
      by_statement (Some statement) there =
          let lines : List Line = lines_for log place statement in
          let explaining : explained log place ≡ Some lines = ap (option_map (lines_for log place)) there in
          let ending = ended-by checked place lines explaining in (
            place_text log names place ++ explanation_text log names lines ++ ending.0,
            record { lines = lines; explaining = explaining; ending = ending.0; ended = ending.1; told = refl },
          )

  -- and so have the denied ones
  some-if : (b : Bool) (place : ℕ) (places : List ℕ) → place < length log → (told : List ℕ) × AreAnswers log names checked places told
      → (told : List ℕ) × AreAnswers log names checked (if b then place ∷ places else places) told
  some-if true place places low rest =
      let first = some-answer place low in (first.0 ++ rest.0, (first.0, (rest.0, (first.1, (rest.1, refl)))))
  some-if false place places low rest = rest

  pub some_denials : (first count : ℕ) → first + count ≤ length log → (told : List ℕ) × AreAnswers log names checked (denied_places_from log first count) told
  some_denials first zero within = ([], refl)
  some_denials first (suc count) within =
      some-if (is_denied_at log first) first (denied_places_from log (first + 1) count) (omega (arith, within)) (some_denials (first + 1) count (omega (arith, within)))

-- those of some places, and then of those after them
parts-if : (b : Bool) (place : ℕ) (whole front back : List ℕ) → whole ≡ front ++ back
    → (if b then place ∷ whole else whole) ≡ (if b then place ∷ front else front) ++ back
parts-if true place whole front back is = ap (λ (places : List ℕ). place ∷ places) is
parts-if false place whole front back is = is

pub denied_parts : (log : List Statement) (first count more all next : ℕ) → all ≡ count + more → next ≡ first + count
    → denied_places_from log first all ≡ denied_places_from log first count ++ denied_places_from log next more
denied_parts log first zero more all next sum there =
    ap (λ (n : ℕ). denied_places_from log first n) (sum ∙ omega arith) ∙ ap (λ (n : ℕ). denied_places_from log n more) (omega (arith, there))
denied_parts log first (suc count) more zero next sum there = absurd (omega (arith, sum))
denied_parts log first (suc count) more (suc all) next sum there =
    parts-if (is_denied_at log first) first (denied_places_from log (first + 1) all) (denied_places_from log (first + 1) count) (denied_places_from log next more)
    (denied_parts log (first + 1) count more all next (omega (arith, sum)) (omega (arith, there)))

-- in a longer log the same places are denied
module _ (log : Accepted) (whole : IsWhole log) (more : List Statement) where
  pub denied_stand : (first count : ℕ) → first + count ≤ length log.statements → denied_places_from (log.statements ++ more) first count ≡ denied_places_from log.statements first count
  denied_stand first zero within = refl
  denied_stand first (suc count) within =
      let all : List Statement = log.statements ++ more in
      let same : is_denied_at all first ≡ is_denied_at log.statements first =
      ap (λ (found : Option Outcome). option_map_or is_denial found false) (outcome-stands log.statements more first (needs-own log whole) (omega (arith, within))) in
      ap (λ (b : Bool). if b then first ∷ denied_places_from all (first + 1) count else denied_places_from all (first + 1) count) same
      ∙ ap (λ (places : List ℕ). if is_denied_at log.statements first then first ∷ places else places) (denied_stand (first + 1) count (omega (arith, within)))

-- the answers about the denied ones of the places from the first to the next one were put after the text
pub record PutsTo (log : Accepted) (checked : Bool) (first next : ℕ) (old new : List ℕ) : Type 0 where
  pub count : ℕ
  pub there : next ≡ first + count
  pub told : List ℕ
  pub answers : AreAnswers log.statements log.names checked (denied_places_from log.statements first count) told
  pub put : new ≡ old ++ told

pub puts_none : (log : Accepted) (checked : Bool) (first : ℕ) (text : List ℕ) → PutsTo log checked first first text text
puts_none log checked first text = record { count = 0; there = omega arith; told = []; answers = refl; put = sym (append-nil text) }

-- the next one is among the denied ones, or not
one-more : (log : List Statement) (first count next : ℕ) → next ≡ first + count
    → denied_places_from log first (count + 1) ≡ denied_places_from log first count ++ (if is_denied_at log next then next ∷ [] else [])
one-more log first count next there = denied_parts log first count 1 (count + 1) next refl there

pub puts_more : (log : Accepted) (checked : Bool) (first next : ℕ) (old mid new : List ℕ) → PutsTo log checked first next old mid → is_denied_at log.statements next ≡ true
    → (told : List ℕ) × (Answers log.statements log.names (question_at checked next) told × (new ≡ mid ++ told)) → PutsTo log checked first (next + 1) old new
puts_more log checked first next old mid new so denied more = record {
  count = so.count + 1;
  there = omega (arith, so.there);
  told = so.told ++ more.0;
  answers = subst (λ (places : List ℕ). AreAnswers log.statements log.names checked places (so.told ++ more.0))
      (sym (one-more log.statements first so.count next so.there
      ∙ ap (λ (b : Bool). denied_places_from log.statements first so.count ++ (if b then next ∷ [] else [])) denied))
      (answers_more log.statements log.names checked (denied_places_from log.statements first so.count) next so.told more.0 so.answers more.1.0);
  put = more.1.1 ∙ ap (λ (t : List ℕ). t ++ more.0) so.put ∙ append_assoc old so.told more.0;
}

pub puts_skip : (log : Accepted) (checked : Bool) (first next : ℕ) (old mid : List ℕ) → PutsTo log checked first next old mid → is_denied_at log.statements next ≡ false
    → PutsTo log checked first (next + 1) old mid
puts_skip log checked first next old mid so denied = record {
  count = so.count + 1;
  there = omega (arith, so.there);
  told = so.told;
  answers = subst (λ (places : List ℕ). AreAnswers log.statements log.names checked places so.told)
      (sym (one-more log.statements first so.count next so.there
      ∙ ap (λ (b : Bool). denied_places_from log.statements first so.count ++ (if b then next ∷ [] else [])) denied
      ∙ append-nil (denied_places_from log.statements first so.count)))
      so.answers;
  put = so.put;
}

-- all were
pub puts_all : (log : Accepted) (checked : Bool) (first next : ℕ) (old new : List ℕ) → PutsTo log checked first next old new
    → (told : List ℕ) × (AreAnswers log.statements log.names checked (denied_places_from log.statements first (next - first)) told × (new ≡ old ++ told))
puts_all log checked first next old new so =
    let count : so.count ≡ next - first = omega (arith, so.there) in
    (so.told, (subst (λ (n : ℕ). AreAnswers log.statements log.names checked (denied_places_from log.statements first n) so.told) count so.answers, so.put))

-- the answer about a place is at its index among those in order
pub puts_next : (log : List Statement) (names : Names) (checked : Bool) (places sorted : List ℕ) (texts : List (Vec ℕ Global)) (index at place : ℕ) (text : Vec ℕ Global)
    (old mid new : List ℕ) → AreAnswered log names checked sorted texts → index < length places → place ≡ get_or places index place → at < length sorted
    → get_or sorted at 0 ≡ place → text ≡ get_or texts at text → new ≡ mid ++ text.items
    → (told : List ℕ) × (AreAnswers log names checked (take index places) told × (mid ≡ old ++ told))
    → (told : List ℕ) × (AreAnswers log names checked (take (index + 1) places) told × (new ≡ old ++ told))
puts_next log names checked places sorted texts index at place text old mid new all within here low found is put so =
    let answer : Answers log names (question_at checked place) text.items =
    subst (λ (p : ℕ). Answers log names (question_at checked p) text.items) found
    (subst (λ (t : Vec ℕ Global). Answers log names (question_at checked (get_or sorted at 0)) t.items) (sym is) (all at text low)) in
    let front : take (index + 1) places ≡ take index places ++ place ∷ [] =
    take_more places index place within ∙ ap (λ (p : ℕ). take index places ++ p ∷ []) (sym here) in (
      so.0 ++ text.items,
      (
        subst (λ (ps : List ℕ). AreAnswers log names checked ps (so.0 ++ text.items)) (sym front)
            (answers_more log names checked (take index places) place so.0 text.items so.1.0 answer),
        put ∙ ap (λ (t : List ℕ). t ++ text.items) so.1.1 ∙ append_assoc old so.0 text.items,
      ),
    )

-- one more of them
pub answered_more : (log : List Statement) (names : Names) (checked : Bool) (sorted : List ℕ) (texts : List (Vec ℕ Global)) (index place : ℕ) (text : Vec ℕ Global)
    → length texts ≡ index → place ≡ get_or sorted index 0
    → ((k : ℕ) (d : Vec ℕ Global) → k < index → Answers log names (question_at checked (get_or sorted k 0)) (get_or texts k d).items)
    → Answers log names (question_at checked place) text.items
    → (k : ℕ) (d : Vec ℕ Global) → k < index + 1 → Answers log names (question_at checked (get_or sorted k 0)) (get_or (texts ++ text ∷ []) k d).items
answered_more log names checked sorted texts index place text count here before answer k d low =
    elim (cases_lt k index) [
      | inl less ↦
          subst (λ (t : Vec ℕ Global). Answers log names (question_at checked (get_or sorted k 0)) t.items) (sym (get_or_append_left texts (text ∷ []) d k (omega (arith, less, count))))
          (before k d less)
      | inr not_less ↦
          let same : k ≡ index = omega (arith, not_less, low) in
          let at : get_or (texts ++ text ∷ []) k d ≡ text = get_or_push texts text d k (count ∙ sym same) in
          subst (λ (t : Vec ℕ Global). Answers log names (question_at checked (get_or sorted k 0)) t.items) (sym at)
          (subst (λ (p : ℕ). Answers log names (question_at checked p) text.items) (here ∙ ap (λ (n : ℕ). get_or sorted n 0) (sym same)) answer)
    ]
