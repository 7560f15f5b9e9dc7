-- A step after its word: what is answered of the words after it, for the step as a whole.
use Rattle.std.proofs.Common.{◌≡◌, ◌<◌, ◌≤◌, ℕ, ◌+◌, Bool, true, false, List, [], ◌∷◌, ◌++◌, Option, Some, None, refl, ap, sym, ◌∙◌, subst, arith, append_assoc}
use Rattle.std.specs.Prelude.{codes, Result, Ok, Err, IfOk, IfErr}
use Rattle.std.proofs.lemmas.Bool.{ltb-true, and_parts}
use Rattle.std.specs.List.{AllByRecursion, flat_map, sum_by}
use Rattle.std.proofs.lemmas.List.{append-nil}
use Rattle.std.proofs.lemmas.List.Concat.{flat_map-append}
use Rattle.std.proofs.lemmas.List.Sums.{sum_by-append}
use Rattle.log_text.specs.Statement.{IsStep, further_step, outs_of, step_words}
use Rattle.line_words.specs.StepWords.{step_name, step_word}
use Rattle.line_words.specs.Faults.{IsFault, or_else, unless}
use Rattle.log_text.specs.Fault.{OfStep, expected_in, fault_from, step_fault}
use Rattle.log_text.specs.Parsing.{TakesStep, fault_behind}
use Rattle.line_words.specs.declared.fault.LineFault.{LineFault}
use Rattle.line_words.specs.declared.fault.LineFault.TheVariants.{TooLong, NotAscii, Empty, UnknownWord, BadNumber, BadName, TooManySteps, TooManyAccesses, BadRegister, TooManyGrantees, DuplicateGrantee, NoMemory}
use Rattle.log_text.specs.declared.statement.RawStep.{RawStep}
use Rattle.line_words.specs.declared.step_name.StepName.{StepName}
use Rattle.line_words.specs.declared.step_name.StepName.TheVariants.{Const, Compute, Has, Load, Store, Insert, Delete, Check, Skip, Out}
use Rattle.line_words.proofs.StepNames.{named_step}
use Rattle.log_text.proofs.StepNames.{at_step, no_deed}

-- the word names the step, of which there may be one more after this many steps and outs
abbrev pub Names : StepName → List ℕ → ℕ → ℕ → Type 0
Names s word steps outs = (word ≡ step_word s) × (step_name (step_word s) ≡ Some s) × (step_fault (Some s) steps outs ≡ None)

-- as a name does that is the step
pub names : (name s : StepName) (steps outs : ℕ) → name ≡ s → step_fault (Some name) steps outs ≡ None → Names s (step_word name) steps outs
names name s steps outs is fits = (ap step_word is, named_step s, ap (λ (n : StepName). step_fault (Some n) steps outs) (sym is) ∙ fits)

holds : (b : Bool) (f : LineFault) → unless b f ≡ None → b ≡ true
holds true f e = refl
holds false f e = absurd (cc)

-- a step that may come has room
pub few_steps : (s : StepName) (n o : ℕ) → step_fault (Some s) n o ≡ None → n < 64
few_steps Out n o e = ltb-true n 64 (and_parts _ _ (holds _ _ e)).0
few_steps Const n o e = ltb-true n 64 (holds _ _ e)
few_steps (Compute operation) n o e = ltb-true n 64 (holds _ _ e)
few_steps Has n o e = ltb-true n 64 (holds _ _ e)
few_steps Load n o e = ltb-true n 64 (holds _ _ e)
few_steps Store n o e = ltb-true n 64 (holds _ _ e)
few_steps Insert n o e = ltb-true n 64 (holds _ _ e)
few_steps Delete n o e = ltb-true n 64 (holds _ _ e)
few_steps Check n o e = ltb-true n 64 (holds _ _ e)
few_steps Skip n o e = ltb-true n 64 (holds _ _ e)

-- one more out is not too many
pub few_outs : (n o : ℕ) → step_fault (Some Out) n o ≡ None → o + 1 ≤ 8
few_outs n o e = omega (arith, ltb-true o 8 (and_parts _ _ (holds _ _ e)).1)

is_fault : (f : LineFault) (o : Option LineFault) → o ≡ Some f → IsFault f o
is_fault TooLong o e = e
is_fault NotAscii o e = e
is_fault Empty o e = e
is_fault UnknownWord o e = e
is_fault BadNumber o e = e
is_fault BadName o e = e
is_fault TooManySteps o e = e
is_fault TooManyAccesses o e = e
is_fault BadRegister o e = e
is_fault TooManyGrantees o e = e
is_fault DuplicateGrantee o e = e
is_fault NoMemory o e = tt

-- a step that makes this many outs leads from this many to this many
pub leads : (k o after : ℕ) (s : StepName) (t : RawStep) (old new : List (List ℕ)) (result : Result Bool LineFault) → after ≡ o + k
    → IfOk result (λ r. TakesStep (step_word s ∷ old) t r new × IsStep t × (outs_of t ≡ k))
    → IfOk result (λ r. TakesStep (step_word s ∷ old) t r new × IsStep t × (after ≡ o + outs_of t))
leads k o after s t old new (Err f) more took = tt
leads k o after s t old new (Ok r) more took = (took.0, took.1, more ∙ ap (λ (m : ℕ). o + m) (sym took.2))

module _ (s : StepName) (t : RawStep) (word : List ℕ) (old new : List (List ℕ)) (n o : ℕ) (result : Result Bool LineFault) (names : Names s word n o) where
  behind : (v : ℕ) → fault_from (OfStep v n o ∷ []) (word ∷ old) ≡ fault_from (expected_in (Some s) v n o) old
  behind v =
      ap (λ (w : List ℕ). fault_from (OfStep v n o ∷ []) (w ∷ old)) names.0
      ∙ at_step (step_word s) old v n o (no_deed s)
      ∙ ap (λ (t : Option StepName). or_else (step_fault t n o) (fault_from (expected_in t v n o ++ []) old)) names.1
      ∙ ap (λ (f : Option LineFault). or_else f (fault_from (expected_in (Some s) v n o ++ []) old)) names.2
      ∙ ap (λ ps. fault_from ps old) (append-nil (expected_in (Some s) v n o))

  -- the step was taken
  pub takes : (after : ℕ → ℕ) → after o ≤ 8 → IfOk result (λ r. TakesStep (step_word s ∷ old) t r new × IsStep t × (after o ≡ o + outs_of t))
      → IfOk result (λ r. TakesStep (word ∷ old) t r new × IsStep t × (n < 64) × (o + outs_of t ≤ 8))
  takes after few took = takes_if result took
    where
      takes_if : (found : Result Bool LineFault) → IfOk found (λ r. TakesStep (step_word s ∷ old) t r new × IsStep t × (after o ≡ o + outs_of t))
          → IfOk found (λ r. TakesStep (word ∷ old) t r new × IsStep t × (n < 64) × (o + outs_of t ≤ 8))
      takes_if (Err f) took = tt
      takes_if (Ok r) took = (
        subst (λ (w : List ℕ). TakesStep (w ∷ old) t r new) (sym names.0) took.0,
        took.1,
        few_steps s n o names.2,
        omega (arith, took.2, few),
      )

  -- what is left has the fault of what is after the step
  pub fits : (after : ℕ → ℕ) → IfOk result (λ r. TakesStep (step_word s ∷ old) t r new × IsStep t × (after o ≡ o + outs_of t))
      → IfOk result (λ r. (v steps outs : ℕ) → fault_from (expected_in (Some s) v steps outs) old ≡ fault_behind r v (steps + 1) (after outs) new)
      → IfOk result (λ r. (v : ℕ) → fault_from (OfStep v n o ∷ []) (word ∷ old) ≡ fault_behind r v (n + 1) (o + outs_of t) new)
  fits after took fit = fits_if result took fit
    where
      fits_if : (found : Result Bool LineFault) → IfOk found (λ r. TakesStep (step_word s ∷ old) t r new × IsStep t × (after o ≡ o + outs_of t))
          → IfOk found (λ r. (v steps outs : ℕ) → fault_from (expected_in (Some s) v steps outs) old ≡ fault_behind r v (steps + 1) (after outs) new)
          → IfOk found (λ r. (v : ℕ) → fault_from (OfStep v n o ∷ []) (word ∷ old) ≡ fault_behind r v (n + 1) (o + outs_of t) new)
      fits_if (Err f) took fit = tt
      fits_if (Ok r) took fit = λ v. behind v ∙ fit v n o ∙ ap (λ (m : ℕ). fault_behind r v (n + 1) m new) took.2

  -- a fault of what is after the word is one of the step
  pub fails_so : IfErr result (λ f. (v steps outs : ℕ) → fault_from (expected_in (Some s) v steps outs) old ≡ Some f)
      → IfErr result (λ f. (v : ℕ) → IsFault f (fault_from (OfStep v n o ∷ []) (word ∷ old)))
  fails_so failed = fails_if result failed
    where
      fails_if : (found : Result Bool LineFault) → IfErr found (λ f. (v steps outs : ℕ) → fault_from (expected_in (Some s) v steps outs) old ≡ Some f)
          → IfErr found (λ f. (v : ℕ) → IsFault f (fault_from (OfStep v n o ∷ []) (word ∷ old)))
      fails_if (Ok r) failed = tt
      fails_if (Err f) failed = λ v. is_fault f _ (behind v ∙ failed v n o)

-- one more step after a bar
pub one_more : (all before left : List (List ℕ)) (found more : List RawStep) (s : RawStep) → codes "|" ∷ all ≡ flat_map further_step found ++ codes "|" ∷ before
    → before ≡ step_words s ++ codes "|" ∷ left → more ≡ found ++ s ∷ [] → codes "|" ∷ all ≡ flat_map further_step more ++ codes "|" ∷ left
one_more all before left found more s same taken is =
    let front : List (List ℕ) = flat_map further_step found in
    let joined : flat_map further_step more ≡ front ++ further_step s =
    ap (flat_map further_step) is ∙ flat_map-append further_step found (s ∷ []) ∙ ap (λ (w : List (List ℕ)). front ++ w) (append-nil (further_step s)) in
    same ∙ ap (λ (w : List (List ℕ)). front ++ codes "|" ∷ w) taken
    ∙ sym (ap (λ (w : List (List ℕ)). w ++ codes "|" ∷ left) joined ∙ append_assoc front (further_step s) (codes "|" ∷ left))

-- its outs are counted too
pub outs_more : (found more : List RawStep) (s : RawStep) (outs count : ℕ) → outs ≡ sum_by outs_of found → count ≡ outs_of s → more ≡ found ++ s ∷ []
    → outs + count ≡ sum_by outs_of more
outs_more found more s outs count so one is = omega (arith, so, one, ap (sum_by outs_of) is, sum_by-append outs_of found (s ∷ []))

-- and it is a step as the others are
pub each_more : (found more : List RawStep) (s : RawStep) → AllByRecursion IsStep found → IsStep s → more ≡ found ++ s ∷ [] → AllByRecursion IsStep more
each_more found more s each here is = subst (AllByRecursion IsStep) (sym is) (with_last found each)
  where
    with_last : (ss : List RawStep) → AllByRecursion IsStep ss → AllByRecursion IsStep (ss ++ s ∷ [])
    with_last [] h = (here, tt)
    with_last (x ∷ xs) h = (h.0, with_last xs h.1)

-- what is left has the fault of the whole
pub fits_more : (v : ℕ) (all before after left : List (List ℕ)) (len old new outs count made : ℕ)
    → fault_from (OfStep v 0 0 ∷ []) all ≡ fault_from (OfStep v len outs ∷ []) before → before ≡ after
    → fault_from (OfStep v old outs ∷ []) after ≡ fault_from (OfStep v (old + 1) (outs + made) ∷ []) left
    → old ≡ len → new ≡ len + 1 → count ≡ made → fault_from (OfStep v 0 0 ∷ []) all ≡ fault_from (OfStep v new (outs + count) ∷ []) left
fits_more v all before after left len old new outs count made so at fit is one more =
    let next : old + 1 ≡ new = omega arith in
    so ∙ ap (λ (n : ℕ). fault_from (OfStep v n outs ∷ []) before) (sym is) ∙ ap (fault_from (OfStep v old outs ∷ [])) at ∙ fit
    ∙ ap (λ (n : ℕ). fault_from (OfStep v n (outs + made) ∷ []) left) next ∙ ap (λ (m : ℕ). fault_from (OfStep v new (outs + m) ∷ []) left) (sym more)
