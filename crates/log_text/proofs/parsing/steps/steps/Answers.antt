use Rattle.std.proofs.Common.{◌≡◌, ℕ, ◌+◌, ◌∷◌, [], take, ap, ◌∙◌, sym, refl, arith, true}
use Rattle.log_text.specs.Fault.{OfStep, fault_from}
use Rattle.line_words.specs.StepWords.{step_word}
use Rattle.line_words.proofs.StepNames.{named_step}
use Rattle.log_text.proofs.StepNames.{goes_on}
use Rattle.log_text.proofs.TakenSteps.{each_more, fits_more, one_more, outs_more}
use Rattle.log_text.proofs.parsing.steps.steps.Goals as goal

pub steps-preserved-in-Some-computing : goal.steps-preserved-in-Some-computing
steps-preserved-in-Some-computing c =
    let i = c.steps.invariant in
    let s = c.in-Some-computing.step in
    let name = c.in-Some.name in
    let n = c.steps.place in
    let outs = c.steps.outs in
    let found = take n c.steps.found.items in
    let more = take (n + 1) c.put_step.new.found.items in
    let taken = c.in-Some-computing.ensures.step in
    let low = c.in_ok-any_more.ensures.ok in
    let free = c.in-Some-computing.ensures.free n outs low in
    let none : outs + 0 ≡ outs = omega arith in
    let before = c.steps.left in
    let after = c.next_name.new.words in
    let left = c.computing.new.words in
    let fit : (v : ℕ) → fault_from (OfStep v n outs ∷ []) (step_word name ∷ after) ≡ fault_from (OfStep v (n + 1) (outs + 0) ∷ []) left =
    λ v. goes_on (step_word name ∷ after) after left name v n outs 0 true refl (named_step name) free refl (c.in-Some-computing.ensures.fits v n outs) in
    record {
      none = i.none;
      same = one_more c.args.words.now before left found more s i.same (c.in-Some.ensures ∙ taken.0) c.put_step.ensures.taken;
      within = omega (arith, c.put_step.ensures.within);
      room = omega (arith, low);
      reserved = omega (arith, i.reserved, c.put_step.ensures.room);
      outputs = sym none ∙ outs_more found more s outs 0 i.outputs (sym taken.2) c.put_step.ensures.taken;
      few = i.few;
      each = each_more found more s i.each taken.1 c.put_step.ensures.taken;
      fits = λ v. fits_more v c.args.words.now before (step_word name ∷ after) left n n (n + 1) outs 0 0 (i.fits v) c.in-Some.ensures (fit v) refl refl refl
          ∙ ap (λ m. fault_from (OfStep v (n + 1) m ∷ []) left) none;
    }
