use Rattle.std.proofs.Common.{◌≡◌, ◌≤◌, ◌++◌, ◌∷◌, ◌∙◌, [], ℕ, List, Some, ap, arith, get_or, length, refl, subst, sym}
use Rattle.std.specs.Prelude.{Err, Vec}
use Rattle.std.specs.declared.alloc.Global.{Global}
use Rattle.std.proofs.lemmas.List.{length-append}
use Rattle.std.proofs.lemmas.List.Elements.{Contains-get_or}
use Rattle.std.proofs.lemmas.Result.{err_from_is_err_and}
use Rattle.sequencer.specs.Catalog.{no_names}
use Rattle.report.specs.Report.{log_of, names_after}
use Rattle.audit_text.specs.Answer.{Answers}
use Rattle.audit_text.specs.Places.{question_at}
use Rattle.audit_text.specs.declared.fault.WorkFault.{WorkFault}
use Rattle.audit_text.proofs.Several.{answered_more}
use Rattle.audit_text.proofs.places.answer_each.Goals as goal

pub returns-in_err-text-clause-none : goal.returns-in_err-text-clause-none
returns-in_err-text-clause-none g c = λ places is input so.
    let p = err_from_is_err_and c.from_residual-in_err-text.result c.from_residual-in_err-text.ensures.1 in
    let same : c.answer_next.result ≡ Err (WorkFault.NoSuchPlace places) = cc (p.1, p.2, c.in_err-text.was) in
    let sorted : List ℕ = c.args.sorted.now in (
      get_or sorted c.loop-place.place-index 0,
      (
        Contains-get_or sorted c.loop-place.place-index 0 c.loop-place-test.true,
        c.answer_next.ensures.none places same input (c.loop-place.invariant.of (Some input) so),
      ),
    )

pub returns-in_err-text-clause-other : goal.returns-in_err-text-clause-other
returns-in_err-text-clause-other g c = λ other.
    let p = err_from_is_err_and c.from_residual-in_err-text.result c.from_residual-in_err-text.ensures.1 in
    c.answer_next.ensures.other (λ is. other (cc (p.1, p.2, is, c.in_err-text.was))) ∙ c.loop-place.invariant.read_errors

pub loop-place-preserved : goal.loop-place-preserved
loop-place-preserved g c =
    let inv = c.loop-place.invariant in
    let sorted : List ℕ = c.args.sorted.now in
    let index = c.loop-place.place-index in
    let before = c.in_ok-reserve.ensures.items in
    record {
      between = c.in_ok-text.ensures.between;
      of = λ input so. c.in_ok-text.ensures.of input (inv.of input so);
      kept = λ k from within. let order : get_or sorted index 0 ≤ get_or sorted k 0 = c.requires.order index k 0 (omega (arith, from)) within in omega (arith, order, c.in_ok-text.ensures.kept);
      last = c.answer_next.ensures.last ∙ inv.last;
      count = ap length (c.push_reserved.ensures.items ∙ ap (λ (xs : List (Vec ℕ Global)). xs ++ c.in_ok-text.text ∷ []) before)
          ∙ length-append c.loop-place.texts.items (c.in_ok-text.text ∷ []) ∙ omega (arith, inv.count);
      answers = λ input readings are so.
          let log = log_of no_names readings in
          let names = names_after no_names readings in
          let more = answered_more log names c.args.is_checked sorted c.loop-place.texts.items index (get_or sorted index 0) c.in_ok-text.text inv.count refl
          (inv.answers input readings are so) (c.in_ok-text.ensures.answer input readings are (inv.of (Some input) so)) in
          let items : c.push_reserved.new.self.items ≡ c.loop-place.texts.items ++ c.in_ok-text.text ∷ [] =
          c.push_reserved.ensures.items ∙ ap (λ (xs : List (Vec ℕ Global)). xs ++ c.in_ok-text.text ∷ []) before in
          λ k d low.
          subst (λ (xs : List (Vec ℕ Global)). Answers log names (question_at c.args.is_checked (get_or sorted k 0)) (get_or xs k d).items) (sym items) (more k d low);
      read_errors = c.answer_next.ensures.other (λ is. cc (is, c.in_ok-text.was)) ∙ inv.read_errors;
    }
