use Rattle.std.proofs.Common.{◌≡◌, ℕ, List, refl}
use Rattle.std.specs.Prelude.{Err}
use Rattle.std.proofs.lemmas.Result.{err_from_is_err_and}
use Rattle.audit_text.specs.declared.fault.WorkFault.{WorkFault}
use Rattle.audit_text.proofs.RunSofar.{lacks_asked, places_begun, places_written}
use Rattle.audit_text.proofs.places.explain_places.Goals as goal

pub returns-in_err-texts-clause-none : goal.returns-in_err-texts-clause-none
returns-in_err-texts-clause-none g c = λ count is.
    let p = err_from_is_err_and c.from_residual-in_err-texts.result c.from_residual-in_err-texts.ensures.1 in
    let same : c.run_places.result ≡ Err (WorkFault.NoSuchPlace count) = cc (p.1, p.2, c.in_err-texts.was) in
    let sorted : List ℕ = c.in_ok-sorted.sorted.items in
    (refl, lacks_asked _ _ sorted count c.in_ok-sorted.ensures.permutation (rw c.deref.ensures.value at c.run_places.ensures.none count same))

pub returns-clause-text : goal.returns-clause-text
returns-clause-text g c =
    let sorted : List ℕ = c.in_ok-sorted.sorted.items in
    let texts = c.in_ok-texts.texts.items in
    let answered = rw c.deref.ensures.value at c.in_ok-texts.ensures.answers in (
      places_written c.write_answers.result c.args.asked.now.is_checked c.args.asked.now.places.now sorted texts _ _ _ answered
          (rw (c.deref-2.ensures.value, c.deref-3.ensures.value) at c.write_answers.ensures.done),
      places_begun c.args.asked.now.is_checked c.args.asked.now.places.now sorted texts _ _ _ answered
          (rw (c.deref-2.ensures.value, c.deref-3.ensures.value) at c.write_answers.ensures.begun),
    )
