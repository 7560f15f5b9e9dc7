use Rattle.std.proofs.Common.{◌≡◌, ◌++◌, ◌∙◌, ℕ, List, ap, length, subst, sym}
use Rattle.std.proofs.lemmas.Result.{on_ok_weaker}
use Rattle.model_base.specs.Outcomes.{deeds_before, owners}
use Rattle.grants_base.specs.Book.{Entries, ShowsBook}
use Rattle.privileges.specs.declared.spanning.Span.{Span}
use Rattle.privileges_text.specs.HistoryText.{spans_text}
use Rattle.privileges_text.proofs.history.put_spans.Goals as goal

pub returns : goal.returns
returns c =
    let run = c.args.engine.now in
    let log = run.log.statements in
    let of = c.args.of.now in
    let shows : ShowsBook c.book_of.result.now (owners log) (deeds_before log (length log)) =
    subst (λ (book : Entries). ShowsBook book (owners log) (deeds_before log (length log))) (sym c.book_of.ensures.value) c.book_of.ensures.shows in
    on_ok_weaker c.put_lines.result
    (λ told. record {
      spans = c.in_ok-found.found.items;
      all = c.in_ok-found.ensures.spans (owners log) (deeds_before log (length log)) shows c.requires.other;
      told =
          told
          ∙ ap (λ (start : List ℕ). start ++ spans_text run.log of c.deref.result.now) c.requires.empty
          ∙ ap (λ (spans : List Span). spans_text run.log of spans) c.deref.ensures.value;
    })
    c.put_lines.ensures
