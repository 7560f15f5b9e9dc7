use Rattle.std.proofs.Common.{◌≡◌, ◌<◌, ◌≤◌, ◌||◌, true, false, length, sym, ◌∙◌, ap, arith}
use Rattle.std.specs.List.{list_any}
use Rattle.std.proofs.lemmas.List.{take_all}
use Rattle.std.proofs.lemmas.List.Elements.{All-get_or}
use Rattle.model_base.specs.declared.deed.Record.{Record}
use Rattle.model_base.specs.Privileges.{gives}
use Rattle.privileges.specs.declared.spanning.Span.{Span}
use Rattle.privileges.specs.Spans.{is_within}
use Rattle.privileges.proofs.Joined.{are_spans, begun_by, gives_in, later_records, told_more, told_same}
use Rattle.privileges.proofs.spanning.spans.Goals as goal
use Rattle.privileges.proofs.spanning.spans.Goals.{then-gives+in_ok-join, else-gives}

pub loop-record-preserved : goal.loop-record-preserved
loop-record-preserved c =
    let less : c.loop-record.record-index < length c.args.book.now.records = rw (sym c.records-record-items.ensures.records) c.loop-record-test.true in
    let is = rw c.records-record-items.ensures.records at c.record-item.is in
    elim c.if-gives.branch [
      | then-gives+in_ok-join w ↦
          let given : gives c.record-item.result.grant c.args.user c.args.need.now ≡ true = sym c.gives.ensures ∙ w.if-gives.true in
          record {
            apart = rw w.found-is w.in_ok-join.ensures.apart;
            later = λ k entry above there.
                later_records c.args.book.now.records c.if-gives.found.items c.loop-record.record-index k c.record-item.result entry
                c.records-record-items.ensures.sound.rising less is above there
                (rw (w.found-is, ← ap (λ (span : Span). span.from) w.span_of.ensures) w.in_ok-join.ensures.later);
            begun = λ place below.
                begun_by c.if-gives.found.items c.record-item.result.grant.place place
                (rw is (All-get_or (λ (entry : Record). entry.grant.place < place) c.args.book.now.records c.loop-record.record-index c.record-item.result less below))
                (rw (w.found-is, ← ap (λ (span : Span). span.from) w.span_of.ensures) w.in_ok-join.ensures.later);
            tells = λ place.
                told_more c.args.user c.args.need.now place c.loop-record.record-index c.args.book.now.records c.record-item.result
                c.loop-record.found.items c.if-gives.found.items less is given (c.loop-record.invariant.tells place)
                (rw w.found-is
                (w.in_ok-join.ensures.tells place
                ∙ ap (λ (span : Span). list_any (is_within place) c.loop-record.found.items || is_within place span) w.span_of.ensures));
          }
      | else-gives w ↦
          let given : gives c.record-item.result.grant c.args.user c.args.need.now ≡ false = sym c.gives.ensures ∙ w.if-gives.false in
          record {
            apart = rw w.found-is c.loop-record.invariant.apart;
            later = λ k entry above there. rw w.found-is (c.loop-record.invariant.later k entry (omega arith) there);
            begun = λ place below. rw w.found-is (c.loop-record.invariant.begun place below);
            tells = λ place.
                rw w.found-is
                (told_same c.args.user c.args.need.now place c.loop-record.record-index c.args.book.now.records c.record-item.result
                c.loop-record.found.items less is given (c.loop-record.invariant.tells place));
          }
    ]

pub returns-clause-spans : goal.returns-clause-spans
returns-clause-spans c = λ owners deeds shows other.
    let over : length c.args.book.now.records ≤ c.loop-record.record-index = rw (sym c.records-record-items.ensures.records) c.loop-record-test.false in
    are_spans c.args.book.now owners deeds c.args.user c.args.need.now c.loop-record.found.items shows other c.loop-record.invariant.apart
    (λ place.
    c.loop-record.invariant.tells place
    ∙ ap (list_any (gives_in c.args.user c.args.need.now place)) (take_all c.loop-record.record-index c.args.book.now.records over))
