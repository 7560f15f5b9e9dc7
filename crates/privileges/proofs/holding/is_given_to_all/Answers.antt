use Rattle.std.proofs.Common.{◌≡◌, ◌<◌, ◌≤◌, ◌&&◌, true, length, refl, sym, ◌∙◌, ap}
use Rattle.std.specs.List.{list_any}
use Rattle.std.proofs.lemmas.List.{take_all}
use Rattle.model_base.specs.declared.deed.Record.{Record}
use Rattle.model_base.specs.Records.{is_in_force_at}
use Rattle.privileges.specs.Holders.{gives_everyone}
use Rattle.privileges.proofs.Named.{any_here}
use Rattle.privileges.proofs.Told.{any_kept}
use Rattle.privileges.proofs.holding.is_given_to_all.Goals as goal

pub returns-then-gives_everyone : goal.returns-then-gives_everyone
returns-then-gives_everyone c = λ owners deeds shows.
    let less : c.loop-record.record-index < length c.args.book.now.records = rw (sym c.records-record-items.ensures.records) c.loop-record-test.true in
    let stands : is_in_force_at c.args.place c.record-item.result ≡ true = sym c.is_in_force_at.ensures ∙ c.if-is_in_force_at.true in
    let given : gives_everyone c.record-item.result.grant c.args.need.now ≡ true = sym c.gives_everyone.ensures ∙ c.if-gives_everyone.true in
    sym (any_kept (λ grant. gives_everyone grant c.args.need.now) c.args.book.now owners deeds c.args.place shows
    ∙ any_here (λ (entry : Record). is_in_force_at c.args.place entry && gives_everyone entry.grant c.args.need.now) c.args.book.now.records
    c.loop-record.record-index c.record-item.result less (rw c.records-record-items.ensures.records at c.record-item.is) (rw (stands, given) refl))

pub returns : goal.returns
returns c = λ owners deeds shows.
    let over : length c.args.book.now.records ≤ c.loop-record.record-index = rw (sym c.records-record-items.ensures.records) c.loop-record-test.false in
    sym (any_kept (λ grant. gives_everyone grant c.args.need.now) c.args.book.now owners deeds c.args.place shows
    ∙ ap (list_any (λ (entry : Record). is_in_force_at c.args.place entry && gives_everyone entry.grant c.args.need.now))
    (sym (take_all c.loop-record.record-index c.args.book.now.records over))
    ∙ c.loop-record.invariant)
