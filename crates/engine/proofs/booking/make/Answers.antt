use Rattle.std.proofs.Common.{◌≡◌, ◌+◌, ◌++◌, [], ◌∷◌, List, ap, sym, ◌∙◌, subst, arith}
use Rattle.std.specs.Prelude.{All}
use Rattle.std.proofs.lemmas.List.{append-nil}
use Rattle.std.proofs.lemmas.List.Elements.{All-head}
use Rattle.model_base.specs.declared.deed.Deed.{Deed}
use Rattle.model_base.specs.declared.deed.Deed.TheVariants.{Granting, Revoking}
use Rattle.model_base.specs.declared.outcome.DeedDone.{DeedDone}
use Rattle.model_base.specs.DeedsLeft.{revocation_of}
use Rattle.model_base.specs.Outcomes.{deed_done, deeds_before, owners, world_before}
use Rattle.model_base.specs.Privileges.{place_of}
use Rattle.grants_base.specs.Book.{Entries, cut_book}
use Rattle.evaluation.proofs.OnlyRevocation.{only_revocation}
use Rattle.filling.proofs.Cutting.{cut_ended, cut_granted}
use Rattle.filling.proofs.Making.{below_here, first_granting, is_held, made_none, made_revoked, making_first, making_next, may_next, on_table}
use Rattle.engine.proofs.booking.make.Goals as goal

pub returns-in-None-clause-ok : goal.returns-in-None-clause-ok
returns-in-None-clause-ok g c =
    let past = deeds_before g.log.statements c.args.place in
    made_none g.log.statements c.args.place c.args.book.now c.requires.stands c.requires.owners
    (c.requires.next ∙ ap (λ (ds : List Deed). past ++ ds) c.in-None.ensures.0 ∙ append-nil past)

pub grant-requires-clause-later : goal.grant-requires-clause-later
grant-requires-clause-later g c =
    let left : List Deed = c.next.new.self in
    let split : c.args.deeds.now ≡ Granting c.in-Some-Granting.grant ∷ left = c.in-Some-Granting.ensures ∙ ap (λ (d : Deed). d ∷ left) c.in-Some-Granting.field-0-is in
    may_next g.log.statements c.args.place c.args.book.now c.in-Some-Granting.grant left
    (making_first g.log.statements c.args.place c.args.book.now c.requires.stands c.requires.owners c.args.deeds.now c.requires.next c.requires.at
    c.requires.one c.requires.tables c.in-Some-Granting.grant left split)

pub grant-requires-clause-table : goal.grant-requires-clause-table
grant-requires-clause-table g c =
    let left : List Deed = c.next.new.self in
    let split : c.args.deeds.now ≡ Granting c.in-Some-Granting.grant ∷ left = c.in-Some-Granting.ensures ∙ ap (λ (d : Deed). d ∷ left) c.in-Some-Granting.field-0-is in
    on_table g.log.statements c.args.place c.args.book.now c.in-Some-Granting.grant left
    (making_first g.log.statements c.args.place c.args.book.now c.requires.stands c.requires.owners c.args.deeds.now c.requires.next c.requires.at
    c.requires.one c.requires.tables c.in-Some-Granting.grant left split)

pub grant-requires-clause-held : goal.grant-requires-clause-held
grant-requires-clause-held g c =
    let left : List Deed = c.next.new.self in
    let split : c.args.deeds.now ≡ Granting c.in-Some-Granting.grant ∷ left = c.in-Some-Granting.ensures ∙ ap (λ (d : Deed). d ∷ left) c.in-Some-Granting.field-0-is in
    is_held g.log.statements c.args.place c.args.book.now c.in-Some-Granting.grant left
    (making_first g.log.statements c.args.place c.args.book.now c.requires.stands c.requires.owners c.args.deeds.now c.requires.next c.requires.at
    c.requires.one c.requires.tables c.in-Some-Granting.grant left split)

pub make_grants-requires : goal.make_grants-requires
make_grants-requires g c =
    let left : List Deed = c.next.new.self in
    let split : c.args.deeds.now ≡ Granting c.in-Some-Granting.grant ∷ left = c.in-Some-Granting.ensures ∙ ap (λ (d : Deed). d ∷ left) c.in-Some-Granting.field-0-is in
    let first = making_first g.log.statements c.args.place c.args.book.now c.requires.stands c.requires.owners c.args.deeds.now c.requires.next c.requires.at
    c.requires.one c.requires.tables c.in-Some-Granting.grant left split in
    let made = c.in_ok-grant-in-Some-Granting.ensures in
    making_next g.log.statements c.args.place c.args.book.now c.in-Some-Granting.grant left first c.grant.new.self
    made.ok made.after made.next made.later

pub returns-in_err-make_grants-in-Some-Granting-clause-cut : goal.returns-in_err-make_grants-in-Some-Granting-clause-cut
returns-in_err-make_grants-in-Some-Granting-clause-cut g c = λ first low.
    let left : List Deed = c.next.new.self in
    let split : c.args.deeds.now ≡ Granting c.in-Some-Granting.grant ∷ left = c.in-Some-Granting.ensures ∙ ap (λ (d : Deed). d ∷ left) c.in-Some-Granting.field-0-is in
    let at = first_granting c.args.place c.args.deeds.now c.requires.at c.in-Some-Granting.grant left split in
    c.make_grants.ensures.cut first low ∙ ap (cut_book first) c.in_ok-grant-in-Some-Granting.ensures.ok
    ∙ cut_granted first c.args.book.now c.in-Some-Granting.grant (omega (arith, low, at))

pub returns-in_ok-make_grants-in-Some-Granting-clause-cut : goal.returns-in_ok-make_grants-in-Some-Granting-clause-cut
returns-in_ok-make_grants-in-Some-Granting-clause-cut g c = λ first low.
    let left : List Deed = c.next.new.self in
    let split : c.args.deeds.now ≡ Granting c.in-Some-Granting.grant ∷ left = c.in-Some-Granting.ensures ∙ ap (λ (d : Deed). d ∷ left) c.in-Some-Granting.field-0-is in
    let at = first_granting c.args.place c.args.deeds.now c.requires.at c.in-Some-Granting.grant left split in
    c.make_grants.ensures.cut first low ∙ ap (cut_book first) c.in_ok-grant-in-Some-Granting.ensures.ok
    ∙ cut_granted first c.args.book.now c.in-Some-Granting.grant (omega (arith, low, at))

pub returns-in_ok-ended-in-Some-Revoking-clause-ok : goal.returns-in_ok-ended-in-Some-Revoking-clause-ok
returns-in_ok-ended-in-Some-Revoking-clause-ok g c =
    let log = g.log.statements in
    let past = deeds_before log c.args.place in
    let left : List Deed = c.next.new.self in
    let revocation = c.in-Some-Revoking.revocation in
    let split : c.args.deeds.now ≡ Revoking revocation ∷ left = c.in-Some-Revoking.ensures ∙ ap (λ (d : Deed). d ∷ left) c.in-Some-Revoking.field-0-is in
    let alone : c.args.deeds.now ≡ Revoking revocation ∷ [] = only_revocation c.args.deeds.now revocation c.requires.one (ap revocation_of split) in
    let at : revocation.place ≡ c.args.place = All-head (λ made. place_of made ≡ c.args.place) (Revoking revocation) left (subst (All (λ made. place_of made ≡ c.args.place)) split c.requires.at) in
    let found = c.in_ok-ended-in-Some-Revoking.ensures in
    made_revoked log c.args.place c.args.book.now c.requires.stands c.requires.owners revocation (c.requires.next ∙ ap (λ (ds : List Deed). past ++ ds) alone)
    c.revoke.new.self (ap (λ (b : Entries). b.tables) found.ok)
    (found.after (owners log) past c.requires.stands.shown (below_here log c.args.place c.args.book.now c.requires.stands revocation.place at))
    (found.later (c.args.place + 1) (omega (arith, at)))

pub returns-in_ok-ended-in-Some-Revoking-clause-told : goal.returns-in_ok-ended-in-Some-Revoking-clause-told
returns-in_ok-ended-in-Some-Revoking-clause-told g c =
    let log = g.log.statements in
    let left : List Deed = c.next.new.self in
    let revocation = c.in-Some-Revoking.revocation in
    let split : c.args.deeds.now ≡ Revoking revocation ∷ left = c.in-Some-Revoking.ensures ∙ ap (λ (d : Deed). d ∷ left) c.in-Some-Revoking.field-0-is in
    let at : revocation.place ≡ c.args.place = All-head (λ made. place_of made ≡ c.args.place) (Revoking revocation) left (subst (All (λ made. place_of made ≡ c.args.place)) split c.requires.at) in
    ap DeedDone.Revoked (c.new.ensures ∙ c.in_ok-ended-in-Some-Revoking.ensures.ended (owners log) (deeds_before log c.args.place) c.requires.stands.shown
    (below_here log c.args.place c.args.book.now c.requires.stands revocation.place at))
    ∙ ap (deed_done (owners log) (world_before log c.args.place)) (sym split)

pub returns-in_ok-ended-in-Some-Revoking-clause-cut : goal.returns-in_ok-ended-in-Some-Revoking-clause-cut
returns-in_ok-ended-in-Some-Revoking-clause-cut g c = λ first low.
    let left : List Deed = c.next.new.self in
    let revocation = c.in-Some-Revoking.revocation in
    let split : c.args.deeds.now ≡ Revoking revocation ∷ left = c.in-Some-Revoking.ensures ∙ ap (λ (d : Deed). d ∷ left) c.in-Some-Revoking.field-0-is in
    let at : revocation.place ≡ c.args.place = All-head (λ made. place_of made ≡ c.args.place) (Revoking revocation) left (subst (All (λ made. place_of made ≡ c.args.place)) split c.requires.at) in
    ap (cut_book first) c.in_ok-ended-in-Some-Revoking.ensures.ok
    ∙ cut_ended first c.args.book.now revocation.place c.in_ok-ended-in-Some-Revoking.ended.items (omega (arith, low, at))
