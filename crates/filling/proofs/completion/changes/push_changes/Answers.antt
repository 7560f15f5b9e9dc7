use Rattle.std.proofs.Common.{◌≡◌, ◌<◌, ◌+◌, ◌++◌, [], ◌∷◌, ℕ, List, length, map, Result, Ok, Err, OnOk, true, sym, ap, ◌∙◌, subst}
use Rattle.std.specs.Prelude.{All}
use Rattle.std.proofs.lemmas.List.{append-nil}
use Rattle.model_base.specs.declared.deed.Deed.{Deed}
use Rattle.model_base.specs.declared.deed.Grant.{Grant}
use Rattle.model_base.specs.DeedsLeft.{revocation_of}
use Rattle.model_base.specs.Laws.{IsGranting, IsRising}
use Rattle.model_base.specs.Outcomes.{deeds_of}
use Rattle.model_base.specs.Privileges.{is_among}
use Rattle.model_base.specs.Records.{ended_at, grants_of, in_force, recorded}
use Rattle.model_base.proofs.Made.{deeds_of-one}
use Rattle.grants_base.specs.Book.{extended}
use Rattle.grants_base.specs.declared.entries.Creation.{Creation}
use Rattle.grants_base.specs.declared.entries.End.{End}
use Rattle.evaluation.proofs.OnlyRevocation.{all_grants}
use Rattle.own_words.specs.Words.{ended_in}
use Rattle.filling.specs.Changes.{AreChanges, creation_at}
use Rattle.filling.proofs.Changing.{ended-open, rising, with_created, with_granted, with_none, with_revoked}
use Rattle.filling.proofs.NoDeeds.{no_deeds, none_listed}
use Rattle.filling.proofs.completion.changes.push_changes.Goals as goal

-- what follows where all went well
if_ok : {T E A B : Type 0} (result : Result T E) → OnOk result A → (A → B) → OnOk result B
if_ok (Ok value) first follows = follows first
if_ok (Err error) first follows = tt

both_ok : {T E A B C : Type 0} (result : Result T E) → OnOk result A → OnOk result B → (A → B → C) → OnOk result C
both_ok (Ok value) first second follows = follows first second
both_ok (Err error) first second follows = tt

pub returns-then-creates-clause-changes : goal.returns-then-creates-clause-changes
returns-then-creates-clause-changes c =
    let log = c.args.batch.now.log.statements in
    let first = c.args.batch.now.first in
    let done = c.args.done.now in
    let owner = c.statement-statement.result.now.user in
    let here : c.first_place.result + c.args.index ≡ first + c.args.index = ap (λ n. n + c.args.index) c.first_place.ensures.value in
    let pushed = c.in_ok-push.ensures.items ∙ ap (λ (place : ℕ). done.tables.items ++ creation_at place owner ∷ []) here in
    subst (λ (tables : List Creation). AreChanges log first (c.args.index + 1) c.args.book.now tables done.grants.items done.ends.items) (sym pushed)
    (with_created log first c.args.index c.args.book.now done.tables.items done.grants.items done.ends.items c.requires.before
    c.statement-statement.result.now c.statement-statement.ensures.at c.requires.known (sym c.creates.ensures ∙ c.if-creates.true))

pub returns-then-not-is_done-clause-changes : goal.returns-then-not-is_done-clause-changes
returns-then-not-is_done-clause-changes c =
    let done = c.args.done.now in
    with_none c.args.batch.now.log.statements c.args.batch.now.first c.args.index c.args.book.now done.tables.items done.grants.items done.ends.items c.requires.before
    c.statement-statement.result.now c.statement-statement.ensures.at c.requires.known (sym c.creates.ensures ∙ c.if-creates.false) c.args.came.now c.requires.came
    (let falls = c.if-not-is_done.true in let is = c.is_done.ensures in cc)

pub returns-then-is_none-clause-changes : goal.returns-then-is_none-clause-changes
returns-then-is_none-clause-changes c =
    let log = c.args.batch.now.log.statements in
    let first = c.args.batch.now.first in
    let done = c.args.done.now in
    let statement = c.statement-statement.result.now in
    let made = deeds_of (first + c.args.index) statement.user statement.form in
    let none : made ≡ [] = no_deeds (first + c.args.index) statement.user statement.form (none_listed c.deed_table.result c.is_none.result c.is_none.ensures c.if-is_none.true ∙ c.deed_table.ensures) in
    let grown = with_granted log first c.args.index c.args.book.now done.tables.items done.grants.items done.ends.items c.requires.before
    statement c.statement-statement.ensures.at c.requires.known (sym c.creates.ensures ∙ c.if-creates.false) c.args.came.now c.requires.came
    (let stands = c.if-not-is_done.false in let is = c.is_done.ensures in cc) (ap revocation_of none) in
    subst (λ (grants : List Grant). AreChanges log first (c.args.index + 1) c.args.book.now done.tables.items grants done.ends.items)
    (ap (λ (ds : List Deed). done.grants.items ++ grants_of ds) none ∙ append-nil done.grants.items) grown

pub push_grants-requires : goal.push_grants-requires
push_grants-requires c =
    let made = deeds_of (c.first_place.result + c.args.index) c.statement-statement.result.now.user c.statement-statement.result.now.form in
    subst (All IsGranting) (sym c.deeds_at.ensures)
    (all_grants made (deeds_of-one (c.first_place.result + c.args.index) c.statement-statement.result.now.user c.statement-statement.result.now.form)
    (sym c.revocation_at.ensures ∙ c.in-None.is))

pub push_ends-requires-clause-rising : goal.push_ends-requires-clause-rising
push_ends-requires-clause-rising c =
    let done = c.args.done.now in
    subst (λ (grants : List Grant). IsRising (recorded c.args.book.now.records ++ grants)) (sym c.as_slice.ensures.value)
    (rising c.args.batch.now.log.statements c.args.batch.now.first c.args.index c.args.book.now done.tables.items done.grants.items done.ends.items c.requires.before)

pub push_ends-requires-clause-open : goal.push_ends-requires-clause-open
push_ends-requires-clause-open c =
    let done = c.args.done.now in
    let statement = c.statement-statement.result.now in
    let here : c.first_place.result + c.args.index ≡ c.args.batch.now.first + c.args.index = ap (λ n. n + c.args.index) c.first_place.ensures.value in
    let revokes = sym (ap (λ (place : ℕ). revocation_of (deeds_of place statement.user statement.form)) here) ∙ sym c.revocation_at.ensures ∙ c.in-Some.is in
    subst (λ (grants : List Grant). All (λ one. is_among one (in_force (extended c.args.book.now [] grants done.ends.items).records) ≡ true) c.ended_in-ended.result.now) (sym c.as_slice.ensures.value)
    (subst (All (λ one. is_among one (in_force (extended c.args.book.now [] done.grants.items done.ends.items).records) ≡ true)) (sym c.ended_in-ended.ensures)
    (ended-open c.args.batch.now.log.statements c.args.batch.now.first c.args.index c.args.book.now done.tables.items done.grants.items done.ends.items c.requires.before
    statement c.statement-statement.ensures.at c.requires.known (sym c.creates.ensures ∙ c.if-creates.false) c.args.came.now c.requires.came
    (let stands = c.if-not-is_done.false in let is = c.is_done.ensures in cc) c.in-Some.revocation revokes))

pub returns-in-None-clause-changes : goal.returns-in-None-clause-changes
returns-in-None-clause-changes c =
    let log = c.args.batch.now.log.statements in
    let first = c.args.batch.now.first in
    let done = c.args.done.now in
    let statement = c.statement-statement.result.now in
    let here : c.first_place.result + c.args.index ≡ first + c.args.index = ap (λ n. n + c.args.index) c.first_place.ensures.value in
    let none = sym (ap (λ (place : ℕ). revocation_of (deeds_of place statement.user statement.form)) here) ∙ sym c.revocation_at.ensures ∙ c.in-None.is in
    let deeds = c.deeds_at.ensures ∙ ap (λ (place : ℕ). deeds_of place statement.user statement.form) here in
    let grown = with_granted log first c.args.index c.args.book.now done.tables.items done.grants.items done.ends.items c.requires.before
    statement c.statement-statement.ensures.at c.requires.known (sym c.creates.ensures ∙ c.if-creates.false) c.args.came.now c.requires.came
    (let stands = c.if-not-is_done.false in let is = c.is_done.ensures in cc) none in
    if_ok c.push_grants.result c.push_grants.ensures
    (λ now.
    subst (λ (grants : List Grant). AreChanges log first (c.args.index + 1) c.args.book.now done.tables.items grants done.ends.items)
    (sym (now ∙ ap (λ (ds : List Deed). done.grants.items ++ grants_of ds) deeds)) grown)

pub returns-in-Some-clause-changes : goal.returns-in-Some-clause-changes
returns-in-Some-clause-changes c =
    let log = c.args.batch.now.log.statements in
    let first = c.args.batch.now.first in
    let done = c.args.done.now in
    let statement = c.statement-statement.result.now in
    let here : c.first_place.result + c.args.index ≡ first + c.args.index = ap (λ n. n + c.args.index) c.first_place.ensures.value in
    let revokes = sym (ap (λ (place : ℕ). revocation_of (deeds_of place statement.user statement.form)) here) ∙ sym c.revocation_at.ensures ∙ c.in-Some.is in
    let Within : List Grant → End → Type 0 = λ grants end. end.slot < length c.args.book.now.records + length grants in
    let old = done.ends.items in
    let new = c.push_ends.new.ends.items in
    let at = c.in-Some.revocation.place in
    let ended : OnOk c.push_ends.result ((extended c.args.book.now [] done.grants.items new).records
    ≡ map (ended_at at (ended_in c.args.came.now)) (extended c.args.book.now [] done.grants.items old).records) =
    subst (λ (grants : List Grant). OnOk c.push_ends.result ((extended c.args.book.now [] grants new).records
    ≡ map (ended_at at (ended_in c.args.came.now)) (extended c.args.book.now [] grants old).records)) c.as_slice.ensures.value
    (subst (λ (ranks : List ℕ). OnOk c.push_ends.result ((extended c.args.book.now [] c.as_slice.result.now new).records
    ≡ map (ended_at at ranks) (extended c.args.book.now [] c.as_slice.result.now old).records)) c.ended_in-ended.ensures c.push_ends.ensures.ends) in
    let slots : OnOk c.push_ends.result (All (Within done.grants.items) old → All (Within done.grants.items) new) =
    subst (λ (grants : List Grant). OnOk c.push_ends.result (All (Within grants) old → All (Within grants) new)) c.as_slice.ensures.value c.push_ends.ensures.slots in
    both_ok c.push_ends.result ended slots
    (λ now stays.
    with_revoked log first c.args.index c.args.book.now done.tables.items done.grants.items old c.requires.before
    statement c.statement-statement.ensures.at c.requires.known (sym c.creates.ensures ∙ c.if-creates.false) c.args.came.now c.requires.came
    (let stands = c.if-not-is_done.false in let is = c.is_done.ensures in cc) c.in-Some.revocation revokes new now (stays c.requires.before.slots))
