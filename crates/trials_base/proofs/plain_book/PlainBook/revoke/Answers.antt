use Rattle.std.proofs.Common.{◌≡◌, ℕ, map, length, refl, ◌∙◌, ap, subst, vec_len}
use Rattle.std.proofs.lemmas.List.{with_items_is, length-map}
use Rattle.model_base.specs.declared.deed.Revocation.{Revocation}
use Rattle.model_base.specs.Records.{ended_at}
use Rattle.grants_base.specs.Book.{IsLater}
use Rattle.grants_base.proofs.RevokeLaws.{ended_book, sound_revoked}
use Rattle.trials_base.proofs.plain_book.PlainBook.revoke.Goals as goal

pub invariant_of-self : goal.invariant_of-self
invariant_of-self c =
    let place = c.args.revocation.now.place in
    let ended = c.in_ok-ended.ended.items in
    let here = ap (λ (r : Revocation). r.place) c.revocation.view_is in
    let closed = subst (λ (p : ℕ). c.close.new.records ≡ map (ended_at p c.deref.result.now) c.deref_mut.result.now) here c.close.ensures in
    let long : length c.close.new.records ≡ vec_len c.self.inside.records = ap length closed ∙ length-map c.deref_mut.result.now (ended_at place c.deref.result.now) ∙ c.deref_mut.ensures.len in
    let now = with_items_is c.self.inside.records c.close.new.records long ∙ closed ∙ ap (λ ranks. map (ended_at place ranks) c.deref_mut.result.now) c.deref.ensures.value ∙ ap (map (ended_at place ended)) c.deref_mut.ensures.value in
    sound_revoked (record { tables = c.self.inside.tables.items; records = c.self.inside.records.items }) c.args.self.now place ended _ c.self.view_is c.self.invariant (subst (IsLater c.args.self.now) here (c.if-not-is_later.ensures.0 refl)) now

pub returns-clause-ok : goal.returns-clause-ok
returns-clause-ok c =
    let place = c.args.revocation.now.place in
    let ended = c.in_ok-ended.ended.items in
    let here = ap (λ (r : Revocation). r.place) c.revocation.view_is in
    let closed = subst (λ (p : ℕ). c.close.new.records ≡ map (ended_at p c.deref.result.now) c.deref_mut.result.now) here c.close.ensures in
    let long : length c.close.new.records ≡ vec_len c.self.inside.records = ap length closed ∙ length-map c.deref_mut.result.now (ended_at place c.deref.result.now) ∙ c.deref_mut.ensures.len in
    let now = with_items_is c.self.inside.records c.close.new.records long ∙ closed ∙ ap (λ ranks. map (ended_at place ranks) c.deref_mut.result.now) c.deref.ensures.value ∙ ap (map (ended_at place ended)) c.deref_mut.ensures.value in
    ended_book (record { tables = c.self.inside.tables.items; records = c.self.inside.records.items }) c.args.self.now place ended ended _ c.self.view_is now (λ q. refl)
