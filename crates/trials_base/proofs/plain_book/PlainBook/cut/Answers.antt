use Rattle.std.proofs.Common.{◌≡◌, map, length, refl, sym, ◌∙◌, ap, subst, vec_len}
use Rattle.std.proofs.lemmas.List.{with_items_is, length-map}
use Rattle.grants_base.specs.Book.{Entries, IsSoundBook, reopened}
use Rattle.grants.proofs.CutLaws.{cut-filter, cut_now, sound_cut}
use Rattle.trials_base.proofs.plain_book.PlainBook.cut.Goals as goal

pub invariant_of-self : goal.invariant_of-self
invariant_of-self c =
    let place = c.args.place in
    let long : length c.reopen.new.records ≡ vec_len c.retain_records.new.records = ap length c.reopen.ensures ∙ length-map c.deref_mut.result.now (reopened place) ∙ c.deref_mut.ensures.len in
    let records = with_items_is c.retain_records.new.records c.reopen.new.records long ∙ c.reopen.ensures
    ∙ ap (map (reopened place)) (c.deref_mut.ensures.value ∙ c.retain_records.ensures) ∙ cut-filter place c.self.inside.records.items in
    let inside : Entries = record { tables = c.self.inside.tables.items; records = c.self.inside.records.items } in
    subst IsSoundBook (sym (cut_now inside inside place _ _ refl c.retain_tables.ensures records)) (sound_cut inside place c.self.invariant)

pub returns : goal.returns
returns c =
    let place = c.args.place in
    let long : length c.reopen.new.records ≡ vec_len c.retain_records.new.records = ap length c.reopen.ensures ∙ length-map c.deref_mut.result.now (reopened place) ∙ c.deref_mut.ensures.len in
    let records = with_items_is c.retain_records.new.records c.reopen.new.records long ∙ c.reopen.ensures
    ∙ ap (map (reopened place)) (c.deref_mut.ensures.value ∙ c.retain_records.ensures) ∙ cut-filter place c.self.inside.records.items in
    let inside : Entries = record { tables = c.self.inside.tables.items; records = c.self.inside.records.items } in
    cut_now inside c.args.self.now place _ _ c.self.view_is c.retain_tables.ensures records
