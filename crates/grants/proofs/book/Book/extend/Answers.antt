use Rattle.std.proofs.Common.{◌++◌, List, sym, ◌∙◌, ap, subst}
use Rattle.grants_base.specs.Book.{Entries, ShowsBook}
use Rattle.grants_base.specs.declared.entries.Creation.{Creation}
use Rattle.grants.proofs.ExtendLaws.{extended_now, shows_extended}
use Rattle.grants.proofs.book.Book.extend.Goals as goal

pub returns-clause-ok : goal.returns-clause-ok
returns-clause-ok c =
    let inside : Entries = record { tables = c.self.inside.tables.items; records = c.self.inside.records } in
    let tables = c.append_tables.ensures ∙ ap (λ (items : List Creation). items ++ c.args.tables.now) c.in_ok-reserve.ensures.items in
    extended_now inside c.args.self.now c.args.tables.now c.args.grants.now c.args.ends.now _ _ c.self.view_is tables c.in_ok-extend.ensures.ok

pub returns-clause-shows : goal.returns-clause-shows
returns-clause-shows c = λ owners others deeds more shows continues.
    subst (λ (book : Entries). ShowsBook book others (deeds ++ more)) (sym (returns-clause-ok c))
    (shows_extended c.args.self.now c.args.tables.now c.args.grants.now c.args.ends.now owners others deeds more shows continues)
