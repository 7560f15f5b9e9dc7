-- What is before the first place of a log.
use Rattle.std.proofs.Common.{◌≡◌, ◌++◌, ◌<◌, ℕ, List, [], length, refl, ap, subst, sym, ◌∙◌}
use Rattle.std.specs.Prelude.{IfSome}
use Rattle.std.proofs.lemmas.List.Elements.{All-nil}
use Rattle.model_base.specs.declared.deed.Deed.{Deed}
use Rattle.model_base.specs.declared.deed.Record.{Record}
use Rattle.model_base.specs.declared.statement.Statement.{Statement}
use Rattle.model_base.specs.Outcomes.{owners}
use Rattle.chains.specs.Store.{IsRight, Store}
use Rattle.grants_base.specs.Book.{Entries, table_of_deed}
use Rattle.grants_base.specs.declared.entries.Creation.{Creation}
use Rattle.engine.specs.RunState.{IsRunState}

-- no version of a row and no deed are before any log
pub empty_stands : (log : List Statement) (store : Store) (book : Entries) → store.end ≡ 0 → IsRight log store → book.tables ≡ [] → book.records ≡ []
    → IsRunState log 0 store book
empty_stands log store book ends right tables records =
    let empty : Entries = record { tables = []; records = [] } in
    let book_is : book ≡ empty = ap (λ (ts : List Creation). record { tables = ts; records = book.records }) tables ∙ ap (λ (rs : List Record). record { tables = []; records = rs }) records in
    let P : Entries → Type 0 = λ b. IsRunState log 0 store b in
    subst P (sym book_is) (record {
      ends = ends;
      right = right;
      booked = record {
        shown = record { more = owners log; begins = refl; proper = tt; told = All-nil (λ (deed : Deed). table_of_deed deed < 0); same = refl };
        later = record {
          tables = All-nil (λ (creation : Creation). creation.place < 0);
          grants = All-nil (λ (entry : Record). entry.grant.place < 0);
          ends = All-nil (λ (entry : Record). IfSome entry.end (λ end. end < 0));
        };
        owned = refl;
      };
    })
