use Rattle.std.proofs.Common.{ℕ, List, sym, subst}
use Rattle.std.specs.Prelude.{All}
use Rattle.std.proofs.lemmas.List.Elements.{All-push}
use Rattle.read_ahead.specs.Ahead.{IsAhead, IsFoundOf, IsLineAt}
use Rattle.read_ahead.specs.declared.ahead.Ahead.{Ahead}
use Rattle.read_ahead.proofs.Cut.{line_at, own_line}
use Rattle.read_ahead.proofs.reading.read_next.Goals as goal

pub returns-then-read-clause-ahead : goal.returns-then-read-clause-ahead
returns-then-read-clause-ahead c = λ before.
    let names = c.args.catalog.now in
    let bytes = c.args.bytes.now in
    let line : List ℕ = c.in_ok-line.line.now in
    let P : Ahead → Type 0 = IsAhead names bytes in
    let read = c.if-read.ensures.read in
    let next : Ahead = record { from = c.args.at; count = c.in_ok-line.count; found = read.found } in
    let at : IsLineAt bytes c.args.at c.in_ok-line.count line = line_at bytes line c.args.at c.in_ok-line.count c.requires c.in_ok-line.ensures.line
    c.in_ok-line.ensures.within.0 c.in_ok-line.ensures.within.1 in
    let own = own_line bytes c.args.at c.in_ok-line.count line at in
    subst (λ (lines : List Ahead). All P lines) (sym read.added) (All-push P c.args.piece.now next before (record {
      at = subst (λ (l : List ℕ). IsLineAt bytes c.args.at c.in_ok-line.count l) own at;
      found = subst (λ (l : List ℕ). IsFoundOf names l read.found) own read.reads;
    }))
