use Rattle.std.proofs.Common.{ap, sym, ◌∙◌, arith}
use Rattle.std.specs.Prelude.{bytes_eq}
use Rattle.std.specs.List.{list_any}
use Rattle.line_words.specs.Words.{comma_pieces}
use Rattle.log_text.proofs.TakenPieces.{found_first, none_more, taken_all, taken_more}
use Rattle.log_text.proofs.parsing.granting.is_among.Goals as goal

pub returns-in_default : goal.returns-in_default
returns-in_default c =
    let i = c.earlier.invariant in
    let all = comma_pieces c.args.word.now in
    let none = sym i.same ∙ c.in_default.ensures.0 in
    sym (ap (list_any (bytes_eq c.args.piece.now)) (taken_all all c.earlier.index c.args.count none i.low) ∙ i.none)

pub returns-then-eq : goal.returns-then-eq
returns-then-eq c =
    let i = c.earlier.invariant in
    let all = comma_pieces c.args.word.now in
    sym (found_first (bytes_eq c.args.piece.now) all c.earlier.index c.args.count c.in-Some.earlier.now c.next.new.self (sym i.same ∙ c.in-Some.ensures) (omega arith) (sym c.eq.ensures ∙ c.if-eq.true))

pub earlier-preserved : goal.earlier-preserved
earlier-preserved c =
    let i = c.earlier.invariant in
    let all = comma_pieces c.args.word.now in
    let more = taken_more all c.earlier.index c.in-Some.earlier.now c.next.new.self (sym i.same ∙ c.in-Some.ensures) in
    record {
      same = more.0;
      none = none_more (bytes_eq c.args.piece.now) _ _ c.in-Some.earlier.now i.none (sym c.eq.ensures ∙ c.if-eq.false) more.1;
      low = omega arith;
    }
