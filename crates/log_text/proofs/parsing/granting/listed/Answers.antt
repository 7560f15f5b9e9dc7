use Rattle.std.proofs.Common.{◌+◌, take, ap, sym, ◌∙◌, arith}
use Rattle.line_words.specs.Words.{comma_pieces}
use Rattle.log_text.specs.Fault.{grantees_fault}
use Rattle.log_text.proofs.GranteeLists.{in_word}
use Rattle.log_text.proofs.TakenPieces.{fits_more, taken_more}
use Rattle.log_text.proofs.parsing.granting.listed.Goals as goal

pub pieces-preserved : goal.pieces-preserved
pieces-preserved c =
    let i = c.pieces.invariant in
    let all = comma_pieces c.args.word.now in
    let earlier = take c.pieces.count all in
    let more = taken_more all c.pieces.count c.in-Some.piece.now c.next.new.self (sym i.same ∙ c.in-Some.ensures) in
    record {
      same = more.0;
      low = omega (arith, more.2);
      fits = i.fits ∙ ap (grantees_fault earlier) c.in-Some.ensures
          ∙ fits_more earlier (take (c.pieces.count + 1) all) c.next.new.self c.in-Some.piece.now c.in_ok-judge.ensures.fits more.1;
    }

pub of-requires : goal.of-requires
of-requires c =
    let i = c.pieces.invariant in
    let all = comma_pieces c.args.word.now in
    in_word c.args.word.now (i.fits ∙ ap (grantees_fault (take c.pieces.count all)) c.in_default.ensures.0)
