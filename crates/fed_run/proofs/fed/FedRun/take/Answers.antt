use Rattle.std.proofs.Common.{◌++◌, ◌∷◌, [], Some, arith, length, refl, sym}
use Rattle.line_io.specs.Lines.{first_line}
use Rattle.fed_run.proofs.Feeding.{on_err}
use Rattle.fed_run.proofs.FedTexts.{keeps_same, keeps_stays, stands_all, stands_line, stands_same}
use Rattle.fed_run.proofs.Lines.{short_line}
use Rattle.fed_run.proofs.fed.FedRun.take.Goals as goal

pub take_line-requires : goal.take_line-requires
take_line-requires c =
    let cut = c.in-Some.ensures.line (Some (10 ∷ [])) in
    record { short = short_line c.in-Some.line.now (first_line (c.args.bytes.now ++ 10 ∷ [])) cut.0.0; room = c.requires.room }

pub returns-in_err-keep_more-in-None-clause-err : goal.returns-in_err-keep_more-in-None-clause-err
returns-in_err-keep_more-in-None-clause-err c =
    on_err _ c.from_residual.result (stands_same c.args.self.now _ c.in_err-keep_more-in-None.ensures.err refl (keeps_same _ _ refl) refl)

pub returns-in_ok-keep_more-in-None-clause-stands : goal.returns-in_ok-keep_more-in-None-clause-stands
returns-in_ok-keep_more-in-None-clause-stands c =
    stands_all c.args.self.now _ c.args.bytes.now (length c.args.bytes.now) (omega arith) c.in-None.ensures.line c.in_ok-keep_more-in-None.ensures.ok refl c.requires.open (keeps_same _ _ refl) refl

pub returns-in_err-take_line-in-Some-clause-err : goal.returns-in_err-take_line-in-Some-clause-err
returns-in_err-take_line-in-Some-clause-err c =
    let took = c.in_err-take_line-in-Some.ensures in
    let all = c.take_line.ensures in
    on_err _ c.from_residual-in_err-take_line-in-Some.result
    (stands_same c.args.self.now c.take_line.new.self took.kept all.ended (keeps_stays _ _ took.still) all.unsent)

pub returns-in_ok-take_line-in-Some-clause-stands : goal.returns-in_ok-take_line-in-Some-clause-stands
returns-in_ok-take_line-in-Some-clause-stands c =
    let cut = c.in-Some.ensures.line (Some (10 ∷ [])) in
    let took = c.in_ok-take_line-in-Some.ensures in
    let all = c.take_line.ensures in
    stands_line c.args.self.now c.take_line.new.self took.begun all.ended all.unsent
    c.args.bytes.now c.in-Some.line.now c.in-Some.count c.requires.open c.in-Some.ensures.within.0 c.in-Some.ensures.within.1 (sym cut.0.1) cut.0.0 took.ok
