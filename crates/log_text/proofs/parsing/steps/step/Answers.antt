use Rattle.std.proofs.Common.{◌+◌, refl, arith}
use Rattle.line_words.specs.StepWords.{step_word}
use Rattle.line_words.specs.declared.step_name.StepName.TheVariants.{Const, Compute, Has, Load, Store, Insert, Delete, Check, Skip, Out}
use Rattle.log_text.proofs.TakenSteps.{takes, fits, fails_so, leads, few_outs, names}
use Rattle.log_text.proofs.parsing.steps.step.Goals as goal

pub returns-in-Const-clause-ok : goal.returns-in-Const-clause-ok
returns-in-Const-clause-ok c =
    let named = names c.args.name Const c.args.steps c.args.outs c.in-Const.is c.requires.fits in
    takes Const c.constant.new.step (step_word c.args.name) c.args.words.now c.constant.new.words c.args.steps c.args.outs c.constant.result named (λ o. o) c.requires.few
    (leads 0 c.args.outs c.args.outs Const c.constant.new.step c.args.words.now c.constant.new.words c.constant.result (omega arith) c.constant.ensures.ok)

pub returns-in-Const-clause-fits : goal.returns-in-Const-clause-fits
returns-in-Const-clause-fits c =
    let named = names c.args.name Const c.args.steps c.args.outs c.in-Const.is c.requires.fits in
    fits Const c.constant.new.step (step_word c.args.name) c.args.words.now c.constant.new.words c.args.steps c.args.outs c.constant.result named (λ o. o)
    (leads 0 c.args.outs c.args.outs Const c.constant.new.step c.args.words.now c.constant.new.words c.constant.result (omega arith) c.constant.ensures.ok) c.constant.ensures.fits

pub returns-in-Const-clause-fault : goal.returns-in-Const-clause-fault
returns-in-Const-clause-fault c =
    let named = names c.args.name Const c.args.steps c.args.outs c.in-Const.is c.requires.fits in
    fails_so Const c.constant.new.step (step_word c.args.name) c.args.words.now c.constant.new.words c.args.steps c.args.outs c.constant.result named c.constant.ensures.fault

pub returns-in-Compute-clause-ok : goal.returns-in-Compute-clause-ok
returns-in-Compute-clause-ok c =
    let named = names c.args.name (Compute c.in-Compute.operation) c.args.steps c.args.outs c.in-Compute.is c.requires.fits in
    takes (Compute c.in-Compute.operation) c.compute.new.step (step_word c.args.name) c.args.words.now c.compute.new.words c.args.steps c.args.outs c.compute.result named (λ o. o) c.requires.few
    (leads 0 c.args.outs c.args.outs (Compute c.in-Compute.operation) c.compute.new.step c.args.words.now c.compute.new.words c.compute.result (omega arith) c.compute.ensures.ok)

pub returns-in-Compute-clause-fits : goal.returns-in-Compute-clause-fits
returns-in-Compute-clause-fits c =
    let named = names c.args.name (Compute c.in-Compute.operation) c.args.steps c.args.outs c.in-Compute.is c.requires.fits in
    fits (Compute c.in-Compute.operation) c.compute.new.step (step_word c.args.name) c.args.words.now c.compute.new.words c.args.steps c.args.outs c.compute.result named (λ o. o)
    (leads 0 c.args.outs c.args.outs (Compute c.in-Compute.operation) c.compute.new.step c.args.words.now c.compute.new.words c.compute.result (omega arith) c.compute.ensures.ok) c.compute.ensures.fits

pub returns-in-Compute-clause-fault : goal.returns-in-Compute-clause-fault
returns-in-Compute-clause-fault c =
    let named = names c.args.name (Compute c.in-Compute.operation) c.args.steps c.args.outs c.in-Compute.is c.requires.fits in
    fails_so (Compute c.in-Compute.operation) c.compute.new.step (step_word c.args.name) c.args.words.now c.compute.new.words c.args.steps c.args.outs c.compute.result named c.compute.ensures.fault

pub returns-in-Has-clause-ok : goal.returns-in-Has-clause-ok
returns-in-Has-clause-ok c =
    let named = names c.args.name Has c.args.steps c.args.outs c.in-Has.is c.requires.fits in
    takes Has c.has.new.step (step_word c.args.name) c.args.words.now c.has.new.words c.args.steps c.args.outs c.has.result named (λ o. o) c.requires.few
    (leads 0 c.args.outs c.args.outs Has c.has.new.step c.args.words.now c.has.new.words c.has.result (omega arith) c.has.ensures.ok)

pub returns-in-Has-clause-fits : goal.returns-in-Has-clause-fits
returns-in-Has-clause-fits c =
    let named = names c.args.name Has c.args.steps c.args.outs c.in-Has.is c.requires.fits in
    fits Has c.has.new.step (step_word c.args.name) c.args.words.now c.has.new.words c.args.steps c.args.outs c.has.result named (λ o. o)
    (leads 0 c.args.outs c.args.outs Has c.has.new.step c.args.words.now c.has.new.words c.has.result (omega arith) c.has.ensures.ok) c.has.ensures.fits

pub returns-in-Has-clause-fault : goal.returns-in-Has-clause-fault
returns-in-Has-clause-fault c =
    let named = names c.args.name Has c.args.steps c.args.outs c.in-Has.is c.requires.fits in
    fails_so Has c.has.new.step (step_word c.args.name) c.args.words.now c.has.new.words c.args.steps c.args.outs c.has.result named c.has.ensures.fault

pub returns-in-Load-clause-ok : goal.returns-in-Load-clause-ok
returns-in-Load-clause-ok c =
    let named = names c.args.name Load c.args.steps c.args.outs c.in-Load.is c.requires.fits in
    takes Load c.load.new.step (step_word c.args.name) c.args.words.now c.load.new.words c.args.steps c.args.outs c.load.result named (λ o. o) c.requires.few
    (leads 0 c.args.outs c.args.outs Load c.load.new.step c.args.words.now c.load.new.words c.load.result (omega arith) c.load.ensures.ok)

pub returns-in-Load-clause-fits : goal.returns-in-Load-clause-fits
returns-in-Load-clause-fits c =
    let named = names c.args.name Load c.args.steps c.args.outs c.in-Load.is c.requires.fits in
    fits Load c.load.new.step (step_word c.args.name) c.args.words.now c.load.new.words c.args.steps c.args.outs c.load.result named (λ o. o)
    (leads 0 c.args.outs c.args.outs Load c.load.new.step c.args.words.now c.load.new.words c.load.result (omega arith) c.load.ensures.ok) c.load.ensures.fits

pub returns-in-Load-clause-fault : goal.returns-in-Load-clause-fault
returns-in-Load-clause-fault c =
    let named = names c.args.name Load c.args.steps c.args.outs c.in-Load.is c.requires.fits in
    fails_so Load c.load.new.step (step_word c.args.name) c.args.words.now c.load.new.words c.args.steps c.args.outs c.load.result named c.load.ensures.fault

pub returns-in-Store-clause-ok : goal.returns-in-Store-clause-ok
returns-in-Store-clause-ok c =
    let named = names c.args.name Store c.args.steps c.args.outs c.in-Store.is c.requires.fits in
    takes Store c.store.new.step (step_word c.args.name) c.args.words.now c.store.new.words c.args.steps c.args.outs c.store.result named (λ o. o) c.requires.few
    (leads 0 c.args.outs c.args.outs Store c.store.new.step c.args.words.now c.store.new.words c.store.result (omega arith) c.store.ensures.ok)

pub returns-in-Store-clause-fits : goal.returns-in-Store-clause-fits
returns-in-Store-clause-fits c =
    let named = names c.args.name Store c.args.steps c.args.outs c.in-Store.is c.requires.fits in
    fits Store c.store.new.step (step_word c.args.name) c.args.words.now c.store.new.words c.args.steps c.args.outs c.store.result named (λ o. o)
    (leads 0 c.args.outs c.args.outs Store c.store.new.step c.args.words.now c.store.new.words c.store.result (omega arith) c.store.ensures.ok) c.store.ensures.fits

pub returns-in-Store-clause-fault : goal.returns-in-Store-clause-fault
returns-in-Store-clause-fault c =
    let named = names c.args.name Store c.args.steps c.args.outs c.in-Store.is c.requires.fits in
    fails_so Store c.store.new.step (step_word c.args.name) c.args.words.now c.store.new.words c.args.steps c.args.outs c.store.result named c.store.ensures.fault

pub returns-in-Insert-clause-ok : goal.returns-in-Insert-clause-ok
returns-in-Insert-clause-ok c =
    let named = names c.args.name Insert c.args.steps c.args.outs c.in-Insert.is c.requires.fits in
    takes Insert c.insert.new.step (step_word c.args.name) c.args.words.now c.insert.new.words c.args.steps c.args.outs c.insert.result named (λ o. o) c.requires.few
    (leads 0 c.args.outs c.args.outs Insert c.insert.new.step c.args.words.now c.insert.new.words c.insert.result (omega arith) c.insert.ensures.ok)

pub returns-in-Insert-clause-fits : goal.returns-in-Insert-clause-fits
returns-in-Insert-clause-fits c =
    let named = names c.args.name Insert c.args.steps c.args.outs c.in-Insert.is c.requires.fits in
    fits Insert c.insert.new.step (step_word c.args.name) c.args.words.now c.insert.new.words c.args.steps c.args.outs c.insert.result named (λ o. o)
    (leads 0 c.args.outs c.args.outs Insert c.insert.new.step c.args.words.now c.insert.new.words c.insert.result (omega arith) c.insert.ensures.ok) c.insert.ensures.fits

pub returns-in-Insert-clause-fault : goal.returns-in-Insert-clause-fault
returns-in-Insert-clause-fault c =
    let named = names c.args.name Insert c.args.steps c.args.outs c.in-Insert.is c.requires.fits in
    fails_so Insert c.insert.new.step (step_word c.args.name) c.args.words.now c.insert.new.words c.args.steps c.args.outs c.insert.result named c.insert.ensures.fault

pub returns-in-Delete-clause-ok : goal.returns-in-Delete-clause-ok
returns-in-Delete-clause-ok c =
    let named = names c.args.name Delete c.args.steps c.args.outs c.in-Delete.is c.requires.fits in
    takes Delete c.delete.new.step (step_word c.args.name) c.args.words.now c.delete.new.words c.args.steps c.args.outs c.delete.result named (λ o. o) c.requires.few
    (leads 0 c.args.outs c.args.outs Delete c.delete.new.step c.args.words.now c.delete.new.words c.delete.result (omega arith) c.delete.ensures.ok)

pub returns-in-Delete-clause-fits : goal.returns-in-Delete-clause-fits
returns-in-Delete-clause-fits c =
    let named = names c.args.name Delete c.args.steps c.args.outs c.in-Delete.is c.requires.fits in
    fits Delete c.delete.new.step (step_word c.args.name) c.args.words.now c.delete.new.words c.args.steps c.args.outs c.delete.result named (λ o. o)
    (leads 0 c.args.outs c.args.outs Delete c.delete.new.step c.args.words.now c.delete.new.words c.delete.result (omega arith) c.delete.ensures.ok) c.delete.ensures.fits

pub returns-in-Delete-clause-fault : goal.returns-in-Delete-clause-fault
returns-in-Delete-clause-fault c =
    let named = names c.args.name Delete c.args.steps c.args.outs c.in-Delete.is c.requires.fits in
    fails_so Delete c.delete.new.step (step_word c.args.name) c.args.words.now c.delete.new.words c.args.steps c.args.outs c.delete.result named c.delete.ensures.fault

pub returns-in-Check-clause-ok : goal.returns-in-Check-clause-ok
returns-in-Check-clause-ok c =
    let named = names c.args.name Check c.args.steps c.args.outs c.in-Check.is c.requires.fits in
    takes Check c.check.new.step (step_word c.args.name) c.args.words.now c.check.new.words c.args.steps c.args.outs c.check.result named (λ o. o) c.requires.few
    (leads 0 c.args.outs c.args.outs Check c.check.new.step c.args.words.now c.check.new.words c.check.result (omega arith) c.check.ensures.ok)

pub returns-in-Check-clause-fits : goal.returns-in-Check-clause-fits
returns-in-Check-clause-fits c =
    let named = names c.args.name Check c.args.steps c.args.outs c.in-Check.is c.requires.fits in
    fits Check c.check.new.step (step_word c.args.name) c.args.words.now c.check.new.words c.args.steps c.args.outs c.check.result named (λ o. o)
    (leads 0 c.args.outs c.args.outs Check c.check.new.step c.args.words.now c.check.new.words c.check.result (omega arith) c.check.ensures.ok) c.check.ensures.fits

pub returns-in-Check-clause-fault : goal.returns-in-Check-clause-fault
returns-in-Check-clause-fault c =
    let named = names c.args.name Check c.args.steps c.args.outs c.in-Check.is c.requires.fits in
    fails_so Check c.check.new.step (step_word c.args.name) c.args.words.now c.check.new.words c.args.steps c.args.outs c.check.result named c.check.ensures.fault

pub returns-in-Skip-clause-ok : goal.returns-in-Skip-clause-ok
returns-in-Skip-clause-ok c =
    let named = names c.args.name Skip c.args.steps c.args.outs c.in-Skip.is c.requires.fits in
    takes Skip c.skip.new.step (step_word c.args.name) c.args.words.now c.skip.new.words c.args.steps c.args.outs c.skip.result named (λ o. o) c.requires.few
    (leads 0 c.args.outs c.args.outs Skip c.skip.new.step c.args.words.now c.skip.new.words c.skip.result (omega arith) c.skip.ensures.ok)

pub returns-in-Skip-clause-fits : goal.returns-in-Skip-clause-fits
returns-in-Skip-clause-fits c =
    let named = names c.args.name Skip c.args.steps c.args.outs c.in-Skip.is c.requires.fits in
    fits Skip c.skip.new.step (step_word c.args.name) c.args.words.now c.skip.new.words c.args.steps c.args.outs c.skip.result named (λ o. o)
    (leads 0 c.args.outs c.args.outs Skip c.skip.new.step c.args.words.now c.skip.new.words c.skip.result (omega arith) c.skip.ensures.ok) c.skip.ensures.fits

pub returns-in-Skip-clause-fault : goal.returns-in-Skip-clause-fault
returns-in-Skip-clause-fault c =
    let named = names c.args.name Skip c.args.steps c.args.outs c.in-Skip.is c.requires.fits in
    fails_so Skip c.skip.new.step (step_word c.args.name) c.args.words.now c.skip.new.words c.args.steps c.args.outs c.skip.result named c.skip.ensures.fault

pub returns-in-Out-clause-ok : goal.returns-in-Out-clause-ok
returns-in-Out-clause-ok c =
    let named = names c.args.name Out c.args.steps c.args.outs c.in-Out.is c.requires.fits in
    takes Out c.out.new.step (step_word c.args.name) c.args.words.now c.out.new.words c.args.steps c.args.outs c.out.result named (λ o. o + 1) (few_outs c.args.steps c.args.outs named.2)
    (leads 1 c.args.outs (c.args.outs + 1) Out c.out.new.step c.args.words.now c.out.new.words c.out.result refl c.out.ensures.ok)

pub returns-in-Out-clause-fits : goal.returns-in-Out-clause-fits
returns-in-Out-clause-fits c =
    let named = names c.args.name Out c.args.steps c.args.outs c.in-Out.is c.requires.fits in
    fits Out c.out.new.step (step_word c.args.name) c.args.words.now c.out.new.words c.args.steps c.args.outs c.out.result named (λ o. o + 1)
    (leads 1 c.args.outs (c.args.outs + 1) Out c.out.new.step c.args.words.now c.out.new.words c.out.result refl c.out.ensures.ok) c.out.ensures.fits

pub returns-in-Out-clause-fault : goal.returns-in-Out-clause-fault
returns-in-Out-clause-fault c =
    let named = names c.args.name Out c.args.steps c.args.outs c.in-Out.is c.requires.fits in
    fails_so Out c.out.new.step (step_word c.args.name) c.args.words.now c.out.new.words c.args.steps c.args.outs c.out.result named c.out.ensures.fault
