use Rattle.std.proofs.Common.{arith, sym}
use Rattle.grants.specs.Work.{slots_of}
use Rattle.grants.proofs.Asking.{kept_by_first}
use Rattle.grants.proofs.Worklist.{keeps_none}
use Rattle.grants.proofs.cascade.keeps.Goals as goal

pub returns-then-below-start-clause-value : goal.returns-then-below-start-clause-value
returns-then-below-start-clause-value g c =
    let view = g.V.Records.shown c.args.view.now in
    let passed =
    c.passed_by-start.ensures c.args.revocation.now view (slots_of c.args.ended.now.ends) c.requires.passed in
    sym (keeps_none c.args.revocation.now view (slots_of c.args.ended.now.ends) c.args.below c.args.holder.now.user c.args.holder.now.kind
    (λ k less. passed k (omega (arith, less, c.if-below-start.true))))

pub first_bearer-first-requires-clause-passed : goal.first_bearer-first-requires-clause-passed
first_bearer-first-requires-clause-passed g c =
    let view = g.V.Records.shown c.args.view.now in
    c.passed_by-start.ensures c.args.revocation.now view (slots_of c.args.ended.now.ends) c.requires.passed

pub returns-clause-value : goal.returns-clause-value
returns-clause-value g c =
    kept_by_first c.args.revocation.now (g.V.Records.shown c.args.view.now) (slots_of c.args.ended.now.ends) c.args.holder.now.user c.first_bearer-first.result c.args.below c.args.holder.now.kind
    c.first_bearer-first.ensures.passed c.first_bearer-first.ensures.found
