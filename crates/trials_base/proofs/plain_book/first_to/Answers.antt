use Rattle.std.proofs.Common.{◌≤◌, ◌<◌, length, sym, ◌∙◌, ap, arith}
use Rattle.model_base.specs.declared.deed.Record.{Record}
use Rattle.grants_base.specs.Index.{is_to}
use Rattle.grants_base.proofs.Walks.{passes_record, walked_all, walked_one}
use Rattle.trials_base.proofs.plain_book.first_to.Goals as goal

pub returns-then-is_to : goal.returns-then-is_to
returns-then-is_to c =
    let within : c.loop-i.i < length c.args.records.now = omega (arith, c.loop-i-test.true) in
    (omega (arith, c.loop-i.auto.i), passes_record (is_to c.args.holder.now.grantee c.args.holder.now.kind c.args.holder.now.table) c.args.records.now c.loop-i.i c.index-records-i.result within c.index-records-i.is ∙ ap (λ (e : Record). is_to c.args.holder.now.grantee c.args.holder.now.kind c.args.holder.now.table e.grant) c.index-records-i.is ∙ sym c.is_to.ensures ∙ c.if-is_to.true, c.loop-i.invariant)

pub loop-i-preserved : goal.loop-i-preserved
loop-i-preserved c =
    let within : c.loop-i.i < length c.args.records.now = omega (arith, c.loop-i-test.true) in
    walked_one (is_to c.args.holder.now.grantee c.args.holder.now.kind c.args.holder.now.table) c.args.records.now c.args.from c.loop-i.i c.index-records-i.result within c.index-records-i.is (ap (λ (e : Record). is_to c.args.holder.now.grantee c.args.holder.now.kind c.args.holder.now.table e.grant) c.index-records-i.is ∙ sym c.is_to.ensures ∙ c.if-is_to.false) c.loop-i.invariant

pub returns : goal.returns
returns c =
    let over : length c.args.records.now ≤ c.loop-i.i = omega (arith, c.loop-i-test.false) in
    walked_all (is_to c.args.holder.now.grantee c.args.holder.now.kind c.args.holder.now.table) c.args.records.now c.args.from c.loop-i.i over c.loop-i.invariant
