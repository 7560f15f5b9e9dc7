use Rattle.std.proofs.Common.{◌≤◌, ◌<◌, length, sym, ◌∙◌, ap, arith}
use Rattle.model_base.specs.declared.deed.Record.{Record}
use Rattle.grants_base.specs.Index.{is_by}
use Rattle.grants_base.proofs.Walks.{passes_record, walked_all, walked_one}
use Rattle.trials_base.proofs.plain_book.first_by.Goals as goal

pub returns-then-is_by : goal.returns-then-is_by
returns-then-is_by c =
    let within : c.loop-i.i < length c.args.records.now = omega (arith, c.loop-i-test.true) in
    (omega (arith, c.loop-i.auto.i), passes_record (is_by c.args.user c.args.kind c.args.table) c.args.records.now c.loop-i.i c.index-records-i.result within c.index-records-i.is ∙ ap (λ (e : Record). is_by c.args.user c.args.kind c.args.table e.grant) c.index-records-i.is ∙ sym c.is_by.ensures ∙ c.if-is_by.true, c.loop-i.invariant)

pub loop-i-preserved : goal.loop-i-preserved
loop-i-preserved c =
    let within : c.loop-i.i < length c.args.records.now = omega (arith, c.loop-i-test.true) in
    walked_one (is_by c.args.user c.args.kind c.args.table) c.args.records.now c.args.from c.loop-i.i c.index-records-i.result within c.index-records-i.is (ap (λ (e : Record). is_by c.args.user c.args.kind c.args.table e.grant) c.index-records-i.is ∙ sym c.is_by.ensures ∙ c.if-is_by.false) c.loop-i.invariant

pub returns : goal.returns
returns c =
    let over : length c.args.records.now ≤ c.loop-i.i = omega (arith, c.loop-i-test.false) in
    walked_all (is_by c.args.user c.args.kind c.args.table) c.args.records.now c.args.from c.loop-i.i over c.loop-i.invariant
