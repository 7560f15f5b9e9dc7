use Rattle.std.proofs.Common.{sym, ◌∙◌, arith}
use Rattle.grants_base.specs.Force.{gives_by}
use Rattle.grants_base.specs.Index.{is_to, passes_at}
use Rattle.log_batch.specs.Earlier.{earlier_grants}
use Rattle.log_batch.specs.Supplied.{batch_of}
use Rattle.log_batch.proofs.NoneBetween.{one-found, one-passed}
use Rattle.log_batch.proofs.Between.{between-here, between-none}
use Rattle.log_batch.proofs.Reaching.{found-earlier}
use Rattle.log_batch.proofs.reach.next_between.Goals as goal

pub grant-requires : goal.grant-requires
grant-requires c =
    let next = c.in-Some.ensures in
    let less = found-earlier (batch_of c.args.batch.now) (is_to c.args.holder.now.grantee c.args.holder.now.kind c.args.holder.now.table) c.in-Some.slot next.1 in
    omega (arith, less, c.earlier_count-count.ensures.value, c.earlier_count-count.ensures.within)

pub overflow_add-from : goal.overflow_add-from
overflow_add-from c =
    let next = c.in-Some.ensures in
    let less = found-earlier (batch_of c.args.batch.now) (is_to c.args.holder.now.grantee c.args.holder.now.kind c.args.holder.now.table) c.in-Some.slot next.1 in
    omega (arith, less, c.earlier_count-count.ensures.value, c.earlier_count-count.type_inv)

pub loop-slot-smaller : goal.loop-slot-smaller
loop-slot-smaller c =
    let next = c.in-Some.ensures in
    let low = next.0 in
    let less = found-earlier (batch_of c.args.batch.now) (is_to c.args.holder.now.grantee c.args.holder.now.kind c.args.holder.now.table) c.in-Some.slot next.1 in
    omega (arith, low, less)

pub loop-slot-preserved : goal.loop-slot-preserved
loop-slot-preserved c =
    let b = batch_of c.args.batch.now in
    let next = c.in-Some.ensures in
    let low = next.0 in
    let slot = c.in-Some.slot in
    let from = c.loop-slot.from in
    let test = passes_at (gives_by c.args.user c.args.holder.now.grantee c.args.holder.now.kind c.args.holder.now.table) (earlier_grants b) in
    let none = between-none c.args.user c.args.holder.now.grantee c.args.holder.now.kind c.args.holder.now.table b from slot next in
    let here = between-here c.args.user c.args.holder.now.grantee c.args.holder.now.kind c.args.holder.now.table b from slot next c.grant.result c.grant.ensures in
    record {
      start = omega (arith, low, c.loop-slot.invariant.start);
      passed = one-passed test c.args.start from c.loop-slot.invariant.passed slot none (here ∙ sym c.eq.ensures ∙ c.if-eq.false);
    }

pub returns-then-eq : goal.returns-then-eq
returns-then-eq c =
    let b = batch_of c.args.batch.now in
    let next = c.in-Some.ensures in
    let slot = c.in-Some.slot in
    let from = c.loop-slot.from in
    let test = passes_at (gives_by c.args.user c.args.holder.now.grantee c.args.holder.now.kind c.args.holder.now.table) (earlier_grants b) in
    let none = between-none c.args.user c.args.holder.now.grantee c.args.holder.now.kind c.args.holder.now.table b from slot next in
    let here = between-here c.args.user c.args.holder.now.grantee c.args.holder.now.kind c.args.holder.now.table b from slot next c.grant.result c.grant.ensures in
    one-found test c.args.start from c.loop-slot.invariant.passed slot c.loop-slot.invariant.start next.0 none (here ∙ sym c.eq.ensures ∙ c.if-eq.true)
