use Rattle.std.proofs.Common.{◌≡◌, ◌+◌, List, [], Err, Ok, arith, drop, length, subst, sym}
use Rattle.std.specs.List.{flat_map}
use Rattle.std.proofs.Math.ListN.{drop_of_length-le}
use Rattle.model_base.specs.declared.statement.Access.{Access}
use Rattle.model_base.specs.Outcomes.{needs_of_access}
use Rattle.explain.specs.Indexed.{IsItemAt}
use Rattle.explain.proofs.Indexing.{at_behind, at_here, from_read}
use Rattle.explain.proofs.needs.need_of_accesses.Goals as goal

pub returns-in-Ok : goal.returns-in-Ok
returns-in-Ok c =
    let i = c.loop-access.access-index in
    let access = c.access-item.result in
    let split = from_read c.args.accesses.now i access c.loop-access-test.true c.access-item.is in
    c.loop-access.invariant (Ok c.in-Ok.need)
    (subst (λ (all : List Access). IsItemAt (flat_map needs_of_access all) c.loop-access.left (Ok c.in-Ok.need)) (sym split)
    (at_here (needs_of_access access) (flat_map needs_of_access (drop (i + 1) c.args.accesses.now)) c.loop-access.left c.in-Ok.need c.in-Ok.ensures))

pub loop-access-preserved : goal.loop-access-preserved
loop-access-preserved c = λ result is.
    let i = c.loop-access.access-index in
    let access = c.access-item.result in
    let split = from_read c.args.accesses.now i access c.loop-access-test.true c.access-item.is in
    c.loop-access.invariant result
    (subst (λ (all : List Access). IsItemAt (flat_map needs_of_access all) c.loop-access.left result) (sym split)
    (at_behind (needs_of_access access) (flat_map needs_of_access (drop (i + 1) c.args.accesses.now)) c.loop-access.left c.in-Err.later result c.in-Err.ensures is))

pub returns : goal.returns
returns c =
    let end : drop c.loop-access.access-index c.args.accesses.now ≡ [] = drop_of_length-le c.args.accesses.now (omega (arith, c.loop-access-test.false)) in
    let left = c.loop-access.left in
    let none : left ≡ 0 + left = omega arith in
    c.loop-access.invariant (Err left) (subst (λ (all : List Access). left ≡ length (flat_map needs_of_access all) + left) (sym end) none)
