use Rattle.std.proofs.Common.{◌<◌, ℕ, List, length, ap, sym, subst, arith}
use Rattle.std.proofs.lemmas.Result.{err_from_is_err_and}
use Rattle.bohm_core_base.specs.Machine.{State as Contents}
use Rattle.bohm_core.specs.Storage.{lists_of}
use Rattle.bohm_core.proofs.Vectors.{lists-kept, lists-pushed}
use Rattle.bohm_core.proofs.state.State.push_word.Goals as goal

pub returns-in_err-push-clause-err : goal.returns-in_err-push-clause-err
returns-in_err-push-clause-err c =
    let refused = err_from_is_err_and c.from_residual.result c.from_residual.ensures.1 in
    let is = c.self.view_is in
    let s = c.self.inside in
    let listed : c.args.index < length s.holds.items =
    subst (λ (contents : Contents). c.args.index < length contents.holds) (sym is) c.requires in
    let one_each = c.self.invariant in
    let within : c.args.index < length s.own.items = omega arith in
    rw (refused.1, ← is)
    (ap (λ (own : List (List ℕ)). let contents : Contents = record { fronts = s.fronts.items; references = lists_of s.references.items; holds = s.holds.items; own = own; ends = s.ends.items } in contents)
    (lists-kept s.own.items c.args.index c.push.new.self c.index_mut-words.result.now within c.index_mut-words.ensures.value c.in_err-push.ensures.items))

pub returns-clause-ok : goal.returns-clause-ok
returns-clause-ok c =
    let is = c.self.view_is in
    let s = c.self.inside in
    let listed : c.args.index < length s.holds.items =
    subst (λ (contents : Contents). c.args.index < length contents.holds) (sym is) c.requires in
    let one_each = c.self.invariant in
    let within : c.args.index < length s.own.items = omega arith in
    rw (← is)
    (ap (λ (own : List (List ℕ)). let contents : Contents = record { fronts = s.fronts.items; references = lists_of s.references.items; holds = s.holds.items; own = own; ends = s.ends.items } in contents)
    (lists-pushed s.own.items c.args.index c.push.new.self c.index_mut-words.result.now c.args.word within c.index_mut-words.ensures.value c.in_ok-push.ensures.items))
