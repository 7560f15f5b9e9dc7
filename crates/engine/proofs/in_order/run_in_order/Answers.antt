use Rattle.std.proofs.lemmas.List.{length-append}
use Rattle.std.proofs.Common.{◌≡◌, ◌+◌, ◌++◌, ◌∷◌, [], ℕ, List, ap, ◌∙◌, subst, arith, append_assoc, length}
use Rattle.std.specs.List.{flat_map, range_with_len}
use Rattle.model_base.specs.declared.outcome.Outcome.{Outcome}
use Rattle.engine.specs.RunState.{IsRunState}
use Rattle.chains.specs.Store.{versions_at}
use Rattle.chains.proofs.Keyed.{more-behind}
use Rattle.filling.proofs.Ranges.{outcomes_more, versions_more}
use Rattle.engine.proofs.Cutting.{cut_back}
use Rattle.engine.proofs.Running.{adds-more}
use Rattle.engine.proofs.in_order.run_in_order.Goals as goal

pub loop-index-preserved : goal.loop-index-preserved
loop-index-preserved g c =
    let log = c.args.log.now.log.statements in
    let first = c.args.range.start in
    let index = c.loop-index.index in
    let invariant = c.loop-index.invariant in
    let one = c.in-Ok.found in
    let pushed = c.push_reserved.ensures in
    let next : first + index + 1 ≡ first + (index + 1) = omega arith in
    record {
      stands = subst (λ (n : ℕ). IsRunState log n c.run_kept.new.state.chains c.run_kept.new.state.book) next c.in-Ok.ensures.stands;
      versions = λ key.
          more-behind key c.args.state.now.chains.versions c.loop-index.state.chains.versions c.run_kept.new.state.chains.versions
          (flat_map (versions_at log) (range_with_len first index)) (versions_at log (first + index))
          (flat_map (versions_at log) (range_with_len first (index + 1))) (c.in-Ok.ensures.versions key) (invariant.versions key)
          (versions_more log first index);
      adds = adds-more first (first + index) c.args.state.now c.loop-index.state c.run_kept.new.state (omega arith) invariant.adds c.run_kept.ensures.adds;
      came = (
        invariant.came.0 ++ one ∷ [],
        pushed.items ∙ ap (λ (items : List Outcome). items ++ one ∷ []) invariant.came.1 ∙ append_assoc c.reserve.new.self.items invariant.came.0 (one ∷ []),
        outcomes_more log first index invariant.came.0 one invariant.came.2 c.in-Ok.ensures.came,
      );
      room = omega (arith, invariant.room, pushed.capacity, ap length pushed.items, length-append c.loop-index.outcomes.items (one ∷ []), c.loop-index-test.true);
    }

pub returns-in-Err-clause-state : goal.returns-in-Err-clause-state
returns-in-Err-clause-state g c =
    let first = c.args.range.start in
    cut_back c.args.log.now.log.statements first c.args.state.now c.run_kept.new.state c.requires.next.stands c.mark-mark.ensures.whole
    (adds-more first (first + c.loop-index.index) c.args.state.now c.loop-index.state c.run_kept.new.state (omega arith) c.loop-index.invariant.adds c.run_kept.ensures.adds)
    c.cut.new.self c.cut-in-Err.new.self c.cut.ensures c.cut-in-Err.ensures.cut
