use Rattle.std.proofs.Common.{◌≡◌, ◌+◌, ◌++◌, ◌∷◌, inl, inr, ℕ, suc, length, ap, arith, ◌∙◌, subst}
use Rattle.workers.specs.Placing.{dealt}
use Rattle.workers.proofs.Dealing.{given_all, given_elsewhere, given_here, none_left}
use Rattle.workers.proofs.placing.deal.Goals as goal

pub loop-number-preserved : goal.loop-number-preserved
loop-number-preserved g c =
    let invariant = c.loop-number.invariant in
    let number = c.loop-number.number in
    let rest = c.pop_front.new.self.items in
    let workers = c.args.workers in
    let popped : c.loop-number.rest.items ≡ c.in-Some.placer ∷ rest = c.in-Some.ensures.items in
    let one : suc number ≡ number + 1 = omega arith in
    record {
      len = c.give.ensures.len ∙ invariant.len;
      left = omega (arith, invariant.left, ap length popped);
      dealt = λ worker hand is.
          let given = c.in_ok-give.ensures.given worker hand is in
          let all = dealt worker workers 0 c.args.placers.items in
          let before : given.0.items ++ dealt worker workers number (c.in-Some.placer ∷ rest) ≡ all = rw popped at (invariant.dealt worker given.0 given.1) in
          subst (λ (n : ℕ). hand.items ++ dealt worker workers n rest ≡ all) one
          (elim given.2 [
            | inl here ↦ given_here worker workers number given.0.items hand.items c.in-Some.placer rest all here.0 here.1 before
            | inr there ↦ given_elsewhere worker workers number given.0.items hand.items c.in-Some.placer rest all there.0 there.1 before
          ]);
    }

pub returns-clause-dealt : goal.returns-clause-dealt
returns-clause-dealt g c = λ worker hand is.
    given_all worker c.args.workers c.loop-number.number hand.items c.loop-number.rest.items
    (dealt worker c.args.workers 0 c.args.placers.items) (none_left c.loop-number.rest.items (omega (arith, c.loop-number.invariant.left, c.from_vec-rest.result.ok.0, ap length c.from_vec-rest.ensures.items, c.loop-number-test.false, c.len-number-end.ensures))) (c.loop-number.invariant.dealt worker hand is)
