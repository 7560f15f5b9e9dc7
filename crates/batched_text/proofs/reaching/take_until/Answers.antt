use Rattle.std.proofs.Common.{◌≡◌, false, ◌∙◌, ap, arith, inl, inr, length, refl}
use Rattle.line_io.specs.Ahead.{found_line}
use Rattle.engine.specs.Engine.{Run, finished}
use Rattle.batched_text.proofs.Fronts.{front_step, one_more}
use Rattle.batched_text.proofs.reaching.take_until.Goals as goal

pub lines-init : goal.lines-init
lines-init g c = record {
  taken = λ input end less so. so;
  none = refl;
  kept = refl;
  most = inl (omega arith);
  store = refl;
  bounded = c.requires;
  read_errors = refl;
}

pub lines-preserved : goal.lines-preserved
lines-preserved g c =
    let given = rw c.if-not-branch.false at c.in_ok-next_line.ensures.given in
    let line = rw c.if-not-branch.false at c.in_ok-next_line.ensures.line in
    let took = c.in_ok-take_quietly.ensures.ok in
    let count : c.len.result ≡ length c.lines.engine.log.statements = c.len.ensures.count ∙ ap length (ap (λ log. log.statements) c.log.ensures.value) in
    record {
      taken = λ input end less so. front_step false input _ _ end _ _ (found_line c.next_line.new.self) (c.lines.invariant.taken input end less so) line
          (omega (arith, less, count, c.lines-test.true)) took.0 (rw c.line.ensures at took.1.0) (ap (λ (run : Run). run.log) took.1.1);
      none = ap (λ (run : Run). finished run) took.1.1 ∙ c.lines.invariant.none;
      kept = ap (λ (run : Run). run.dropped) took.1.1 ∙ c.lines.invariant.kept;
      most = inr (omega (arith, count, c.lines-test.true, ap (λ (run : Run). length run.log.statements) took.1.1, one_more c.lines.engine.log took.0));
      store = ap (λ (run : Run). run.store) took.1.1 ∙ c.lines.invariant.store;
      bounded = λ _. given.1;
      read_errors = c.in_ok-next_line.ensures.other (λ e. cc) ∙ c.lines.invariant.read_errors;
    }
