use Rattle.std.proofs.Common.{ℕ, ap, refl, ◌∙◌, rules}
use Rattle.std.specs.Prelude.{◌==◌}
use Rattle.line_io.specs.Ahead.{found_line}
use Rattle.bohm_base.proofs.LinesRead.{collect_start, collect_step, collect_end}
use Rattle.bohm_base.proofs.collecting.collect_all.Goals as goal

pub lines-init : goal.lines-init
lines-init g c = record {
  collected = rw (c.requires.log, c.requires.lines) (collect_start _ _ c.requires.ahead);
  bounded = search rules;
  read_errors = refl;
}

pub lines-preserved : goal.lines-preserved
lines-preserved g c =
    let given = rw c.if-branch.true at c.in_ok-next_line.ensures.given in
    record {
      collected = collect_step _ _ _ _ _ _ _ (found_line c.next_line.new.self) _ _ c.lines.invariant.collected
          (rw c.if-branch.true at c.in_ok-next_line.ensures.line) (c.is_empty-is_first.ensures ∙ ap (λ (count : ℕ). count == 0) c.lines.collected.lines.ok.0) (rw c.line.ensures at c.in_ok-line.ensures.line) c.in_ok-push.ensures.items;
      bounded = λ _. given.1;
      read_errors = c.in_ok-next_line.ensures.other (λ e. cc) ∙ c.lines.invariant.read_errors;
    }

pub returns-clause-whole : goal.returns-clause-whole
returns-clause-whole g c = collect_end _ _ _ _ c.lines.invariant.collected (rw c.if-branch.false at c.in_ok-next_line.ensures.line)
