use Rattle.std.proofs.Common.{◌≡◌, ◌≤◌, ◌+◌, drop, length}
use Rattle.std.specs.List.{sum_by}
use Rattle.model_base.specs.Rows.{Rows}
use Rattle.model_base.specs.Body.{run_steps}
use Rattle.body.specs.Premises.{outputs_of_step}
use Rattle.body.specs.Work.{seen}
use Rattle.body.proofs.steps.run_steps.Given as goal

abbrev pub invariant-loop-number : goal.invariant-loop-number
invariant-loop-number l = record {
  meaning : (rows : Rows) → run_steps l.accesses (drop l.number l.steps) l.number l.passed (seen l.accesses rows l.window l.registers) ≡ run_steps l.accesses l.steps 0 0 (seen l.accesses rows l.initial.window l.initial.registers);
  room : length l.window.outputs + sum_by outputs_of_step (drop l.number l.steps) ≤ 8;
}
