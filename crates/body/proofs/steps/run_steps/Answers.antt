use Rattle.std.proofs.Common.{◌≡◌, ◌≤◌, ◌<◌, length, arith, sym, ◌∙◌}
use Rattle.model_base.specs.Body.{aborts, is_undeclared}
use Rattle.body.specs.Work.{seen}
use Rattle.body.proofs.Running.{begins, completes, goes}
use Rattle.body.proofs.steps.run_steps.Goals as goal

pub returns : goal.returns
returns c = λ rows shown.
    let over : length c.args.steps.now ≤ c.loop-number.number = omega arith in
    begins c.args.steps.now c.args.accesses.now c.args.window.now rows shown c.requires.fresh
    ∙ sym (c.loop-number.invariant.meaning rows)
    ∙ completes c.args.accesses.now c.args.steps.now c.loop-number.number c.loop-number.number c.loop-number.passed (seen c.args.accesses.now rows c.loop-number.window c.loop-number.registers) over

pub returns-in-Aborts : goal.returns-in-Aborts
returns-in-Aborts c = λ rows shown.
    let none : c.loop-number.passed ≡ 0 = omega arith in
    let within : c.loop-number.number < length c.args.steps.now = omega arith in
    begins c.args.steps.now c.args.accesses.now c.args.window.now rows shown c.requires.fresh
    ∙ sym (c.loop-number.invariant.meaning rows)
    ∙ goes c.args.accesses.now c.args.steps.now c.loop-number.number c.loop-number.passed (seen c.args.accesses.now rows c.loop-number.window c.loop-number.registers) c.index-steps-number.result (aborts c.in-Aborts.reason) within c.index-steps-number.is none (c.in-Aborts.ensures.effect rows)

pub returns-in-Undeclared : goal.returns-in-Undeclared
returns-in-Undeclared c = λ rows shown.
    let none : c.loop-number.passed ≡ 0 = omega arith in
    let within : c.loop-number.number < length c.args.steps.now = omega arith in
    begins c.args.steps.now c.args.accesses.now c.args.window.now rows shown c.requires.fresh
    ∙ sym (c.loop-number.invariant.meaning rows)
    ∙ goes c.args.accesses.now c.args.steps.now c.loop-number.number c.loop-number.passed (seen c.args.accesses.now rows c.loop-number.window c.loop-number.registers) c.index-steps-number.result is_undeclared within c.index-steps-number.is none (c.in-Undeclared.ensures.effect rows)
