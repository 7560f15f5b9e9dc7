use Rattle.std.proofs.Common.{rules, ◌≡◌, ◌<◌, ◌+◌, true, false, length, sym, refl, arith}
use Rattle.std.specs.Prelude.{if◌then◌else◌}
use Rattle.bohm_core_base.specs.Machine.{end_of, must_end}
use Rattle.bohm_core_base.specs.Serial.{is_end}
use Rattle.bohm_core.proofs.Below.{all_below_fails}
use Rattle.bohm_core.proofs.apply.has_ended.Goals as goal

pub returns-then-branch : goal.returns-then-branch
returns-then-branch g c =
    let batch = g.S.Statements.batch c.args.statements.now in
    let state = c.args.state.now in
    let index = c.args.index in
    let slot = c.loop-slot.slot in
    let within : slot < length state.ends = omega arith in
    let must : must_end batch state index slot ≡ true = cc (c.in_ok-must_end.ensures, c.if-branch.true) in
    let open_yet : is_end c.args.place (end_of state slot) ≡ false = search rules in
    let fails : (if must_end batch state index slot then is_end (batch.first + index) (end_of state slot) else true) ≡ false =
    rw (must, ← c.requires.place, open_yet) refl in
    sym
    (all_below_fails (λ slot. if must_end batch state index slot then is_end (batch.first + index) (end_of state slot) else true)
    (length state.ends) slot within fails)
