use Rattle.std.proofs.Common.{◌≡◌, ◌<◌, true, not, length, sym, refl, arith}
use Rattle.bohm_core_base.specs.Machine.{end_of}
use Rattle.bohm_core_base.specs.Serial.{is_end}
use Rattle.bohm_core.proofs.Below.{all_below_fails}
use Rattle.bohm_core.proofs.apply.has_none.Goals as goal

pub returns-then-is_ended_by : goal.returns-then-is_ended_by
returns-then-is_ended_by c =
    let slot = c.loop-slot.slot in
    let within : slot < length c.args.state.now.ends = omega arith in
    let ended : is_end c.args.place (end_of c.args.state.now slot) ≡ true = cc in
    sym (all_below_fails (λ slot. not (is_end c.args.place (end_of c.args.state.now slot))) (length c.args.state.now.ends) slot within (rw ended refl))
