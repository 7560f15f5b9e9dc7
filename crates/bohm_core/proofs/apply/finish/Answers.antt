use Rattle.std.proofs.Common.{◌≡◌, true}
use Rattle.bohm_core_base.specs.Machine.{all_filled, hold_of, is_held_by}
use Rattle.bohm_core.proofs.Reached.{held_within, shown_to_filled}
use Rattle.bohm_core.proofs.apply.finish.Goals as goal

pub is_filled-requires : goal.is_filled-requires
is_filled-requires g c =
    let held : is_held_by c.args.turn.actor (hold_of c.args.state.now c.args.turn.index) ≡ true = cc (c.is_held.ensures.value, c.if-is_held.true) in
    held_within (g.S.Statements.batch c.args.statements.now) c.args.state.now c.args.turn.actor c.args.turn.index c.requires held

pub has_ended-requires-clause-within : goal.has_ended-requires-clause-within
has_ended-requires-clause-within g c =
    let held : is_held_by c.args.turn.actor (hold_of c.args.state.now c.args.turn.index) ≡ true = cc (c.is_held.ensures.value, c.if-is_held.true) in
    held_within (g.S.Statements.batch c.args.statements.now) c.args.state.now c.args.turn.actor c.args.turn.index c.requires held

pub has_ended-requires-clause-shown : goal.has_ended-requires-clause-shown
has_ended-requires-clause-shown g c =
    let batch = g.S.Statements.batch c.args.statements.now in
    let held : is_held_by c.args.turn.actor (hold_of c.args.state.now c.args.turn.index) ≡ true = cc (c.is_held.ensures.value, c.if-is_held.true) in
    let filled : all_filled batch c.args.state.now c.args.turn.index ≡ true = cc (c.is_filled.ensures, c.if-is_filled.true) in
    shown_to_filled batch c.args.state.now c.args.turn.actor c.args.turn.index c.requires held filled
