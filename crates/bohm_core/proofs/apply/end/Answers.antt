use Rattle.std.proofs.Common.{◌≡◌, true, arith}
use Rattle.bohm_core_base.specs.Machine.{all_ready, hold_of, is_held_by}
use Rattle.bohm_core.proofs.Reached.{held_within, shown_to_held, slot_within}
use Rattle.bohm_core.proofs.apply.end.Goals as goal

pub is_filled-requires : goal.is_filled-requires
is_filled-requires g c =
    let held : is_held_by c.args.turn.actor (hold_of c.args.state.now c.args.turn.index) ≡ true = cc (c.is_held.ensures.value, c.if-is_held.true) in
    held_within (g.S.Statements.batch c.args.statements.now) c.args.state.now c.args.turn.actor c.args.turn.index c.requires held

pub must_end-requires-clause-within : goal.must_end-requires-clause-within
must_end-requires-clause-within g c =
    let held : is_held_by c.args.turn.actor (hold_of c.args.state.now c.args.turn.index) ≡ true = cc (c.is_held.ensures.value, c.if-is_held.true) in
    held_within (g.S.Statements.batch c.args.statements.now) c.args.state.now c.args.turn.actor c.args.turn.index c.requires held

pub must_end-requires-clause-slot : goal.must_end-requires-clause-slot
must_end-requires-clause-slot g c =
    slot_within (g.S.Statements.batch c.args.statements.now) c.args.state.now c.args.slot c.requires (omega arith)

pub must_end-requires-clause-shown : goal.must_end-requires-clause-shown
must_end-requires-clause-shown g c =
    let held : is_held_by c.args.turn.actor (hold_of c.args.state.now c.args.turn.index) ≡ true = cc (c.is_held.ensures.value, c.if-is_held.true) in
    let ready : all_ready c.args.state.now c.args.turn.index ≡ true = cc (c.all_ready.ensures, c.if-all_ready.true) in
    shown_to_held (g.S.Statements.batch c.args.statements.now) c.args.state.now c.args.turn.actor c.args.turn.index c.requires held ready
