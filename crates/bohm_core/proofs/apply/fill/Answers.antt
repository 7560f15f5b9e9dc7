use Rattle.std.proofs.Common.{◌≡◌, true}
use Rattle.bohm_core_base.specs.Machine.{all_ready, hold_of, is_held_by}
use Rattle.bohm_core.proofs.Reached.{held_within, shown_to_held}
use Rattle.bohm_core.proofs.apply.fill.Goals as goal

pub is_due-requires : goal.is_due-requires
is_due-requires g c =
    let held : is_held_by c.args.turn.actor (hold_of c.args.state.now c.args.turn.index) ≡ true = cc (c.is_held.ensures.value, c.if-is_held.true) in
    held_within (g.S.Statements.batch c.args.statements.now) c.args.state.now c.args.turn.actor c.args.turn.index c.requires held

pub next_word-requires-clause-within : goal.next_word-requires-clause-within
next_word-requires-clause-within g c =
    let held : is_held_by c.args.turn.actor (hold_of c.args.state.now c.args.turn.index) ≡ true = cc (c.is_held.ensures.value, c.if-is_held.true) in
    held_within (g.S.Statements.batch c.args.statements.now) c.args.state.now c.args.turn.actor c.args.turn.index c.requires held

pub next_word-requires-clause-shown : goal.next_word-requires-clause-shown
next_word-requires-clause-shown g c =
    let held : is_held_by c.args.turn.actor (hold_of c.args.state.now c.args.turn.index) ≡ true = cc (c.is_held.ensures.value, c.if-is_held.true) in
    let ready : all_ready c.args.state.now c.args.turn.index ≡ true = cc (c.all_ready.ensures, c.if-all_ready.true) in
    shown_to_held (g.S.Statements.batch c.args.statements.now) c.args.state.now c.args.turn.actor c.args.turn.index c.requires held ready
