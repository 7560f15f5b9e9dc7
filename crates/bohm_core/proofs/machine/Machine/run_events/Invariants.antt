use Rattle.std.proofs.Common.{◌≡◌, take}
use Rattle.bohm_core.specs.Running.{after_events}
use Rattle.bohm_core.proofs.machine.Machine.run_events.Given as goal

abbrev pub invariant-loop-event : goal.invariant-loop-event
invariant-loop-event g l = l.self ≡ after_events g.S.Statements.batch l.initial.self (take l.event-index l.events)
