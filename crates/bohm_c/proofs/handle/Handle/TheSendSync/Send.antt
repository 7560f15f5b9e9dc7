use mathlib.Core.Bool.{Bool, true, false}
use base.Shift.{Keyless}
use denote.RawPtr.{Ptr}
use mir.Raw.{raw}
use denote.Memory.{lone}
use denote.Struct.Struct.{exits_of}
use denote.Struct.Owning.{shape, fields, to}
use denote.Param.Send.{IsSend, AllSend, owning_send, struct_send, sendable}
use Rattle.std.specs.Prelude.{Option, Some, None}
use Rattle.std.specs.Global.{Global}
use Rattle.bohm_c.specs.Held.{handle_owns}
use Rattle.std.proofs.Crossing as heap
use Rattle.std_alloc.proofs.SendSync.{quiet, lies}
use Rattle.std_heap.proofs.Global.TheSendSync as handle
use Rattle.fed_run.specs.contracts.fed.FedRun as Run
use Rattle.fed_run.proofs.fed.FedRun.TheSendSync.{the_send as run}
use Rattle.bohm_c.specs.contracts.handle.Handle.{the_row, the_type}

keyless : (t : Bool) (a : Global) (p : Ptr) (r : Option (Run.the_row).Denot) → Keyless (handle_owns t a p r)
keyless true a p (Some x) = (lies Run.the_row run p x, heap.frees.frees a (raw (lone (Run.the_row).mir)) p)
keyless true a p None = tt
keyless false a p (Some x) = tt
keyless false a p None = tt

pub send : IsSend the_row
send =
    let all : AllSend (fields the_type) = (search sendable, (search sendable, (handle.the_field_send, tt))) in
    owning_send the_type all (λ d. keyless d.is_open d.alloc d.at d.run)
    (λ k. quiet (to the_type) (exits_of k (fields the_type)) ((struct_send (shape the_type) all).leaving k))
