-- What a handle owns: where it is open, what a box of its run owns, and where it is closed nothing.
use mathlib.Core.Bool.{Bool, true, false}
use base.Fml.{Fml, ftrue, ffalse}
use base.Stored.{Coded}
use Rattle.std.specs.Coded.{coded_option}
use denote.RawPtr.{Ptr}
use Rattle.std.specs.Prelude.{Option, Some, None}
use Rattle.std.specs.Global.{Global}
use Rattle.std_alloc.specs.Box.Ownership.{box_owns}
use Rattle.std_heap.specs.contracts.GlobalAllocator.TheImpl.{ghosts}
use Rattle.fed_run.specs.contracts.fed.FedRun.{the_row}

abbrev pub handle_owns : Bool → Global → Ptr → Option the_row.Denot → Fml
handle_owns true alloc at (Some run) = box_owns (ghosts.dealloc_token alloc) the_row at run
handle_owns true alloc at None = ffalse
handle_owns false alloc at (Some run) = ffalse
handle_owns false alloc at None = ftrue

-- how the logic stores what the ghost field has
abbrev pub run_coded : Coded (Option the_row.Denot)
run_coded = coded_option the_row.coded
