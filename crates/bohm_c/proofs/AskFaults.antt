-- The faults of statuses.
use Rattle.std.proofs.Common.{◌≡◌, refl}
use Rattle.std.specs.Prelude.{pos}
use Rattle.fed_run.specs.declared.fault.AskFault.{AskFault}
use Rattle.bohm_c.specs.Statuses.{ask_status}

-- the status of no table has one fault
pub no_table : (fault : AskFault) → ask_status fault ≡ pos 11 → fault ≡ AskFault.NoSuchTable
no_table AskFault.NoMemory is = cc
no_table AskFault.NoSuchTable is = refl
no_table AskFault.Waiting is = cc
