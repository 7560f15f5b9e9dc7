-- A flush that failed, at the end of what was written.
use Rattle.std.proofs.Common.{◌≡◌, ◌<◌, ℕ, arith}
use Rattle.std.specs.Prelude.{◌-◌, ◌^◌, Err, IfErr, Ok, OnOk, Result}
use Rattle.line_io.specs.Known.{raised}
use Rattle.line_io.specs.declared.fault.EngineFault.{EngineFault}
use Rattle.audit_text.specs.Faults.{IsOfPlace}
use Rattle.audit_text.specs.declared.fault.WorkFault.{WorkFault}

-- it counts as a failure of the writer
pub flush_counts : (ended : Result (Unit {0}) WorkFault) (read_old read_new old mid new : ℕ) (P Q : Type 0)
    → ended ≡ Err (WorkFault.Run EngineFault.Write) → mid ≡ old → new ≡ raised mid
    → ((ended ≡ Err (WorkFault.Run EngineFault.Read) → read_old < 2 ^ 64 - 1 → read_old < read_new)
    × (ended ≡ Err (WorkFault.Run EngineFault.Write) → old < 2 ^ 64 - 1 → old < new)) × (OnOk ended P × OnOk ended Q)
flush_counts (Ok value) read_old read_new old mid new P Q is same err =
    let never : ⊥ = cc in
    absurd never
flush_counts (Err fault) read_old read_new old mid new P Q is same err =
    (((λ no room. let never : ⊥ = cc (is, no) in absurd never), (λ _ room. omega (arith, same, err, room))), (tt, tt))

-- and is a fault of an answer that is asked of a place
pub flush_alone : (ended : Result (Unit {0}) WorkFault) → ended ≡ Err (WorkFault.Run EngineFault.Write) → IfErr ended IsOfPlace
flush_alone (Ok value) is = tt
flush_alone (Err fault) is = (
  (
    ((λ no. let never : ⊥ = cc (is, no) in absurd never), (λ no. let never : ⊥ = cc (is, no) in absurd never)),
    (λ no. let never : ⊥ = cc (is, no) in absurd never),
  ),
  (λ no. let never : ⊥ = cc (is, no) in absurd never),
)
