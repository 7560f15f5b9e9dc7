-- What work that ended for want of something says that its log lacks.
use Rattle.std.proofs.Common.{◌≡◌, ℕ, Err, Ok, Result, refl, subst}
use Rattle.std.specs.Prelude.{IfErr}
use Rattle.audit_text.specs.declared.fault.WorkFault.{WorkFault}
use Rattle.command_line.specs.Tasks.{IsLack}

-- what is so at each fault of this sort is so at the fault of the end
pub lacking : (ended : Result (Unit {0}) WorkFault) (P : WorkFault → Type 0)
    → ((places : ℕ) → ended ≡ Err (WorkFault.NoSuchPlace places) → P (WorkFault.NoSuchPlace places))
    → (ended ≡ Err WorkFault.NoSuchTable → P WorkFault.NoSuchTable) → (ended ≡ Err WorkFault.NoSuchUser → P WorkFault.NoSuchUser)
    → IfErr ended (λ fault. IsLack fault → P fault)
lacking (Ok value) P place table user = tt
lacking (Err (WorkFault.NoSuchPlace places)) P place table user = λ _. place places refl
lacking (Err WorkFault.NoSuchTable) P place table user = λ _. table refl
lacking (Err WorkFault.NoSuchUser) P place table user = λ _. user refl
lacking (Err (WorkFault.Run fault)) P place table user = λ lack. absurd lack

-- an end that isn't by a fault doesn't lack by it
pub not_by : (ended : Result (Unit {0}) WorkFault) (P : WorkFault → Type 0) (fault : WorkFault) → IfErr ended P → ended ≡ Err fault → P fault
not_by (Ok value) P fault holds is =
    let never : ⊥ = cc in
    absurd never
not_by (Err found) P fault holds is =
    let same : found ≡ fault = cc in
    subst P same holds
