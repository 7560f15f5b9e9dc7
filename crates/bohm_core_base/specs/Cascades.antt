-- How a revocation ends records: those that it names, and with each the later ones that it bore. A grant falls with the options
-- by which its grantor made it: P. P. Griffiths and B. W. Wade, "An Authorization Mechanism for a Relational Database System",
-- ACM TODS 1 (1976).
use Rattle.std.specs.Prelude.{◌≡◌, ◌⊎◌, ◌<◌, ℕ, true, Some, [], ◌∷◌, slice_get}
use Rattle.model_base.specs.declared.deed.Deed.TheVariants.{Revoking}
use Rattle.model_base.specs.declared.deed.Grant.{Grant}
use Rattle.model_base.specs.declared.deed.Revocation.{Revocation}
use Rattle.model_base.specs.Privileges.{gives, names, option_of}
use Rattle.bohm_core_base.specs.Batch.{Batch, batch_slots}
use Rattle.bohm_core_base.specs.Serial.{serial_ends}

-- the place ends the record of an earlier slot too, whose grant gave the grantor of this one the option
pub record FallsWith (batch : Batch) (index slot : ℕ) (grant : Grant) : Type 0 where
  pub bearer : ℕ
  pub giver : Grant
  pub earlier : bearer < slot
  pub at : slice_get (batch_slots batch) bearer ≡ Some giver
  pub ends : serial_ends batch index bearer ≡ true
  pub lends : gives giver grant.grantor (option_of grant) ≡ true

-- the deed of the place is one revocation, which names the slot's grant, or the grant falls with an earlier one
pub record EndsByCascade (batch : Batch) (index slot : ℕ) : Type 0 where
  pub within : index < batch.size
  pub revocation : Revocation
  pub deed : batch.deeds index ≡ Revoking revocation ∷ []
  pub grant : Grant
  pub at : slice_get (batch_slots batch) slot ≡ Some grant
  pub cause : (names revocation grant ≡ true) ⊎ FallsWith batch index slot grant
