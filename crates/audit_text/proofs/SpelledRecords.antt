-- The grantees of the records that an explanation spells.
use Rattle.std.proofs.Common.{◌≡◌, ℕ, List, refl, subst, sym}
use Rattle.log_text.specs.declared.version.Version.{Version}
use Rattle.model_base.specs.RecordGrantees.{WereGranted}
use Rattle.model_base.specs.declared.deed.Grantee.{Grantee}
use Rattle.report.specs.Text.{HaveGrantees}
use Rattle.sequencer.specs.Log.{Accepted}
use Rattle.audit_text.specs.Explanation.{RecordsMayBeSpelled}

-- version 1 wants no grantees
pub have_grantees : (log : Accepted) (place : ℕ) (ranks : List ℕ) (grantees : List Grantee)
    → (WereGranted log.statements place ranks → HaveGrantees log.names.version log.statements ranks grantees)
    → RecordsMayBeSpelled log place ranks → HaveGrantees log.names.version log.statements ranks grantees
have_grantees log place ranks grantees told may = by_version log.names.version refl
  where
    by_version : (version : Version) → log.names.version ≡ version → HaveGrantees log.names.version log.statements ranks grantees
    by_version Version.One is = subst (λ (v : Version). HaveGrantees v log.statements ranks grantees) (sym is) tt
    by_version Version.Two is = told (may is)
