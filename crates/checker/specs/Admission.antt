-- Whether a statement is admitted after some deeds: by the first of its needs that its user doesn't hold, if there is one.
-- That each privilege is checked when it is used is from P. P. Griffiths and B. W. Wade, "An Authorization Mechanism for a
-- Relational Database System", ACM Transactions on Database Systems 1 (1976).
use Rattle.std.specs.Prelude.{ℕ, not, Option, Some, None, List}
use Rattle.std.specs.List.{find}
use Rattle.model_base.specs.declared.deed.Deed.{Deed}
use Rattle.model_base.specs.declared.deed.Need.{Need}
use Rattle.model_base.specs.declared.statement.Form.{Form}
use Rattle.model_base.specs.Outcomes.{cause, needs}
use Rattle.model_base.specs.Privileges.{holds}
use Rattle.grants.specs.Loss.{cause_in}
use Rattle.grants_base.specs.View.{View}
use Rattle.checker.specs.declared.admission.Admission.{Admission}

-- the first missing need denies, with its cause
abbrev pub admitted_if : List ℕ → List Deed → ℕ → Option Need → Admission
admitted_if owners deeds user None = Admission.Admitted
admitted_if owners deeds user (Some need) = Admission.Denied need (cause owners deeds user need)

-- whether a statement of this form is admitted for the user after the deeds
abbrev pub admission : List ℕ → List Deed → ℕ → Form → Admission
admission owners deeds user form = admitted_if owners deeds user (find (λ need. not (holds owners deeds user need)) (needs form))

-- the same by what the records of a view say: the first missing need denies, with the place at which it was lost last
abbrev pub told_if : View → ℕ → Option Need → Admission
told_if view user None = Admission.Admitted
told_if view user (Some need) = Admission.Denied need (cause_in view user need)
