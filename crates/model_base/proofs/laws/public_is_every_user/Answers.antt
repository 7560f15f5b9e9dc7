use Rattle.std.proofs.Common.{refl, ◌∙◌, ap, false}
use Rattle.model_base.specs.declared.deed.Grantee.{Grantee}
use Rattle.model_base.specs.Privileges.{option_of, reaches}
use Rattle.model_base.proofs.Reaching.{gives_kind, gives_option, lends_none}
use Rattle.model_base.proofs.laws.public_is_every_user.Goals as goal

pub returns-clause-public : goal.returns-clause-public
returns-clause-public c = λ grant user is. gives_kind grant user ∙ ap (λ (g : Grantee). reaches g user false) is

pub returns-clause-one : goal.returns-clause-one
returns-clause-one c = λ grant grantee user is. gives_kind grant user ∙ ap (λ (g : Grantee). reaches g user false) is

pub returns-clause-option : goal.returns-clause-option
returns-clause-option c = λ grant user. gives_option grant user (option_of grant) refl refl refl

pub returns-clause-no_option : goal.returns-clause-no_option
returns-clause-no_option c = lends_none
