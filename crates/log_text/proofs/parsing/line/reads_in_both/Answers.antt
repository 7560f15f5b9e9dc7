-- A statement of version 1 is one of version 2.
use Rattle.std.proofs.Common.{Some, None, refl}
use Rattle.log_text.specs.Statement.{IsDeedOf, IsFormOf}
use Rattle.log_text.specs.declared.statement.RawDeed.{RawDeed}
use Rattle.log_text.specs.declared.statement.RawDeed.TheVariants.{Grant, Revoke}
use Rattle.log_text.specs.declared.statement.RawForm.{RawForm}
use Rattle.log_text.specs.declared.statement.RawForm.TheVariants.{Create, Run, Deed}
use Rattle.log_text.proofs.parsing.line.reads_in_both.Goals as goal

deed_of : (d : RawDeed) → IsDeedOf 2 d
deed_of (Grant k t g o) = (refl, refl)
deed_of (Revoke k t g) = (refl, refl)

form_of : (f : RawForm) → IsFormOf 2 f
form_of (Create t n) = tt
form_of (Run xs ss None) = tt
form_of (Run xs ss (Some d)) = deed_of d
form_of (Deed d) = deed_of d

pub returns : goal.returns
returns c = λ line s reads. record { same = reads.same; grammar = reads.grammar; lists = form_of s.form }
