use Rattle.std.proofs.Common.{List, ℕ, ◌∷◌, ap, ◌∙◌}
use Rattle.log_text.specs.Versions.{version_number}
use Rattle.log_text.proofs.KindLists.{kinds_are, kinds_fit}
use Rattle.log_text.proofs.parsing.granting.other_kinds.Goals as goal

pub returns-in-Some-kinds_of-clause-ok : goal.returns-in-Some-kinds_of-clause-ok
returns-in-Some-kinds_of-clause-ok c =
    let v = version_number c.args.version in
    let k = c.in-Some-kinds_of.kinds in
    let is = kinds_are v c.in-Some.word.now k c.in-Some-kinds_of.ensures.0 in
    (c.in-Some.ensures ∙ ap (λ (w : List ℕ). w ∷ c.next.new.self) is.0, is.1.0, is.1.1, kinds_fit v k is.1.0 is.1.1)
