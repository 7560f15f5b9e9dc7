use Rattle.std.proofs.Common.{List, ℕ, ◌∷◌, ap, sym, ◌∙◌}
use Rattle.log_text.specs.Versions.{version_number}
use Rattle.log_text.proofs.GranteeLists.{grantees_read, listed_are, name_parts}
use Rattle.log_text.proofs.parsing.granting.grantees.Goals as goal

pub returns-in-Some-clause-ok : goal.returns-in-Some-clause-ok
returns-in-Some-clause-ok c =
    let v = version_number c.args.version in
    let p = name_parts v c.in-Some.name.now c.in-Some.ensures.1 in
    let q = listed_are v c.in-Some.name.now c.of_name.result c.of_name.ensures p.0 p.1 in
    (c.in-Some.ensures.0 ∙ ap (λ (w : List ℕ). w ∷ c.next_name.new.self) q.0, q.1, q.2, q.3)

pub returns-clause-ok : goal.returns-clause-ok
returns-clause-ok c =
    grantees_read (version_number c.args.version) c.in-Some-next.word.now c.args.words.now c.next.new.self c.listed_in.result
    (sym c.in_default.ensures.1 ∙ c.in-Some-next.ensures) c.listed_in.ensures.value c.listed_in.ensures.parts c.listed_in.ensures.fits
