use Rattle.std.proofs.Common.{List, ℕ, ◌∷◌, ap, ◌∙◌}
use Rattle.log_text.specs.Fault.{expected_in_grant, fault_from}
use Rattle.log_text.specs.Statement.{kinds_word}
use Rattle.log_text.specs.Versions.{version_number}
use Rattle.log_text.proofs.Fits.{grant_goes}
use Rattle.log_text.proofs.parsing.deeds.grant.Goals as goal

pub returns-in-Err-clause-fault : goal.returns-in-Err-clause-fault
returns-in-Err-clause-fault c =
    let k = c.in_ok-kinds.ensures.ok in
    let t = c.in_ok-table.ensures.ok in
    let g = c.in_ok-grantees.ensures.ok in
    let v = version_number c.args.version in
    ap (fault_from (expected_in_grant v))
    (k.0 ∙ ap (λ (ws : List (List ℕ)). kinds_word c.in_ok-kinds.kinds ∷ ws) (t.0 ∙ ap (λ (ws : List (List ℕ)). c.in_ok-table.table ∷ ws) g.0))
    ∙ grant_goes v c.in_ok-kinds.kinds c.in_ok-table.table c.in_ok-grantees.grantees c.grantees.new.words k.3 t.1 g.1 g.2
    ∙ c.in-Err.ensures.fault
