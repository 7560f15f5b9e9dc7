use Rattle.std.proofs.Common.{◌≡◌, ◌↔◌, ◌∷◌, ◌++◌, ℕ, true, false, List, [], Some, sym, ◌∙◌, ap, subst}
use Rattle.model_base.specs.declared.deed.Deed.{Deed}
use Rattle.model_base.specs.declared.deed.Deed.TheVariants.{Revoking}
use Rattle.model_base.specs.declared.deed.Record.{Record}
use Rattle.model_base.specs.Privileges.{IsProper, deeds_below, is_among, kept}
use Rattle.model_base.specs.Records.{end_after, in_force, recorded, records}
use Rattle.model_base.proofs.Cuts.{deeds_below-proper}
use Rattle.audit_text.specs.Drawn.{drawn, fallen}
use Rattle.audit_text.proofs.Below.{drawn-cut, split-at}
use Rattle.audit_text.proofs.Fallen.{fallen-lost, fallen-none}
use Rattle.audit_text.proofs.graph_laws.edges_are_grants_in_force.Goals as goal

pub returns-clause-edges : goal.returns-clause-edges
returns-clause-edges c = λ book owners deeds place shows.
    let proper = deeds_below-proper owners place deeds shows.proper in
    ap (λ (entries : List Record). recorded (drawn place entries)) shows.same
    ∙ drawn-cut place (records owners deeds)
    ∙ ap in_force (sym (c.earlier_records_are_cut.ensures.below owners place deeds shows.proper))
    ∙ c.unended_records_are_in_force.ensures.in_force owners (deeds_below place deeds) proper

pub returns-clause-dashed : goal.returns-clause-dashed
returns-clause-dashed c = λ book owners deeds revocation shows there.
    let place = revocation.place in
    let past = deeds_below place deeds in
    let split = split-at owners deeds revocation shows.proper there in
    let force = drawn-cut place (records owners deeds)
    ∙ ap in_force (sym (c.earlier_records_are_cut.ensures.below owners place deeds shows.proper))
    ∙ c.unended_records_are_in_force.ensures.in_force owners past (deeds_below-proper owners place deeds shows.proper) in
    let falls : (ranked : ℕ) → (end_after owners [] deeds ranked ≡ Some place)
    ↔ ((is_among ranked (kept owners past) ≡ true) × (is_among ranked (kept owners (past ++ Revoking revocation ∷ [])) ≡ false))
    = λ ranked. subst (λ (ds : List Deed). (end_after owners [] ds ranked ≡ Some place)
    ↔ ((is_among ranked (kept owners past) ≡ true) × (is_among ranked (kept owners (past ++ Revoking revocation ∷ [])) ≡ false))) (sym split.1)
    (c.ends_are_losses.ensures owners past (Revoking revocation) split.0 ranked (subst (IsProper owners) split.1 shows.proper)) in
    ap (fallen place) shows.same ∙ fallen-lost owners deeds past revocation falls force

pub returns-clause-plain : goal.returns-clause-plain
returns-clause-plain c = λ book owners deeds place shows others.
    ap (fallen place) shows.same
    ∙ fallen-none owners deeds place
    (λ k d less end is. let by = c.ends_are_revocations.ensures.revocation owners deeds shows.proper k d less end is in (by.0, by.1, by.2))
    others
