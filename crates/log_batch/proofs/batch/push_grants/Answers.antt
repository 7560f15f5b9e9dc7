use Rattle.std.proofs.Common.{◌≡◌, ◌∷◌, [], ◌++◌, List, sym, ap, ◌∙◌, append_assoc}
use Rattle.model_base.specs.declared.deed.Deed.{Deed}
use Rattle.model_base.specs.declared.deed.Grant.{Grant}
use Rattle.model_base.specs.Records.{grants_of}
use Rattle.model_base.proofs.Records.{grants-append}
use Rattle.log_batch.proofs.batch.push_grants.Goals as goal

pub deeds-preserved : goal.deeds-preserved
deeds-preserved c =
    let deed = c.in-Some.deed in
    let rest = c.next.new.self in
    let split : c.deeds.deeds ≡ deed ∷ rest = c.in-Some.ensures in
    ap (λ (grants : List Grant). grants ++ grants_of rest) c.in_ok-push_grant.ensures
    ∙ append_assoc c.deeds.grants (grants_of (deed ∷ [])) (grants_of rest)
    ∙ ap (λ (grants : List Grant). c.deeds.grants ++ grants) (sym (grants-append (deed ∷ []) rest))
    ∙ ap (λ (deeds : List Deed). c.deeds.grants ++ grants_of deeds) (sym split)
    ∙ c.deeds.invariant
