use Rattle.std.proofs.Common.{◌≡◌, ◌++◌, List, [], ◌∷◌, append_assoc, sym, ap, ◌∙◌, subst}
use Rattle.std.specs.Prelude.{All}
use Rattle.std.proofs.lemmas.List.Elements.{All-tail}
use Rattle.model_base.specs.declared.deed.Deed.{Deed}
use Rattle.model_base.specs.declared.deed.Deed.TheVariants.{Granting}
use Rattle.model_base.specs.declared.deed.Grant.{Grant}
use Rattle.model_base.specs.Laws.{IsGranting}
use Rattle.model_base.specs.Records.{grants_of}
use Rattle.filling.proofs.completion.changes.push_grants.Goals as goal

pub grants-preserved : goal.grants-preserved
grants-preserved c =
    let grant = c.in-Some-Granting.grant in
    let before : List Grant = c.grants.grants.items in
    let left : List Deed = c.next.new.self in
    let split : c.grants.rest ≡ Granting grant ∷ left = c.in-Some-Granting.ensures ∙ ap (λ (d : Deed). d ∷ left) c.in-Some-Granting.field-0-is in
    record {
      all =
          ap (λ (gs : List Grant). gs ++ grants_of left) c.in_ok-push.ensures.items ∙ append_assoc before (grant ∷ []) (grants_of left)
          ∙ ap (λ (ds : List Deed). before ++ grants_of ds) (sym split) ∙ c.grants.invariant.all;
      granting = All-tail IsGranting (Granting grant) left (subst (All IsGranting) split c.grants.invariant.granting);
    }
