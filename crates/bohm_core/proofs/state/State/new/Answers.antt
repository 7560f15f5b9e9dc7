use Rattle.std.proofs.Common.{◌≡◌, List, length, ap, sym, ◌∙◌, []}
use Rattle.std.proofs.lemmas.List.{length-replicate}
use Rattle.bohm_core_base.specs.declared.hold.Hold.{Hold}
use Rattle.bohm_core_base.specs.declared.hold.Hold.TheVariants.{Free}
use Rattle.bohm_core.proofs.Vectors.{lists-length, empty-length}
use Rattle.bohm_core.proofs.state.State.new.Goals as goal

pub invariant_of-result : goal.invariant_of-result
invariant_of-result g c =
    let batch = g.S.Statements.batch c.args.statements.now in
    let places = c.places-places.result in
    let references : length c.in_ok-no_references.field-0.items ≡ places =
    lists-length c.in_ok-no_references.field-0.items _ c.in_ok-no_references.ensures ∙ empty-length batch places in
    let holds : length c.in_ok-free_holds.field-0.items ≡ places =
    ap (λ (holds : List Hold). length holds) c.in_ok-free_holds.ensures ∙ length-replicate places Free in
    let own : length c.in_ok-no_words.field-0.items ≡ places =
    lists-length c.in_ok-no_words.field-0.items _ c.in_ok-no_words.ensures ∙ length-replicate places [] in
    record { holds_too = holds ∙ sym references; own_too = own ∙ sym references }
