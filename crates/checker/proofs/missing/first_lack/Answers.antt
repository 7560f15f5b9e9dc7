use Rattle.std.proofs.Common.{◌≡◌, false, [], ◌∷◌, sym, ap, ◌∙◌, subst}
use Rattle.std.specs.Prelude.{IsTrue, is_some}
use Rattle.std.proofs.lemmas.List.Elements.{All-tail}
use Rattle.model_base.specs.declared.deed.Need.{Need}
use Rattle.grants_base.specs.View.{covers}
use Rattle.checker.specs.Missing.{Covers, first_lack}
use Rattle.checker.proofs.MissingLaws.{lack-right}
use Rattle.checker.proofs.missing.first_lack.Goals as goal

-- a need that is held is passed over
pub needs-preserved : goal.needs-preserved
needs-preserved g c =
    let view = g.V.Records.shown c.args.view.now in
    let need = c.in-Some.need in
    let later = c.next.new.self in
    let split : c.needs.needs ≡ need ∷ later = c.in-Some.ensures in
    let told = rw c.needs.invariant.same at c.lack_of-lack.ensures.lack in
    let none : is_some (first_lack view c.args.user (need ∷ [])) ≡ false = ap is_some (sym told) ∙ sym c.is_some.ensures ∙ c.if-is_some.false in
    record {
      same = c.lack_of-lack.ensures.same ∙ c.needs.invariant.same;
      covered = All-tail (λ (n : Need). IsTrue (covers view n.table)) need later (subst (Covers view) split c.needs.invariant.covered);
      rest = sym (lack-right view c.args.user (need ∷ []) later none) ∙ ap (first_lack view c.args.user) (sym split) ∙ c.needs.invariant.rest;
    }
