use Rattle.std.proofs.Common.{◌≡◌, ◌<◌, ◌+◌, ◌∷◌, [], ◌++◌, length, take, sym, ◌∙◌, ap, subst, arith, inl, inr}
use Rattle.std.specs.Prelude.{List}
use Rattle.std.proofs.lemmas.List.{take_all, take_more}
use Rattle.std.proofs.lemmas.Option.{get_or_from_slice_get}
use Rattle.model_base.specs.declared.deed.Grantee.{Grantee}
use Rattle.model_base.specs.Privileges.{has_grantee}
use Rattle.grants.specs.Pass.{concerned}
use Rattle.grants_base.specs.View.{View, slot_at}
use Rattle.grants.proofs.Named.{among_more, grantee-named}
use Rattle.grants.proofs.cascade.named.Goals as goal

pub loop-index-preserved : goal.loop-index-preserved
loop-index-preserved g c =
    let view = g.V.Records.shown c.args.view.now in
    let revocation = c.args.revocation.now in
    let grantees = revocation.grantees in
    let i = c.loop-index.index in
    let one = c.at-grantee.result in
    let here : i < length grantees = omega (arith, c.loop-index-test.true, c.len-index-end.ensures.length) in
    let more : take (i + 1) grantees ≡ take i grantees ++ one ∷ [] =
    take_more grantees i one here ∙ ap (λ (g : Grantee). take i grantees ++ g ∷ []) (get_or_from_slice_get grantees i one one c.at-grantee.ensures) in
    record {
      same = c.add_named_to.ensures.same ∙ c.loop-index.invariant.same;
      found = λ j grant is among named.
          elim (among_more (take i grantees) one grant.grantee (ap (λ (gs : List Grantee). has_grantee gs grant.grantee) (sym more) ∙ among)) [
            | inl before ↦ c.in_ok-add_named_to.ensures.kept j (c.loop-index.invariant.found j grant is before named)
            | inr to ↦
                c.in_ok-add_named_to.ensures.found j grant
                (ap (λ (v : View). concerned (slot_at v j) revocation) c.loop-index.invariant.same ∙ is) to named
          ];
      within = λ j is.
          elim (c.in_ok-add_named_to.ensures.within j is) [
            | inl before ↦ c.loop-index.invariant.within j before
            | inr here ↦ subst (λ (v : View). j < length v.slots) c.loop-index.invariant.same here
          ];
    }

pub returns-clause-found : goal.returns-clause-found
returns-clause-found g c = λ j grant is named.
    let grantees = c.args.revocation.now.grantees in
    let all : take c.loop-index.index grantees ≡ grantees =
    take_all c.loop-index.index grantees (omega (arith, c.loop-index-test.false, c.len-index-end.ensures.length)) in
    c.loop-index.invariant.found j grant is (ap (λ (gs : List Grantee). has_grantee gs grant.grantee) all ∙ grantee-named c.args.revocation.now grant named) named
