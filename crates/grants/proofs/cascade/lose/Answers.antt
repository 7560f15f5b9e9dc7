use Rattle.std.proofs.Common.{◌≡◌, ◌<◌, ◌≤◌, not, true, length, ◌∙◌, ap, subst, arith, inl, inr}
use Rattle.std.specs.Prelude.{◌⊎◌}
use Rattle.std.proofs.lemmas.Bool.{and_parts, cases_lt}
use Rattle.grants.specs.Pass.{concerned}
use Rattle.grants.specs.Work.{bears, slots_of}
use Rattle.grants_base.specs.Index.{is_one_of}
use Rattle.grants_base.specs.View.{View, slot_at}
use Rattle.grants.proofs.Asked.{not_false, nothing_past}
use Rattle.grants.proofs.cascade.lose.Goals as goal

pub first_bearer-first-requires-clause-passed : goal.first_bearer-first-requires-clause-passed
first_bearer-first-requires-clause-passed g c =
    let view = g.V.Records.shown c.args.view.now in
    let ended = slots_of c.args.work.now.ended.ends in
    c.passed_by-passed.ensures c.args.revocation.now view ended c.requires

pub returns-clause-found : goal.returns-clause-found
returns-clause-found g c = λ j grant from is by kind.
    let view = g.V.Records.shown c.args.view.now in
    let ended = slots_of c.args.work.now.ended.ends in
    let first = c.first_bearer-first.result in
    elim (cases_lt first j) [
      | inl above ↦ elim (cases_lt j (length view.slots)) [
        | inl within ↦
            let less : first < c.slots-end.result = omega (arith, above, within, c.slots-end.ensures) in
            let parts = and_parts (bears c.args.revocation.now c.args.holder.now.user c.args.holder.now.kind (slot_at view first)) (not (is_one_of ended first)) (c.first_bearer-first.ensures.found less) in
            inr (first, above, not_false (is_one_of ended first) parts.1, parts.0)
        | inr over ↦ absurd (nothing_past view c.args.revocation.now j grant over is)
      ]
      | inr low ↦
          inl (c.in_ok-add_grants_by.ensures.found j grant from (omega (arith, low))
          (ap (λ (v : View). concerned (slot_at v j) c.args.revocation.now) c.first_bearer-first.ensures.same ∙ is) by kind)
    ]

pub returns-clause-passed : goal.returns-clause-passed
returns-clause-passed g c =
    c.in_ok-put.ensures c.args.revocation.now (g.V.Records.shown c.args.view.now) (slots_of c.args.work.now.ended.ends) c.first_bearer-first.ensures.passed c.requires

pub returns-clause-within : goal.returns-clause-within
returns-clause-within g c = λ j is.
    subst (λ (v : View). (is_one_of c.args.work.now.due j ≡ true) ⊎ ((c.args.start ≤ j) × (j < length v.slots))) c.first_bearer-first.ensures.same (c.in_ok-add_grants_by.ensures.within j is)
